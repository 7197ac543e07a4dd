use Rattle.std.proofs.Common.{◌≡◌, ℕ, List, ◌++◌, ◌∙◌, ap}
use Rattle.wallet_model.specs.Asks.{request_bytes}
use Rattle.wallet_core.proofs.sending.put_request.Goals as goal

-- behind what is known to stand there
after : (a b c t : List ℕ) → a ≡ b ++ t → b ≡ c → a ≡ c ++ t
after a b c t e f = e ∙ ap (λ (z : List ℕ). z ++ t) f

pub returns-clause-bytes : goal.returns-clause-bytes
unfolding request_bytes
returns-clause-bytes c =
    after _ _ _ _ c.put.ensures.put
    (after _ _ _ _ c.put_field-at-3.ensures.put
    (after _ _ _ _ (rw c.sign_text.ensures at c.put_field-at-2.ensures.put)
    (after _ _ _ _ c.put_scrip-at.ensures.written
    (after _ _ _ _ (rw c.bytes-2.ensures.value at c.put_field-at.ensures.put) (rw c.bytes.ensures.value at c.put_start-at.ensures.written)))))
