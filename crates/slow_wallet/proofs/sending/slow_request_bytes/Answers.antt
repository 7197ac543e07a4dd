use Rattle.std.proofs.Common.{◌≡◌, ℕ, List, ◌++◌, ◌∙◌, ap}
use Rattle.wallet_model.specs.Asks.{request_bytes}
use Rattle.slow_wallet.proofs.sending.slow_request_bytes.Goals as goal

-- behind what is known to stand there
after : (a b c t : List ℕ) → a ≡ b ++ t → b ≡ c → a ≡ c ++ t
after a b c t e f = e ∙ ap (λ (z : List ℕ). z ++ t) f

pub returns : goal.returns
unfolding request_bytes
returns c =
    after _ _ _ _ c.in_ok-extend_from_slice.ensures.items
    (after _ _ _ _ c.in_ok-write_field-3.ensures
    (after _ _ _ _ (rw c.sign_text.ensures at c.in_ok-write_field-2.ensures)
    (after _ _ _ _ c.in_ok-write_scrip.ensures
    (after _ _ _ _ c.in_ok-write_field.ensures (rw c.new-out.ensures.items at c.in_ok-write_start.ensures)))))
