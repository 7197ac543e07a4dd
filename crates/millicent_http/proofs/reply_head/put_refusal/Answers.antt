use Rattle.std.proofs.Common.{ℕ, List, ◌++◌, ◌∙◌, ap, take, append_assoc}
use Rattle.std.specs.Prelude.{codes}
use Rattle.mc_requests.specs.Refusals.{refusal_text}
use Rattle.millicent_http.proofs.Appends.{after}
use Rattle.millicent_http.proofs.reply_head.put_refusal.Goals as goal

pub returns-clause-put : goal.returns-clause-put
returns-clause-put c =
    let front : List ℕ = take c.args.at c.args.out.now in
    let text : List ℕ = refusal_text c.in-Some.refusal.now in
    rw c.in-Some.is (after _ _ _ _ c.put.ensures.put (after _ _ _ _ c.put_refusal_text-at.ensures.put c.put-at.ensures.put)
    ∙ ap (λ (z : List ℕ). z ++ codes "\r\n") (append_assoc front (codes "Millicent-Refusal: ") text)
    ∙ append_assoc front (codes "Millicent-Refusal: " ++ text) (codes "\r\n"))
