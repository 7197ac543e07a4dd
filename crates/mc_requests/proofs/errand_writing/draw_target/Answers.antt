use Rattle.std.proofs.Common.{◌≡◌, ℕ, List, ◌++◌, take, codes, append_assoc, subst, sym, ap, ◌∙◌}
use Rattle.std.specs.Prelude.{decimal}
use Rattle.scrip_form.specs.Texts.{IsTarget}
use Rattle.mc_requests.specs.Errands.{draw, IsErrand, errand_text}
use Rattle.mc_requests.proofs.errand_writing.draw_target.Goals as goal

joined : (a k n : List ℕ) → (((a ++ codes "/") ++ k) ++ codes "/") ++ n ≡ a ++ (codes "/" ++ (k ++ (codes "/" ++ n)))
joined a k n =
    append_assoc ((a ++ codes "/") ++ k) (codes "/") n
    ∙ append_assoc (a ++ codes "/") k (codes "/" ++ n)
    ∙ append_assoc a (codes "/") (k ++ (codes "/" ++ n))

pub target_of-requires : goal.target_of-requires
target_of-requires c =
    let account : List ℕ = c.args.account.now in
    let order : ℕ = c.args.order in
    let errand : IsErrand (draw account order c.args.amount) =
    (c.bytes.ensures.name, record { some = c.requires.order.0; within = c.requires.order.1 }, record { some = c.requires.amount; within = c.get.ensures.most }) in
    let text : take c.put_number-at-2.result c.put_number-at-2.new.out ≡ errand_text (draw account order c.args.amount) =
    rw (c.put_number-at-2.ensures.put, c.put-at-4.ensures.put, c.put_number-at.ensures.put, c.put-at-3.ensures.put, c.put-at-2.ensures.put, c.put-at.ensures.put, c.bytes.ensures.value, c.get.ensures.units) (ap (λ (t : List ℕ). codes "/draw/" ++ t) (joined account (decimal order) (decimal c.args.amount))) in
    subst IsTarget (sym text) (c.errands_are_texts.ensures.target (draw account order c.args.amount) errand)
