use Rattle.std.proofs.Common.{◌≡◌, ℕ, Some, true, refl, sym, subst, ◌∙◌}
use Rattle.std.proofs.lemmas.Bool.{eq-eqb}
use Rattle.kept_replies.specs.Index.{marked_in}
use Rattle.kept_replies.proofs.IndexLaws.{slot_is, read_as, then_slot}
use Rattle.kept_replies.proofs.index.slot_of.Goals as goal

pub returns-clause-only : goal.returns-clause-only
returns-clause-only c = λ s lead.
    let tag = c.args.tag in
    let mark = c.args.mark in
    let is = slot_is tag mark s lead in
    let read : c.mark_in.result ≡ Some mark = c.mark_in.ensures ∙ subst (λ (n : ℕ). marked_in tag n ≡ Some mark) is (read_as tag mark s lead) in
    let same : c.eq.result ≡ true = c.eq.ensures ∙ rw read (eq-eqb mark mark refl) in
    then_slot _ s c.eq.result c.then_some.result c.then_some.ensures same (sym is)
