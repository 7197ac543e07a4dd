use Rattle.std.proofs.Common.{◌≡◌, ◌∙◌, ap, refl, ◌%◌, ◌/◌, Bool, eqb, not, ◌&&◌}
use Rattle.std.specs.Bool.{then_some}
use Rattle.std.proofs.lemmas.Bool.{eq-eqb, ne_eqb}
use Rattle.kept_replies.specs.declared.index.TheConstants.{MARKS, SHORTS}
use Rattle.kept_replies.specs.Index.{marked_in}
use Rattle.kept_replies.proofs.index.mark_in.Goals as goal
use Rattle.kept_replies.proofs.index.mark_in.Goals.{then-slot-ne0, else-slot-ne0}

pub returns : goal.returns
unfolding marked_in
returns c =
    let both : c.if-slot-ne0.then_some ≡ (not (eqb c.args.slot 0) && eqb (c.args.slot / MARKS) (c.args.tag % SHORTS)) =
    elim c.if-slot-ne0.branch [
      | then-slot-ne0 w ↦ rw (w.then_some-is, ne_eqb c.args.slot 0 w.if-slot-ne0.true) refl
      | else-slot-ne0 w ↦ rw (w.then_some-is, eq-eqb c.args.slot 0 w.if-slot-ne0.false) refl
    ] in
    c.then_some.ensures ∙ ap (λ (b : Bool). then_some b (c.args.slot % MARKS)) both
