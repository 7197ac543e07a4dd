use Rattle.std.proofs.Common.{◌∙◌, ◌++◌, ◌∷◌, [], ap, sym, ℕ, List, true, false, arith}
use Rattle.std.proofs.lemmas.List.{take_all}
use Rattle.mc_stage.specs.Image.{image_from, fill}
use Rattle.mc_stage.proofs.Images.{image-more}
use Rattle.mc_stage.proofs.stage.filled.Goals as goal
use Rattle.mc_stage.proofs.stage.filled.Goals.{then-marks-place, else-marks-place}

pub loop-place-preserved : goal.loop-place-preserved
loop-place-preserved c =
    c.in_ok-push.ensures.items ∙ ap (λ (l : List ℕ). l ++ c.if-marks-place.kept ∷ []) c.loop-place.invariant
    ∙ sym (elim c.if-marks-place.branch [
      | then-marks-place w ↦ image-more c.args.choice 0 c.loop-place.place c.args.bytes.now c.args.marks.now true c.if-marks-place.kept c.requires c.loop-place-test.true w.if-marks-place.true w.kept-is
      | else-marks-place w ↦ image-more c.args.choice 0 c.loop-place.place c.args.bytes.now c.args.marks.now false c.if-marks-place.kept c.requires c.loop-place-test.true w.if-marks-place.false
          (w.kept-is ∙ w.fill_byte-kept.ensures ∙ ap (fill c.args.choice) (omega arith))
    ])

pub returns : goal.returns
returns c =
    c.loop-place.invariant
    ∙ (λ i. image_from c.args.choice 0 (take_all c.loop-place.place c.args.bytes.now c.loop-place-test.false i) (take_all c.loop-place.place c.args.marks.now (omega (arith, c.requires, c.loop-place-test.false)) i))
