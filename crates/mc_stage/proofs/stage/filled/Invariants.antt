use Rattle.std.proofs.Common.{◌≡◌, take}
use Rattle.mc_stage.specs.Image.{image_from}
use Rattle.mc_stage.proofs.stage.filled.Given as goal

abbrev pub invariant-loop-place : goal.invariant-loop-place
invariant-loop-place l = l.image.items ≡ image_from l.choice 0 (take l.place l.bytes) (take l.place l.marks)
