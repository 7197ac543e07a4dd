use Rattle.std.proofs.Common.{arith}
use Rattle.mc_fields.proofs.CutLaws.{cut_there, cut_nowhere}
use Rattle.mc_fields.proofs.cutting.cut.Goals as goal

pub returns-then-byte-stop : goal.returns-then-byte-stop
returns-then-byte-stop c = cut_there c.args.stop c.args.bytes.now c.loop-place.place c.loop-place-test.true c.loop-place.invariant c.if-byte-stop.true

pub returns : goal.returns
returns c = cut_nowhere c.args.stop c.args.bytes.now (λ k less. c.loop-place.invariant k (omega (arith, less, c.loop-place-test.false)))
