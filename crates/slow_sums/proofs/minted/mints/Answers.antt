use Rattle.std.proofs.Common.{arith, true, false}
use Rattle.std.specs.List.{list_any}
use Rattle.ledger_model.specs.Pieces.{minted}
use Rattle.slow_sums.specs.Strangers.{same_as}
use Rattle.slow_sums.proofs.MintedLaws.{mints_more}
use Rattle.slow_sums.proofs.minted.mints.Goals as goal

pub returns-then-mints_at : goal.returns-then-mints_at
returns-then-mints_at c =
    mints_more c.args.part.now c.args.h.now c.loop-n.n true (list_any (same_as c.args.part.now) (minted c.args.h.now)) (omega arith) c.loop-n.invariant c.if-mints_at.ensures

pub loop-n-preserved : goal.loop-n-preserved
loop-n-preserved c =
    mints_more c.args.part.now c.args.h.now c.loop-n.n false (list_any (same_as c.args.part.now) (minted c.args.h.now)) (omega arith) c.loop-n.invariant c.if-mints_at.ensures
