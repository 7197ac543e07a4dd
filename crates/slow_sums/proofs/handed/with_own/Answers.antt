use Rattle.std.proofs.Common.{arith, ◌++◌, map}
use Rattle.ledger_model.specs.Pieces.{own_out}
use Rattle.audit_model.specs.Parts.{part_of}
use Rattle.slow_sums.proofs.HandedLaws.{own_more}
use Rattle.slow_sums.proofs.handed.with_own.Goals as goal

pub loop-n-preserved : goal.loop-n-preserved
loop-n-preserved c =
    own_more c.args.h.now c.loop-n.n c.loop-n.parts.items c.in_ok-parts.parts.items (c.args.parts.items ++ map part_of (own_out c.args.h.now)) c.own_at.result (omega arith) c.loop-n.invariant c.own_at.ensures c.in_ok-parts.ensures
