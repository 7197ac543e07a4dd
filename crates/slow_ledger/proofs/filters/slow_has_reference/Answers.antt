use Rattle.std.proofs.Common.{arith, bytes_eq, true, false}
use Rattle.ledger_model.specs.Pieces.{reference_of, has_reference}
use Rattle.slow_ledger.proofs.SlowLaws.{any_more}
use Rattle.slow_ledger.proofs.filters.slow_has_reference.Goals as goal

pub returns-then-refers_at : goal.returns-then-refers_at
returns-then-refers_at c =
    any_more (λ r. bytes_eq r c.args.reference.now) reference_of c.args.h.now c.loop-n.n true (has_reference c.args.h.now c.args.reference.now) (omega arith) c.loop-n.invariant c.if-refers_at.ensures

pub loop-n-preserved : goal.loop-n-preserved
loop-n-preserved c =
    any_more (λ r. bytes_eq r c.args.reference.now) reference_of c.args.h.now c.loop-n.n false (has_reference c.args.h.now c.args.reference.now) (omega arith) c.loop-n.invariant c.if-refers_at.ensures
