use Rattle.std.proofs.Common.{arith, eqb, true, false}
use Rattle.ledger_model.specs.Pieces.{accepted_piece, is_spent}
use Rattle.slow_ledger.proofs.SlowLaws.{any_more}
use Rattle.slow_ledger.proofs.filters.slow_is_spent.Goals as goal

pub returns-then-accepts_at : goal.returns-then-accepts_at
returns-then-accepts_at c =
    any_more (λ p. eqb p.id c.args.id) accepted_piece c.args.h.now c.loop-n.n true (is_spent c.args.h.now c.args.id) (omega arith) c.loop-n.invariant c.if-accepts_at.ensures

pub loop-n-preserved : goal.loop-n-preserved
loop-n-preserved c =
    any_more (λ p. eqb p.id c.args.id) accepted_piece c.args.h.now c.loop-n.n false (is_spent c.args.h.now c.args.id) (omega arith) c.loop-n.invariant c.if-accepts_at.ensures
