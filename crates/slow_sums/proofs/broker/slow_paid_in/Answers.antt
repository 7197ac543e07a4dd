use Rattle.std.proofs.Common.{arith, ℕ, ◌+◌, sum_by}
use Rattle.std.proofs.lemmas.List.Sums.{sum_by-cons}
use Rattle.ledger_model.specs.Sums.{amount_in}
use Rattle.slow_ledger.proofs.SlowLaws.{from_next}
use Rattle.slow_sums.proofs.broker.slow_paid_in.Goals as goal

pub loop-n-preserved : goal.loop-n-preserved
loop-n-preserved c =
    let f = amount_in in
    omega (arith, from_next (λ (a b : ℕ). a + b) f (sum_by f) (sum_by-cons f) c.args.h.now c.loop-n.n c.in_at.result (omega arith) c.in_at.ensures, c.loop-n.invariant, c.in_ok-all.ensures)
