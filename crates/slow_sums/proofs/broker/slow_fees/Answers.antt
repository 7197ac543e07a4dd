use Rattle.std.proofs.Common.{arith, ℕ, ◌+◌, sum_by}
use Rattle.std.proofs.lemmas.List.Sums.{sum_by-cons}
use Rattle.ledger_model.specs.Sums.{fee_of}
use Rattle.slow_ledger.proofs.SlowLaws.{from_next}
use Rattle.slow_sums.proofs.broker.slow_fees.Goals as goal

pub loop-n-preserved : goal.loop-n-preserved
loop-n-preserved c =
    let f = fee_of c.slow_fee-fee.result in
    omega (arith, from_next (λ (a b : ℕ). a + b) f (sum_by f) (sum_by-cons f) c.args.h.now c.loop-n.n c.fee_at.result (omega arith) c.fee_at.ensures, c.loop-n.invariant, c.in_ok-all.ensures)
