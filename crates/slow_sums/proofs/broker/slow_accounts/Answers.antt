use Rattle.std.proofs.Common.{arith, ℕ, ◌+◌, sum_by}
use Rattle.std.proofs.lemmas.List.Sums.{sum_by-cons}
use Rattle.slow_sums.specs.Sums.{balance_at}
use Rattle.slow_sums.proofs.LeftLaws.{balances_are}
use Rattle.slow_ledger.proofs.SlowLaws.{from_next}
use Rattle.slow_sums.proofs.broker.slow_accounts.Goals as goal

pub loop-n-init : goal.loop-n-init
loop-n-init c = omega (arith, balances_are c.args.h.now c.args.h.now)

pub loop-n-preserved : goal.loop-n-preserved
loop-n-preserved c =
    let f = balance_at c.args.h.now in
    omega (arith, from_next (λ (a b : ℕ). a + b) f (sum_by f) (sum_by-cons f) c.args.h.now c.loop-n.n c.in_ok-balance_of.field-0 (omega arith) c.in_ok-balance_of.ensures, c.loop-n.invariant, c.in_ok-all.ensures)
