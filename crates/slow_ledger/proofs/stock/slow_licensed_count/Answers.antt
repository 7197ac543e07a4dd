use Rattle.std.proofs.Common.{arith, ℕ, ◌+◌, ◌&&◌, eqb}
use Rattle.scrip_form.specs.Identities.{series_of}
use Rattle.ledger_model.specs.Stock.{Sale, sale_of, is_licensed, licensed_count}
use Rattle.slow_ledger.proofs.SlowLaws.{from_next}
use Rattle.slow_ledger.proofs.Found.{count_in_cons}
use Rattle.slow_ledger.proofs.stock.slow_licensed_count.Goals as goal

pub loop-n-preserved : goal.loop-n-preserved
loop-n-preserved c =
    let vendor = c.args.vendor.now in
    let cons = count_in_cons (λ (s : Sale). is_licensed vendor s && eqb (series_of s.id) c.args.series) sale_of in
    omega (arith, from_next (λ (a b : ℕ). a + b) _ (λ h. licensed_count h vendor c.args.series) cons c.args.h.now c.loop-n.n c.licensed_at.result (omega arith) c.licensed_at.ensures, c.loop-n.invariant, c.in_ok-all.ensures)
