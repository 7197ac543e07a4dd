use Rattle.std.proofs.Common.{arith, ◌∙◌, Some, None}
use Rattle.std.specs.Option.{option_or}
use Rattle.ledger_model.specs.Stock.{licence_in}
use Rattle.slow_ledger.proofs.SlowLaws.{from_next}
use Rattle.slow_ledger.proofs.Found.{licence_cons}
use Rattle.slow_ledger.proofs.stock.slow_licence.Goals as goal

pub returns-in-Some : goal.returns-in-Some
returns-in-Some c =
    let vendor = c.args.vendor.now in
    from_next option_or _ (λ h. licence_in h vendor) (licence_cons vendor) c.args.h.now c.loop-n.n (Some c.in-Some.terms) (omega arith) c.in-Some.ensures ∙ c.loop-n.invariant

pub loop-n-preserved : goal.loop-n-preserved
loop-n-preserved c =
    let vendor = c.args.vendor.now in
    from_next option_or _ (λ h. licence_in h vendor) (licence_cons vendor) c.args.h.now c.loop-n.n None (omega arith) c.in-None.ensures ∙ c.loop-n.invariant
