use Rattle.std.proofs.Common.{Option, subst}
use Rattle.scrip_form.specs.Issuing.{Issuing}
use Rattle.mc_records.specs.Views.{deed_of}
use Rattle.slow_ledger.specs.Slow.{Tells, supplied_in}
use Rattle.slow_ledger.proofs.offers.supplied.Goals as goal

pub returns-in-None : goal.returns-in-None
returns-in-None c =
    subst (λ (licence : Option Issuing). Tells deed_of c.stocked.result (supplied_in c.args.h.now c.args.limits.series c.args.time c.args.vendor.now c.args.asked licence))
    c.in-None.ensures (c.stocked.ensures c.args.limits.series)
