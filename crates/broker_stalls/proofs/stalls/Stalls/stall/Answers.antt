use Rattle.std.proofs.Common.{ap, sym, subst, ◌∙◌}
use Rattle.broker_stalls.specs.Shown.{Shows}
use Rattle.broker_stalls.specs.Vendors.{StallsView, stall_of}
use Rattle.broker_stalls.proofs.VendorLaws.{at_place, at_is, none_at}
use Rattle.broker_stalls.proofs.stalls.Stalls.stall.Goals as goal

pub returns-in-Some-clause-found : goal.returns-in-Some-clause-found
returns-in-Some-clause-found c =
    let at = at_place c.get.ensures c.in-Some.is c.index.ensures c.self.invariant in
    sym (at_is at) ∙ ap (λ (v : StallsView). stall_of v c.args.vendor.now) c.self.view_is

pub returns-in-Some-clause-shows : goal.returns-in-Some-clause-shows
returns-in-Some-clause-shows c h stands = subst (Shows h c.args.vendor.now) (sym (returns-in-Some-clause-found c)) (stands c.args.vendor.now)

pub returns-in-None-clause-shows : goal.returns-in-None-clause-shows
returns-in-None-clause-shows c h stands = subst (Shows h c.args.vendor.now) (none_at c.args.vendor.now c.self.view_is (sym c.get.ensures ∙ c.in-None.is)) (stands c.args.vendor.now)

pub returns-in-None-clause-unknown : goal.returns-in-None-clause-unknown
returns-in-None-clause-unknown c h stands none = sym (returns-in-None-clause-shows c h stands).known
