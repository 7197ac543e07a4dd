use Rattle.std.proofs.Common.{sym, ◌∙◌}
use Rattle.broker_stalls.specs.Stalls.{terms_of}
use Rattle.mc_records.specs.Entry.{Licence}
use Rattle.broker_stalls.proofs.EntryLaws.{licence_shown}
use Rattle.broker_stalls.proofs.VendorLaws.{at_place, shown_at, learned_at, same_at, same_stock, only_licence, takes_licence, none_stands, terms_stay}
use Rattle.broker_stalls.proofs.stalls.Stalls.license.Goals as goal

pub returns-clause-exact : goal.returns-clause-exact
returns-clause-exact c h stands =
    let at = at_place c.get.ensures c.unwrap-place.ensures c.index_mut.ensures.value c.self.invariant in
    takes_licence c.learn_licence.result (terms_of c.index_mut.result.now) _ c.learn_licence.ensures.learned (shown_at c.self.view_is at h stands).terms

pub returns-clause-learned : goal.returns-clause-learned
returns-clause-learned c h m stands ok =
    let at = at_place c.get.ensures c.unwrap-place.ensures c.index_mut.ensures.value c.self.invariant in
    let x = c.index_mut.result.now in
    let y = c.learn_licence.new.self in
    learned_at c.self.view_is at y h (Licence m c.args.vendor.now c.args.terms.now) (only_licence m c.args.vendor.now c.args.terms.now) stands
    (λ shows. licence_shown h c.args.vendor.now x y m c.args.terms.now (none_stands _ ((returns-clause-exact c h stands).0 ok))
    c.learn_licence.ensures.terms c.learn_licence.ensures.counts c.learn_licence.ensures.ids c.learn_licence.ensures.racks shows)

pub returns-clause-same : goal.returns-clause-same
returns-clause-same c h stands fails =
    let at = at_place c.get.ensures c.unwrap-place.ensures c.index_mut.ensures.value c.self.invariant in
    let x = c.index_mut.result.now in
    let y = c.learn_licence.new.self in
    let stay = c.learn_licence.ensures.terms ∙ terms_stay (terms_of x) c.args.terms.now (sym c.learn_licence.ensures.learned ∙ fails) in
    same_at c.self.view_is at y (same_stock x y stay c.learn_licence.ensures.counts c.learn_licence.ensures.ids c.learn_licence.ensures.racks) h stands
