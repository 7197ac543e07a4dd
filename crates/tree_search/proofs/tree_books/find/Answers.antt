use Rattle.std.proofs.Common.{length, sym, ap, ◌∙◌, subst}
use Rattle.tree_search.specs.Marks.{LicencesShow}
use Rattle.tree_search.specs.Desks.{IsDeskOf, AreDesks}
use Rattle.tree_search.specs.Totals.{vendors_among}
use Rattle.tree_search.proofs.DeskLaws.{zip_long, desks_are}
use Rattle.tree_search.proofs.AuditLaws.{licences_same}
use Rattle.tree_search.proofs.tree_books.find.Goals as goal

pub licences_of-requires : goal.licences_of-requires
licences_of-requires c = ap length c.deref.ensures.value ∙ zip_long (IsDeskOf c.args.books.now) c.args.books.now c.in-Ok.desks.items c.in-Ok.ensures

pub totals_of-requires : goal.totals_of-requires
totals_of-requires c = ap length c.deref-2.ensures.value ∙ zip_long (IsDeskOf c.args.books.now) c.args.books.now c.in-Ok.desks.items c.in-Ok.ensures

pub returns-clause-found : goal.returns-clause-found
returns-clause-found c = λ limits hs learned places known.
    let books = c.args.books.now in
    let stand = desks_are limits books hs learned books hs c.in-Ok.desks.items learned c.in-Ok.ensures in
    c.totals_of.ensures.found limits hs
    (record {
      learned = learned;
      stand = subst (AreDesks (vendors_among hs) hs) (sym c.deref-2.ensures.value) stand;
      places = places;
      known = known;
      show = subst (LicencesShow c.in-Ok-licences_of.licences c.args.names.now) (licences_same limits books hs learned) (c.in-Ok-licences_of.ensures limits hs (vendors_among hs) learned (subst (AreDesks (vendors_among hs) hs) (sym c.deref.ensures.value) stand) places known);
    })
