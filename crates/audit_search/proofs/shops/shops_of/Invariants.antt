use Rattle.std.proofs.Common.{[], take}
use Rattle.audit_search.specs.Filed.{HaveStocked, HaveSold}
use Rattle.audit_search.specs.Findings.{vendors_among, AreShopsOf}
use Rattle.audit_search.proofs.shops.shops_of.Given as goal

abbrev pub invariant-loop-book : goal.invariant-loop-book
invariant-loop-book l = record {
  shops : AreShopsOf l.broker (vendors_among (take l.book-index l.books)) l.shops.items;
  stocked : HaveStocked l.shops.items [];
  sold : HaveSold l.shops.items [];
}
