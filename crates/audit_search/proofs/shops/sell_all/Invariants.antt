use Rattle.std.proofs.Common.{List, take}
use Rattle.std.specs.List.{AllZip}
use Rattle.audit_sums.specs.declared.rows.Stocked.{Stocked}
use Rattle.audit_search.specs.Shops.{IsAsBefore}
use Rattle.audit_search.specs.Filed.{HaveStocked, HaveSold}
use Rattle.audit_search.proofs.shops.sell_all.Given as goal

abbrev pub invariant-loop-sale : goal.invariant-loop-sale
invariant-loop-sale l = record {
  same : AllZip IsAsBefore l.initial.shops.items l.shops.items;
  stocked : (rows : List Stocked) → HaveStocked l.initial.shops.items rows → HaveStocked l.shops.items rows;
  sold : HaveSold l.shops.items (take l.sale-index l.sales);
}
