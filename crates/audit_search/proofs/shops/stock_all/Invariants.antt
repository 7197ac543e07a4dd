use Rattle.std.proofs.Common.{[], take}
use Rattle.std.specs.List.{AllZip}
use Rattle.audit_search.specs.Shops.{IsAsBefore}
use Rattle.audit_search.specs.Filed.{HaveStocked, HaveSold}
use Rattle.audit_search.proofs.shops.stock_all.Given as goal

abbrev pub invariant-loop-row : goal.invariant-loop-row
invariant-loop-row l = record {
  same : AllZip IsAsBefore l.initial.shops.items l.shops.items;
  stocked : HaveStocked l.shops.items (take l.row-index l.rows);
  unsold : HaveSold l.shops.items [];
}
