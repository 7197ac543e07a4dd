use Rattle.std.proofs.Common.{◌≡◌, ◌≤◌, ℕ, List, true, take, map, length}
use Rattle.std.specs.Prelude.{is_some}
use Rattle.name_places.specs.NamePlaces.{place_of}
use Rattle.audit_sums.specs.Learned.{name_of}
use Rattle.audit_search.specs.Filed.{place_in}
use Rattle.audit_search.specs.Findings.{vendors_among}
use Rattle.audit_search.specs.Markets.{has_vendor, own_names}
use Rattle.audit_search.proofs.market.vendor_names.Given as goal

abbrev pub invariant-loop-book : goal.invariant-loop-book
invariant-loop-book l = record {
  own : own_names (take l.book-index l.books) ≡ true;
  few : l.count ≤ l.book-index;
  long : l.count ≡ length (map name_of (vendors_among (take l.book-index l.books)));
  placed : (name : List ℕ) → place_of l.names name ≡ place_in (map name_of (vendors_among (take l.book-index l.books))) name;
  known : (name : List ℕ) → is_some (place_of l.names name) ≡ has_vendor (take l.book-index l.books) name;
}
