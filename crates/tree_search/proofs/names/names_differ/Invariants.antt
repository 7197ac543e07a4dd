use Rattle.std.proofs.Common.{◌≡◌, ℕ, List, true, take}
use Rattle.std.specs.Prelude.{is_some}
use Rattle.name_places.specs.NamePlaces.{place_of}
use Rattle.tree_search.specs.Names.{own_all}
use Rattle.tree_search.proofs.NameLaws.{has_name}
use Rattle.tree_search.proofs.names.names_differ.Given as goal

abbrev pub invariant-loop-book : goal.invariant-loop-book
invariant-loop-book l = record {
  own : own_all (take l.book-index l.books) ≡ true;
  known : (name : List ℕ) → is_some (place_of l.names name) ≡ has_name (take l.book-index l.books) name;
}
