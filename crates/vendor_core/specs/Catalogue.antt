-- What a catalogue represents, and the room that it has.
use Rattle.std.specs.Prelude.{◌≡◌, ℕ, ◌<◌, is_some, IsTrue, List, Some}
use Rattle.std.specs.HashMap.{spare}
use Rattle.std.specs.VecDeque.{deque_len, deque_capacity}
use Rattle.ledger_model.specs.Histories.{History}
use Rattle.vendor_core.specs.declared.catalogue.Catalogue.{Catalogue}
use Rattle.vendor_core.specs.Editions.{edition_of, ShowsGoods}

-- a catalogue represents the goods of a history
abbrev pub CatalogueRepresents : Catalogue → History → Type 0
CatalogueRepresents c h = ShowsGoods c.editions.entries c.on_sale c.replaced.items h

-- a catalogue has the contents of the Goods entry of a number
abbrev pub HasEdition : Catalogue → ℕ → Type 0
HasEdition c number = IsTrue (is_some (edition_of c.editions.entries number))

-- there is room for goods at a target
pub record HasRoomAt (c : Catalogue) (target : List ℕ) : Type 0 where
  pub edition : 0 < spare c.editions
  pub name : c.on_sale.room ≡ Some target
  pub replaced : deque_len c.replaced < deque_capacity c.replaced
