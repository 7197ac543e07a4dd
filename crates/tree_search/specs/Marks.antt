-- What is kept of the sales of each identity, and of those under a licence.
use Rattle.std.specs.Prelude.{◌≡◌, ℕ, Bool, false, not, ◌&&◌, ◌||◌, ◌==◌, if◌then◌else◌, bytes_eq, List, [], ◌∷◌, Option, Some, None, option_map}
use Rattle.std.specs.Map.{lookup}
use Rattle.name_places.specs.NamePlaces.{NamePlacesView, place_of}
use Rattle.audit_model.specs.declared.part.Part.{Part}
use Rattle.relayed_books.specs.Tree.{Sold}
use Rattle.relayed_books.specs.Seen as seen
use Rattle.relayed_books.specs.Seen.{mark_from}
use Rattle.tree_search.specs.declared.marks.Mark.{Mark}
use Rattle.tree_search.specs.declared.marks.Marks.{Marks}
use Rattle.tree_search.specs.declared.licences.Seller.{Seller}
use Rattle.tree_search.specs.declared.licences.Licences.{Licences}

-- ---- places

-- no two names have one place
abbrev pub AreApart : NamePlacesView → Type 0
AreApart places = (a b : List ℕ) (n : ℕ) → place_of places a ≡ Some n → place_of places b ≡ Some n → a ≡ b

-- ---- sales

-- a sale of this piece, out of stock or not
pub record IsSale (part : Part) (stock : Bool) (s : Sold) : Type 0 where
  pub id' : s.piece.id ≡ part.id
  pub value' : s.piece.value ≡ part.value
  pub stock' : s.stock ≡ stock

abbrev pub mark_view : Mark → seen.Mark
mark_view m = record { value = m.value; mixed = m.mixed; licensed = m.licensed }

-- what is kept of an identity of the vendor at a place
abbrev pub mark_at : Marks → ℕ → ℕ → Option Mark
mark_at m place id = lookup (λ k. (place == k.0) && (id == k.1)) m.marks.entries

-- of each identity of a vendor that has a place stands what the sales of it leave
abbrev pub MarksShow : Marks → NamePlacesView → List Sold → Type 0
MarksShow m places earlier =
    (name : List ℕ) (place id : ℕ) → place_of places name ≡ Some place → option_map mark_view (mark_at m place id) ≡ mark_from None name id earlier

-- whether what is kept of an identity bars the next sale of it
abbrev pub barred_by : Option Mark → ℕ → Bool → Bool
barred_by None value stock = false
barred_by (Some m) value stock = not (m.value == value) || (m.mixed || (m.licensed && not stock))

-- what is kept with it
abbrev pub mark_with : Option Mark → ℕ → Bool → Mark
mark_with None value stock = record { value = value; mixed = false; licensed = not stock }
mark_with (Some m) value stock = record { value = m.value; mixed = m.mixed || not (m.value == value); licensed = m.licensed || not stock }

-- ---- sales under a licence

-- the first broker that sold a piece under a licence, and whether another did
pub record Sellers : Type 0 where
  pub first : List ℕ
  pub other : Bool

-- whether a sale under a licence is of a piece of a vendor's, by identity and value
abbrev pub is_licensed_as : List ℕ → ℕ → ℕ → Sold → Bool
is_licensed_as vendor id value t = (not t.stock && bytes_eq t.vendor vendor) && ((t.piece.id == id) && (t.piece.value == value))

-- with one more broker
abbrev pub sold_also : Option Sellers → List ℕ → Sellers
sold_also None broker = record { first = broker; other = false }
sold_also (Some x) broker = record { first = x.first; other = x.other || not (bytes_eq broker x.first) }

-- those of some sales
abbrev pub sellers_from : Option Sellers → List ℕ → ℕ → ℕ → List Sold → Option Sellers
sellers_from o vendor id value [] = o
sellers_from o vendor id value (t ∷ ts) = sellers_from (if is_licensed_as vendor id value t then Some (sold_also o t.broker) else o) vendor id value ts

-- whether one of them is another broker than this one
abbrev pub is_other : Option Sellers → List ℕ → Bool
is_other None broker = false
is_other (Some x) broker = x.other || not (bytes_eq x.first broker)

abbrev pub seller_view : Seller → Sellers
seller_view x = record { first = x.first; other = x.other }

abbrev pub seller_at : Licences → ℕ → ℕ → ℕ → Option Seller
seller_at l place id value = lookup (λ k. ((place == k.0.0) && (id == k.0.1)) && (value == k.1)) l.sellers.entries

-- of each piece of a vendor that has a place stands who sold it under a licence
abbrev pub LicencesShow : Licences → NamePlacesView → List Sold → Type 0
LicencesShow l places sales =
    (name : List ℕ) (place id value : ℕ) → place_of places name ≡ Some place → option_map seller_view (seller_at l place id value) ≡ sellers_from None name id value sales
