-- Shops that are found by their names, with what was sold of each vendor.
use Rattle.std.specs.Prelude.{◌≡◌, ℕ, ◌+◌, if◌then◌else◌, List, [], ◌∷◌, map, bytes_eq, Option, Some, None, option_map}
use Rattle.name_places.specs.NamePlaces.{NamePlacesView, place_of}
use Rattle.audit_model.specs.declared.sold.Sold.{Sold}
use Rattle.audit_sums.specs.declared.rows.Stocked.{Stocked}
use Rattle.audit_search.specs.declared.shop.Shop.{Shop}
use Rattle.audit_search.specs.Shops.{stocked_row, in_stock, parts_sold}
use Rattle.audit_search.specs.Strange.{shop_in}

-- the place of a name among some: that where it stands first
abbrev pub place_in : List (List ℕ) → List ℕ → Option ℕ
place_in [] name = None
place_in (x ∷ xs) name = if bytes_eq x name then Some 0 else option_map (λ n. n + 1) (place_in xs name)

-- each name has the place of its shop
abbrev pub AreFiled : NamePlacesView → List Shop → Type 0
AreFiled places shops = (name : List ℕ) → place_of places name ≡ place_in (map (λ s. s.name) shops) name

-- of each shop that is found
abbrev pub EachFound : (Shop → Type 0) → List Shop → Type 0
EachFound P shops = (name : List ℕ) (shop : Shop) → shop_in shops name ≡ Some shop → P shop

-- the shop of a vendor has the vendor's pieces of what was put into stock
abbrev pub HaveStocked : List Shop → List Stocked → Type 0
HaveStocked shops rows = EachFound (λ shop. (id : ℕ) → in_stock shop id ≡ stocked_row rows shop.name id) shops

-- the shop of a vendor has the vendor's pieces of some sales
abbrev pub HaveSold : List Shop → List Sold → Type 0
HaveSold shops sales = EachFound (λ shop. shop.sold.items ≡ parts_sold shop sales) shops
