-- The first stranger of a book, by what was kept of it.
use Rattle.std.specs.Prelude.{ℕ, Bool, true, false, if◌then◌else◌, List, [], ◌∷◌, find, bytes_eq, Option, Some, None, option_map, option_and_then, unwrap_or}
use Rattle.std.specs.Option.{option_or}
use Rattle.audit_model.specs.declared.part.Part.{Part}
use Rattle.audit_sums.specs.declared.rows.Acceptance.{Acceptance}
use Rattle.audit_model.specs.declared.sold.Sold.{Sold}
use Rattle.audit_search.specs.declared.shop.Shop.{Shop}
use Rattle.audit_search.specs.Known.{knows}
use Rattle.audit_search.specs.Shops.{part_sold}

-- the identity of a piece that is not among some, by identity and value
abbrev pub not_in : (ℕ → ℕ → Bool) → Option Part → Option ℕ
not_in has (Some p) = if has p.id p.value then None else Some p.id
not_in has None = None

-- the shop of a vendor
abbrev pub is_shop : List ℕ → Shop → Bool
is_shop name shop = bytes_eq shop.name name

abbrev pub shop_in : List Shop → List ℕ → Option Shop
shop_in shops name = find (is_shop name) shops

-- the vendor's pieces that were sold, in order
abbrev pub sold_at : List Shop → List ℕ → List Part
sold_at shops name = unwrap_or (option_map (λ shop. shop.sold.items) (shop_in shops name)) []

-- the piece of a sale
abbrev pub piece_at : List Shop → Sold → Option Part
piece_at shops s = option_and_then (λ shop. part_sold shop s) (shop_in shops s.vendor)

-- whether a vendor minted an identity with a value
abbrev pub minted_at : List Shop → List ℕ → ℕ → ℕ → Bool
minted_at shops name id value = unwrap_or (option_map (λ shop. knows shop.minted id value) (shop_in shops name)) false

-- the identity of a sale out of stock whose piece was not minted
abbrev pub not_minted : List Shop → Sold → Option ℕ
not_minted shops s = if s.stock then option_and_then (λ shop. not_in (knows shop.minted) (part_sold shop s)) (shop_in shops s.vendor) else None

-- of what stands once for each sale: what belongs to the next accepted piece, where something was sold for it, and the
-- others
abbrev pub next_sale : {X : Type 0} → Bool → List X → Option X
next_sale true (s ∷ ss) = Some s
next_sale _ _ = None

abbrev pub later_sales : {X : Type 0} → Bool → List X → List X
later_sales true (s ∷ ss) = ss
later_sales _ ss = ss

-- the first stranger of an accepted piece with its sale: the piece comes before what was sold
abbrev pub strange_of : {X : Type 0} → (Option Part → Option ℕ) → (X → Option ℕ) → Acceptance → Option X → Option ℕ
strange_of by_piece by_sale a sale = option_or (by_piece a.piece) (option_and_then by_sale sale)

-- that of some accepted pieces and their sales, or what stands for these
abbrev pub first_in : {X : Type 0} → (Option Part → Option ℕ) → (X → Option ℕ) → List Acceptance → List X → Option ℕ
first_in by_piece by_sale [] ss = None
first_in by_piece by_sale (a ∷ rows) ss =
    option_or (strange_of by_piece by_sale a (next_sale a.sale ss)) (first_in by_piece by_sale rows (later_sales a.sale ss))
