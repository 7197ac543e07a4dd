-- What a broker has of a vendor to sell, by what was kept of their books.
use Rattle.std.specs.Prelude.{◌≡◌, ℕ, Bool, ◌==◌, ◌&&◌, if◌then◌else◌, List, filter, filter_map, find, bytes_eq, Option, option_map}
use Rattle.std.specs.List.{list_any}
use Rattle.std.specs.Map.{lookup}
use Rattle.scrip_form.specs.Issuing.{Issuing, series_end}
use Rattle.scrip_form.specs.Identities.{epoch_of}
use Rattle.audit_model.specs.declared.part.Part.{Part}
use Rattle.audit_sums.specs.declared.rows.Licence.{Licence}
use Rattle.audit_sums.specs.declared.rows.Stocked.{Stocked}
use Rattle.audit_model.specs.declared.sold.Sold.{Sold}
use Rattle.audit_sums.specs.declared.audit_sums.BookSums.{BookSums}
use Rattle.audit_sums.specs.Learned.{name_of, runs_of, licences_of}
use Rattle.audit_search.specs.Known.{knows, is_in_run}
use Rattle.audit_search.specs.declared.shop.Shop.{Shop}

-- the terms of the first licence of a vendor
abbrev pub licensed : List Licence → List ℕ → Option Issuing
licensed rows name = option_map (λ r. r.terms) (find (λ r. bytes_eq r.vendor name) rows)

-- the first piece of a vendor's of an identity
abbrev pub is_stocked : List ℕ → ℕ → Stocked → Bool
is_stocked name id r = bytes_eq r.vendor name && (id == r.part.id)

abbrev pub stocked_row : List Stocked → List ℕ → ℕ → Option Part
stocked_row rows name id = option_map (λ r. r.part) (find (is_stocked name id) rows)

-- a piece that is made under a licence
abbrev pub licensed_part : Sold → Issuing → Part
licensed_part s terms = record { id = s.id; value = s.value; expires = series_end terms (epoch_of s.id) }

-- the piece of an identity in the stock of a shop
abbrev pub in_stock : Shop → ℕ → Option Part
in_stock shop id = lookup (λ k. id == k) shop.stock.entries

-- the piece of a sale of the vendor's
abbrev pub part_sold : Shop → Sold → Option Part
part_sold shop s = if s.stock then in_stock shop s.id else option_map (licensed_part s) shop.licence

-- the pieces of the vendor's that were sold
abbrev pub parts_sold : Shop → List Sold → List Part
parts_sold shop sales = filter_map (part_sold shop) (filter (λ s. bytes_eq s.vendor shop.name) sales)

-- nothing of a shop changed but its stock and what was sold
abbrev pub IsAsBefore : Shop → Shop → Type 0
IsAsBefore old new = new ≡ record old { stock = new.stock; sold = new.sold }

-- a shop has the licence that was kept of a broker's book for a vendor, and what was kept of the vendor's mints
pub record IsShopOf (b v : BookSums) (s : Shop) : Type 0 where
  pub name' : s.name ≡ name_of v
  pub licence' : s.licence ≡ licensed (licences_of b) (name_of v)
  pub minted' : (id value : ℕ) → knows s.minted id value ≡ list_any (is_in_run id value) (runs_of v)
