-- The shops at a broker, by the histories of the broker and of the vendors.
use Rattle.std.specs.Prelude.{◌≡◌, ℕ, Bool, true, List, map, Option, option_map}
use Rattle.scrip_form.specs.Scrip.{Scrip}
use Rattle.ledger_model.specs.Histories.{History}
use Rattle.ledger_model.specs.Stock.{sold, sold_piece}
use Rattle.audit_model.specs.declared.part.Part.{Part}
use Rattle.audit_model.specs.Parts.{part_of}
use Rattle.audit_model.specs.Strangers.{is_minted}
use Rattle.audit_model.specs.declared.sold.Sold.{Sold}
use Rattle.audit_model.specs.Sales.{sale_by}
use Rattle.audit_search.specs.declared.shops.Shops.{Shops}
use Rattle.audit_search.specs.Strange.{sold_at, piece_at, minted_at}
use Rattle.audit_search.specs.Audit.{has_book}

-- ---- what callers see of shops

-- the pieces of a vendor that the broker sold, in order
abbrev pub sold_of : Shops → List ℕ → List Part
sold_of shops name = sold_at shops.list.items name

-- the piece of a sale
abbrev pub piece_in : Shops → Sold → Option Part
piece_in shops s = piece_at shops.list.items s

-- whether a vendor minted an identity with a value
abbrev pub has_minted : Shops → List ℕ → ℕ → ℕ → Bool
has_minted shops name id value = minted_at shops.list.items name id value

-- ---- the histories

-- Of each vendor that has a book: what the broker sold, the piece of each sale, and what the vendor minted.
pub record StandFor (b : History) (vs : List History) (shops : Shops) : Type 0 where
  pub sold' : (name : List ℕ) → has_book vs name ≡ true → sold_of shops name ≡ map part_of (sold b name)
  pub piece' : (s : Sold) → has_book vs s.vendor ≡ true → piece_in shops s ≡ option_map part_of (sold_piece b (sale_by s))
  pub minted' : (name : List ℕ) (p : Scrip) → has_book vs name ≡ true → has_minted shops name p.id p.value ≡ is_minted vs name p
