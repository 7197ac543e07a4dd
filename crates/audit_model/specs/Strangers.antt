-- Strangers: pieces that were accepted and not handed out, and stock that was sold and not minted.
use Rattle.std.specs.Prelude.{◌≡◌, ℕ, ◌+◌, Bool, not, ◌&&◌, List, [], ◌∷◌, ◌++◌, Option, Some, None, if◌then◌else◌, bytes_eq, filter, flat_map}
use Rattle.std.specs.List.{list_any}
use Rattle.scrip_form.specs.Scrip.{Scrip}
use Rattle.mc_records.specs.Entry.{Entry}
use Rattle.ledger_model.specs.Histories.{History}
use Rattle.ledger_model.specs.Houses.{site_name, is_broker}
use Rattle.ledger_model.specs.Pieces.{accepted_piece, own_out, minted}
use Rattle.ledger_model.specs.Stock.{Sale, sale_of, sold_piece}
use Rattle.ledger_model.specs.Sums.{handed_out}
use Rattle.audit_model.specs.Meets.{is_among}

-- ---- what a house may have accepted, and what a broker may have sold out of stock

-- what was handed out of a house, beside a broker: a broker's is its own
abbrev pub handed_of : History → History → List Scrip
handed_of b h = if is_broker h then own_out h else handed_out b h

-- whether a vendor of this name minted a piece, by identity and value
abbrev pub is_minted : List History → List ℕ → Scrip → Bool
is_minted vs vendor p = list_any (λ v. bytes_eq vendor (site_name v) && is_among (minted v) p) vs

-- ---- strangers

-- the identity of a piece that fails a test
abbrev pub stranger : (Scrip → Bool) → Option Scrip → List ℕ
stranger test (Some p) = if test p then [] else p.id ∷ []
stranger test None = []

-- that of a sale out of stock
abbrev pub sold_stranger : List History → History → Option Sale → List ℕ
sold_stranger vs h (Some s) = if s.stock then stranger (is_minted vs s.vendor) (sold_piece h s) else []
sold_stranger vs h None = []

-- those of an entry of a book: its accepted piece comes before its sold piece
abbrev pub entry_strangers : History → List History → History → Entry → List ℕ
entry_strangers b vs h e = stranger (is_among (handed_of b h)) (accepted_piece e) ++ sold_stranger vs h (sale_of e)

-- the strangers of a book, in the order of its entries
abbrev pub strangers : History → List History → History → List ℕ
strangers b vs h = flat_map (entry_strangers b vs h) h

-- ---- the first stranger

-- the first of some identities
abbrev pub first_of : List ℕ → Option ℕ
first_of [] = None
first_of (id ∷ ids) = Some id

abbrev pub first_by : ℕ → List ℕ → Option (ℕ × ℕ) → Option (ℕ × ℕ)
first_by book [] later = later
first_by book (id ∷ ids) later = Some (book, id)

abbrev pub first_from : ℕ → History → List History → List History → Option (ℕ × ℕ)
first_from book b vs [] = None
first_from book b vs (h ∷ hs) = first_by book (strangers b vs h) (first_from (book + 1) b vs hs)

-- the first stranger, by book and then by entry: the number of its book, from 0 on, and its identity
abbrev pub first_stranger : History → List History → List History → Option (ℕ × ℕ)
first_stranger b vs books = first_from 0 b vs books

-- books in any order, of which one is the broker's and all others are the vendors', in their order
pub record AreOfMarket (b : History) (vs books : List History) : Type 0 where
  pub one_broker : filter is_broker books ≡ b ∷ []
  pub vendors_are : filter (λ h. not (is_broker h)) books ≡ vs
