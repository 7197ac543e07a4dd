-- The pieces of a wallet in memory, as the definitions have them.
use Rattle.std.specs.Prelude.{◌≡◌, ℕ, ◌==◌, ◌&&◌, Bool, true, false, List, map, slice_get, Option, Some, None, bytes_eq}
use Rattle.std.specs.List.{list_any, AllByRecursion}
use Rattle.scrip_form.specs.Scrip.{IsTextOf, scrip_text}
use Rattle.wallet_model.specs.Holdings as model
use Rattle.wallet_model.specs.Holdings.{PieceState, held, pending, disputed, used, dead}
use Rattle.wallet_model.specs.Newness.{are_one_piece, is_new}
use Rattle.wallet_book.specs.declared.holding.State.{State}
use Rattle.wallet_book.specs.declared.holding.State.TheVariants as states
use Rattle.wallet_book.specs.declared.holding.Holding.{Holding}
use Rattle.wallet_book.specs.PieceIndex.{PieceIndexView, place_of}

abbrev pub state_of : State → PieceState
state_of states.Held = held
state_of states.Pending = pending
state_of states.Disputed = disputed
state_of states.Used = used
state_of states.Dead = dead

-- the scrip text of a piece
abbrev pub text_of : Holding → List ℕ
text_of x = scrip_text x.piece x.cert

abbrev pub texts_of : List Holding → List (List ℕ)
texts_of xs = map text_of xs

abbrev pub holding_of : Holding → model.Holding
holding_of x = record { text = text_of x; secret = x.secret; state = state_of x.state }

-- its text is that of its piece and its certificate
abbrev pub IsSpelled : Holding → Type 0
IsSpelled x = IsTextOf (text_of x) x.piece x.cert

abbrev pub AreSpelled : List Holding → Type 0
AreSpelled xs = AllByRecursion IsSpelled xs

-- ---- the pieces with where they stand

-- the pieces in the order in which they came, and how many more there is room for
pub record HoldingsView : Type 0 where
  pub list : List Holding
  pub room : ℕ

-- whether a piece is this vendor's, of this identity
abbrev pub is_of : List ℕ → ℕ → Holding → Bool
is_of vendor id x = bytes_eq x.piece.vendor vendor && x.piece.id == id

-- the holding of a place, where a test holds of it
pub record IsAt (test : Holding → Bool) (xs : List Holding) (place : ℕ) : Type 0 where
  pub holding : Holding
  pub here : slice_get xs place ≡ Some holding
  pub passes : test holding ≡ true

-- a holding of which a test holds stands at the place, and there is none where there is no place
abbrev pub LeadsTo : (Holding → Bool) → List Holding → Option ℕ → Type 0
LeadsTo test xs None = list_any test xs ≡ false
LeadsTo test xs (Some place) = IsAt test xs place

-- the places are those of these pieces
abbrev pub IsIndexed : PieceIndexView → List Holding → Type 0
IsIndexed index xs = (vendor : List ℕ) (id : ℕ) → LeadsTo (is_of vendor id) xs (place_of index vendor id)

-- the place of the piece of a text, by vendor and identity; there is none exactly where the piece is new
abbrev pub FindsPiece : List Holding → List ℕ → Option ℕ → Type 0
FindsPiece xs text None = is_new (texts_of xs) text ≡ true
FindsPiece xs text (Some place) = IsAt (λ x. are_one_piece (text_of x) text) xs place
