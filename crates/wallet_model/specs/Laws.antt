-- What the laws speak of.
use Rattle.std.specs.Prelude.{ℕ, suc, Bool, true, false, unwrap_or, List, Option, Some, None, IsSome, bytes_eq}
use Rattle.std.specs.List.{list_any}
use Rattle.mc_requests.specs.Errands as errands
use Rattle.mc_requests.specs.Errands.{IsErrand}
use Rattle.mc_records.specs.Entry.{Entry}
use Rattle.ledger_model.specs.Histories.{History}
use Rattle.ledger_model.specs.Pieces.{piece_of}
use Rattle.wallet_model.specs.Holdings.{PieceState, held, pending, Holding, moves, holdings}
use Rattle.wallet_model.specs.Asks.{Asking, get, buy, draw}

abbrev pub is_pending : PieceState → Bool
is_pending pending = true
is_pending _ = false

-- a state that a piece never leaves
abbrev pub is_last : PieceState → Bool
is_last held = false
is_last pending = false
is_last _ = true

-- a holding as an entry leaves it, after the entries before it
abbrev pub moved : History → Entry → Holding → Holding
moved h e x = record { text = x.text; secret = x.secret; state = unwrap_or (moves h x.text e) x.state }

-- what is asked can be spelled as a target
abbrev pub CanAsk : Asking → Type 0
CanAsk (get vendor target limit) = Unit {0}
CanAsk (buy broker vendor amount limit) = IsErrand (errands.buy vendor amount)
CanAsk (draw broker account key order amount) = IsErrand (errands.draw account order amount)

-- whether a piece with this text stands in the holdings
abbrev pub has_piece : History → List ℕ → Bool
has_piece h text = list_any (λ x. bytes_eq x.text text) (holdings h)

-- a request that is no draw pays with a piece
abbrev pub HasItsPiece : ℕ → Option (List ℕ) → Type 0
HasItsPiece (suc (suc ask)) scrip = Unit {0}
HasItsPiece _ (Some text) = IsSome (piece_of text)
HasItsPiece _ None = ⊥
