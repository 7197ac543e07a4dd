-- What the slow evaluators speak of beside the definitions.
use Rattle.std.specs.Prelude.{ℕ, Bool, List, [], Option, option_map, option_and_then, unwrap_or, take, slice_get, bytes_eq, if◌then◌else◌, option_to_list}
use Rattle.mc_records.specs.Entry.{Held}
use Rattle.ledger_model.specs.Histories.{History}
use Rattle.wallet_model.specs.Requests as model
use Rattle.wallet_model.specs.Holdings as pieces
use Rattle.wallet_model.specs.Holdings.{brings, PieceState, moves}
use Rattle.wallet_model.specs.Newness.{are_one_piece}
use Rattle.wallet_book.specs.Holdings.{state_of}
use Rattle.wallet_core.specs.Requests.{request_view}
use Rattle.slow_wallet.specs.declared.holdings.Holding.{Holding}
use Rattle.slow_wallet.specs.declared.kept.Numbered.{Numbered}
use Rattle.slow_wallet.specs.declared.came.Likeness.{Likeness}
use Rattle.slow_wallet.specs.declared.came.Likeness.TheVariants as likes

-- a holding, and a request with its number, without where their texts lie in memory
abbrev pub holding_view : Holding → pieces.Holding
holding_view x = record { text = x.text.now; secret = x.secret; state = state_of x.state }

abbrev pub kept_view : Numbered → ℕ × model.Pending
kept_view x = (x.number, request_view x.request)

-- whether two texts are alike: the same text, or of pieces of one vendor with one identity
abbrev pub are_alike : Likeness → List ℕ → List ℕ → Bool
are_alike likes.Text a b = bytes_eq a b
are_alike likes.Piece a b = are_one_piece a b

-- the pieces that the entry of a number brings
abbrev pub brought_at : History → ℕ → List Held
brought_at h n = unwrap_or (option_map (brings (take n h)) (slice_get h n)) []

-- the state that the entry of a number brings a piece to, where it is one on this piece
abbrev pub moved_at : History → ℕ → List ℕ → Option PieceState
moved_at h n text = option_and_then (moves (take n h) text) (slice_get h n)

-- the request of the entry of a number, where it is kept
abbrev pub kept_at : History → ℕ → List (ℕ × model.Pending)
kept_at h n = if model.is_kept h n then option_to_list (option_map (λ p. (n, p)) (model.pending_in h n)) else []
