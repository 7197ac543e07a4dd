-- What is kept of the pieces of a Stock entry.
use Rattle.std.specs.Prelude.{ℕ, ◌==◌, ◌≤◌, if◌then◌else◌, List, [], length, Option, Some, None, option_and_then, filter_map}
use Rattle.std.specs.Result.{result_ok}
use Rattle.scrip_form.specs.Scrip.{Scrip, scrip_text}
use Rattle.scrip_form.specs.Reading.{scrip_of}
use Rattle.mc_records.specs.Entry.{Held}
use Rattle.mc_records.specs.declared.ranges.TheConstants.{MOST_PIECES}
use Rattle.broker_stock.specs.declared.piece.StockPiece.{StockPiece}
use Rattle.broker_stock.specs.Shelves.{room_at}
use Rattle.broker_stalls.specs.Stalls.{StallView}

-- a piece with its certificate and its secret, as it is put into stock
abbrev pub stock_piece : List ℕ → Scrip × List ℕ → StockPiece
stock_piece secret x = record { id = x.0.id; expires = x.0.expires; cert = x.1; secret = secret; version = x.0.version }

-- the same of a held text, where it is of a piece of this value
abbrev pub listed_piece : ℕ → Held → Option StockPiece
listed_piece value held = option_and_then (λ x. if x.0.value == value then Some (stock_piece held.secret x) else None) (result_ok (scrip_of held.text))

-- the piece of a vendor that stands so in his stock at a value
abbrev pub piece_in_stock : List ℕ → ℕ → StockPiece → Scrip
piece_in_stock vendor value p = record { version = p.version; vendor = vendor; value = value; id = p.id; cust = p.id; expires = p.expires; props = [] }

-- its text with its secret
abbrev pub held_in_stock : List ℕ → ℕ → StockPiece → Held
held_in_stock vendor value p = record { text = scrip_text (piece_in_stock vendor value p) p.cert; secret = p.secret }

-- the pieces of a value among some held texts, in order
abbrev pub listed_at : ℕ → List Held → List StockPiece
listed_at value helds = filter_map (listed_piece value) helds

-- a stall has room for the pieces of some held texts
pub record HasRoomFor (s : StallView) (helds : List Held) : Type 0 where
  pub few : length helds ≤ MOST_PIECES
  pub ids : length helds ≤ s.ids.room
  pub racks : (value : ℕ) → length (listed_at value helds) ≤ room_at s.racks value
