-- The lines of the pieces of a wallet that another may sell, of those in memory.
use Rattle.std.specs.Prelude.{ℕ, ◌&&◌, Bool, true, false, nat_lt, bytes_eq, List, take, filter, flat_map}
use Rattle.scrip_form.specs.Scrip.{scrip_text}
use Rattle.mc_records.specs.PieceLine.{piece_line}
use Rattle.ledger_model.specs.Pieces.{is_first_hand}
use Rattle.wallet_book.specs.declared.holding.Holding.{Holding}
use Rattle.wallet_book.specs.declared.holding.State.{State}
use Rattle.wallet_book.specs.declared.holding.State.TheVariants as states
use Rattle.held_lines.specs.declared.lines.TheConstants.{MOST}

abbrev pub is_held : State → Bool
is_held states.Held = true
is_held _ = false

-- whether a piece is held, of a vendor, as it was first handed out, and not expired at a time
abbrev pub is_resold : ℕ → List ℕ → Holding → Bool
is_resold t vendor x = is_held x.state && (nat_lt t x.piece.expires && (bytes_eq x.piece.vendor vendor && is_first_hand x.piece))

abbrev pub resold : ℕ → List ℕ → List Holding → List Holding
resold t vendor xs = take MOST (filter (is_resold t vendor) xs)

-- its line
abbrev pub line : Holding → List ℕ
line x = piece_line (record { text = scrip_text x.piece x.cert; secret = x.secret })

abbrev pub lines : List Holding → List ℕ
lines xs = flat_map line xs
