-- The lines that a wallet's commands say.
use Rattle.std.specs.Prelude.{ℕ, List, [], ◌++◌, Option, Some, None, codes, decimal, flat_map}
use Rattle.scrip_form.specs.Scrip.{Scrip, id_digits}
use Rattle.ledger_model.specs.Pieces.{piece_of}
use Rattle.wallet_model.specs.Holdings.{PieceState, held, pending, disputed, used, dead, Holding}

-- of a piece that was bought or drawn
abbrev pub got_line : Scrip → List ℕ
got_line p = codes "got " ++ p.vendor ++ codes " " ++ decimal p.value ++ codes "\n"

-- of so many pieces that were taken
abbrev pub taken_line : ℕ → List ℕ
taken_line count = codes "taken " ++ decimal count ++ codes "\n"

-- of a renewal at a vendor: the value and the end of its change, or 0 and 0
abbrev pub renewed_words : List ℕ → ℕ → ℕ → List ℕ
renewed_words vendor value end = codes "renewed " ++ vendor ++ codes " " ++ decimal value ++ codes " " ++ decimal end ++ codes "\n"

abbrev pub renewed_line : List ℕ → Option Scrip → List ℕ
renewed_line vendor (Some p) = renewed_words vendor p.value p.expires
renewed_line vendor None = renewed_words vendor 0 0

abbrev pub state_word : PieceState → List ℕ
state_word held = codes "held"
state_word pending = codes "pending"
state_word disputed = codes "disputed"
state_word used = codes "used"
state_word dead = codes "dead"

-- of a piece in a state
abbrev pub piece_line : PieceState → Scrip → List ℕ
piece_line state p = state_word state ++ codes " " ++ p.vendor ++ codes " " ++ decimal p.value ++ codes " " ++ id_digits p.id ++ codes " " ++ decimal p.expires ++ codes "\n"

abbrev pub line_if_piece : PieceState → Option Scrip → List ℕ
line_if_piece state None = []
line_if_piece state (Some p) = piece_line state p

-- a line for each holding, in their order
abbrev pub holding_lines : List Holding → List ℕ
holding_lines xs = flat_map (λ x. line_if_piece x.state (piece_of x.text)) xs
