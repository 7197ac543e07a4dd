-- What a caller sees of a list of pieces.
use Rattle.std.specs.Prelude.{ℕ, List, [], Option, Some, None}
use Rattle.scrip_form.specs.Scrip.{Certified}
use Rattle.mc_records.specs.declared.piece_list.PieceList.{PieceList}
use Rattle.mc_records.specs.Entry.{Held}
use Rattle.mc_records.specs.Pieces.{pieces_in}

abbrev pub pieces_of : PieceList → List Held
pieces_of l = pieces_in l.count l.bytes.now

-- a scrip text that was read, and its secret
abbrev pub piece_of : Certified × List ℕ → Held
piece_of p = record { text = p.0.text; secret = p.1 }

-- the pieces that are left, where any are
abbrev pub pieces_left : Option PieceList → List Held
pieces_left None = []
pieces_left (Some l) = pieces_of l
