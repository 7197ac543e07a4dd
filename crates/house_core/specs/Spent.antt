-- The piece that an entry spends.
use Rattle.std.specs.Prelude.{ℕ, List, Option, Some, None, option_map}
use Rattle.scrip_form.specs.Scrip.{Scrip}
use Rattle.mc_records.specs.Entry.{Entry}
use Rattle.ledger_model.specs.Pieces.{piece_of, accepted_piece}
use Rattle.house_state.specs.declared.verdict.Authorized.{Authorized}
use Rattle.house_state.specs.declared.verdict.Authorized.TheVariants as by
use Rattle.house_core.specs.declared.spent.SpentPiece.{SpentPiece}

-- what is told of a piece
abbrev pub told_of : Scrip → SpentPiece
told_of p = record { id = p.id; value = p.value; expires = p.expires }

-- what is told of the piece of a scrip text, where it is one
abbrev pub spent_by : List ℕ → Option SpentPiece
spent_by text = option_map told_of (piece_of text)

-- what is told of the piece that an entry accepts
abbrev pub spent_in : Entry → Option SpentPiece
spent_in e = option_map told_of (accepted_piece e)

-- what is told of the piece that was authorized to be spent
abbrev pub spent_with : Authorized → Option SpentPiece
spent_with (by.Scrip a) = Some (told_of a.scrip.now.piece)
spent_with (by.Draw d) = None
