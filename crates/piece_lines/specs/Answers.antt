-- What the reader of an input answers, and what it appends.
use Rattle.std.specs.Prelude.{◌≡◌, ℕ, List, ◌++◌, length, take, filter_map, Option, option_map, Result, Ok, Err}
use Rattle.std.specs.Result.{result_ok}
use Rattle.scrip_form.specs.Reading.{scrip_of}
use Rattle.mc_records.specs.Entry.{Held}
use Rattle.mc_records.specs.Pieces.{pieces_bytes}
use Rattle.piece_lines.specs.declared.lines.PieceLinesFault.{PieceLinesFault}
use Rattle.piece_lines.specs.declared.lines.PieceLinesFault.TheVariants as faults

-- so many pieces were read, and their elements stand behind the bytes from before
pub record AreAppended (input : Result (List Held) ℕ) (old new : List ℕ) (count : ℕ) : Type 0 where
  pub pieces : List Held
  pub read : input ≡ Ok pieces
  pub counted : count ≡ length pieces
  pub appended : new ≡ old ++ pieces_bytes pieces

-- The pieces that the input has, or the line at which it breaks. Want of memory tells nothing of the input.
abbrev pub Tells : Result (List Held) ℕ → List ℕ → List ℕ → Result ℕ PieceLinesFault → Type 0
Tells input old new (Ok count) = AreAppended input old new count
Tells input old new (Err (faults.Line line)) = input ≡ Err line
Tells input old new (Err faults.NoMemory) = Unit {0}

-- ---- identities

-- the identity of the piece of a scrip text
abbrev pub text_id : List ℕ → Option ℕ
text_id text = option_map (λ p. p.id) (option_map (λ x. x.0) (result_ok (scrip_of text)))

-- the identities of the pieces of an input are so many at the front of these
pub record AreIds (input : Result (List Held) ℕ) (ids : List ℕ) (count : ℕ) : Type 0 where
  pub pieces : List Held
  pub read : input ≡ Ok pieces
  pub counted : count ≡ length pieces
  pub ids' : take count ids ≡ filter_map (λ p. text_id p.text) pieces

-- the identities of an input's pieces, or the line at which it breaks
abbrev pub TellsIds : Result (List Held) ℕ → List ℕ → Result ℕ ℕ → Type 0
TellsIds input ids (Ok count) = AreIds input ids count
TellsIds input ids (Err line) = input ≡ Err line
