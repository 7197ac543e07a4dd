-- Piece lines: a scrip text, a space, the customer secret as 32 hex digits, and an LF.
use Rattle.std.specs.Prelude.{◌≡◌, ℕ, zero, suc, ◌+◌, ◌<◌, ◌≤◌, Bool, IsTrue, if◌then◌else◌, List, [], ◌∷◌, ◌++◌, length, flat_map, Result, Ok, Err, codes}
use Rattle.std.specs.List.{AllByRecursion}
use Rattle.hex.specs.Hex.{encode_lower}
use Rattle.mc_fields.specs.Reading.{Read, literal_at, hex_at, pair_at, map_read, ◌>>=◌}
use Rattle.scrip_form.specs.Scrip.{Scrip, IsCert, IsTextOf, scrip_text}
use Rattle.scrip_form.specs.Reading.{scrip_at}
use Rattle.mc_records.specs.Entry.{Held}
use Rattle.mc_records.specs.PieceLine.{piece_line}
use Rattle.mc_records.specs.declared.ranges.TheConstants.{MOST_PIECES}

-- the space, the digits of a secret and the LF
abbrev pub secret_part : List ℕ → List ℕ
secret_part secret = codes " " ++ (encode_lower secret ++ codes "\n")

-- ---- what an input is

-- what has a line: the scrip text of a piece that passes, and 16 bytes
pub record LineFits (test : Scrip → Bool) (p : Held) : Type 0 where
  pub piece : Scrip
  pub cert : List ℕ
  pub text : IsTextOf p.text piece cert
  pub passes : IsTrue (test piece)
  pub secret : IsCert p.secret

-- the bytes are the lines of these pieces, 1 to 256
pub record AreLines (test : Scrip → Bool) (bytes : List ℕ) (pieces : List Held) : Type 0 where
  pub some : 1 ≤ length pieces
  pub few : length pieces ≤ MOST_PIECES
  pub fit : AllByRecursion (LineFits test) pieces
  pub spelled : bytes ≡ flat_map piece_line pieces

abbrev pub BeginsNoLine : (Scrip → Bool) → List ℕ → Type 0
BeginsNoLine test bytes = (p : Held) (more : List ℕ) → LineFits test p → bytes ≡ piece_line p ++ more → ⊥

-- Behind some right lines, at most 256, more bytes follow. Where there are fewer than 256, these don't begin
-- with a right line. The line that breaks is the one behind the right ones.
pub record BreaksBehind (test : Scrip → Bool) (bytes : List ℕ) (line : ℕ) : Type 0 where
  pub before : List Held
  pub rest : List ℕ
  pub few : length before ≤ MOST_PIECES
  pub fit : AllByRecursion (LineFits test) before
  pub spelled : bytes ≡ flat_map piece_line before ++ rest
  pub more : 0 < length rest
  pub breaks : length before < MOST_PIECES → BeginsNoLine test rest
  pub is_line : line ≡ length before + 1

-- the line, from 1, at which an input breaks, and 0 for an empty one
abbrev pub BreaksAt : (Scrip → Bool) → List ℕ → ℕ → Type 0
BreaksAt test [] line = line ≡ 0
BreaksAt test (b ∷ bytes) line = BreaksBehind test (b ∷ bytes) line

abbrev pub IsTold : (Scrip → Bool) → List ℕ → Result (List Held) ℕ → Type 0
IsTold test bytes (Ok pieces) = AreLines test bytes pieces
IsTold test bytes (Err line) = BreaksAt test bytes line

-- ---- the same, computed

-- the space, the digits of a secret and the LF behind a text
unfoldable pub secret_at : List ℕ → Read (List ℕ)
secret_at bytes =
    map_read (λ x. x.1.0) (pair_at (literal_at (codes " ")) (pair_at (hex_at 16) (literal_at (codes "\n"))) bytes)

abbrev pub tested : (Scrip → Bool) → ℕ → Scrip × List ℕ → List ℕ × List ℕ → Read Held
tested test left x secret =
    if test x.0 then Ok (record { text = scrip_text x.0 x.1; secret = secret.0 }, secret.1) else Err left

-- a line at the front
unfoldable pub line_at : (Scrip → Bool) → List ℕ → Read Held
line_at test bytes = scrip_at bytes >>= λ x. secret_at x.1 >>= tested test (length bytes) x.0

-- some pieces, and those behind them
abbrev pub behind : List Held → Result (List Held) ℕ → Result (List Held) ℕ
behind ps (Ok qs) = Ok (ps ++ qs)
behind ps (Err line) = Err line

abbrev pub after_line : (List ℕ → Result (List Held) ℕ) → ℕ → Read Held → Result (List Held) ℕ
after_line others number (Ok x) = behind (x.0 ∷ []) (others x.1)
after_line others number (Err left) = Err number

-- at most so many lines, the first of this number; else the number of the first that breaks, which is the
-- one behind the last where more bytes follow
abbrev pub lines_from : (Scrip → Bool) → ℕ → ℕ → List ℕ → Result (List Held) ℕ
lines_from test zero number [] = Ok []
lines_from test zero number (b ∷ bytes) = Err number
lines_from test (suc most) number [] = Ok []
lines_from test (suc most) number (b ∷ bytes) =
    after_line (lines_from test most (number + 1)) number (line_at test (b ∷ bytes))

-- the pieces of an input, or the line at which it breaks
abbrev pub input_lines : (Scrip → Bool) → List ℕ → Result (List Held) ℕ
input_lines test [] = Err 0
input_lines test (b ∷ bytes) = lines_from test MOST_PIECES 1 (b ∷ bytes)
