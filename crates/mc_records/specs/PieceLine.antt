-- The line of a piece, in which pieces go from hand to hand as text: what a sale or a draw brings is one, and an
-- operator's input of pieces is one or more.
use Rattle.std.specs.Prelude.{List, ◌++◌, ℕ, codes}
use Rattle.hex.specs.Hex.{encode_lower}
use Rattle.mc_records.specs.Entry.{Held}

-- its scrip text, a space, its customer secret as 32 lower-case hex digits, and an LF
abbrev pub piece_line : Held → List ℕ
piece_line p = p.text ++ (codes " " ++ (encode_lower p.secret ++ codes "\n"))
