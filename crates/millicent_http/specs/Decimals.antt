-- Decimal numbers without sign or leading zero, 0 among them.
use Rattle.std.specs.Prelude.{ℕ, ◌==◌, List, [], ◌∷◌, Option, Some, if◌then◌else◌, codes, bytes_eq}
use Rattle.mc_fields.specs.Reading.{Read, map_read, literal_at, field_of, number_machine, number_at}

-- the number of at most this size that the bytes spell whole
abbrev pub decimal_of : ℕ → List ℕ → Option ℕ
decimal_of most bytes = if bytes_eq bytes (codes "0") then Some 0 else field_of (number_machine most 0) 0 bytes

-- such a number at the front, with the byte that stops it behind it
abbrev pub decimal_until : ℕ → ℕ → List ℕ → Read ℕ
decimal_until most stop [] = number_at most stop []
decimal_until most stop (c ∷ cs) = if c == 48 then map_read (λ u. 0) (literal_at (48 ∷ stop ∷ []) (c ∷ cs)) else number_at most stop (c ∷ cs)
