-- The readers of names, props and identities.
use Rattle.std.proofs.Common.{◌≡◌, ℕ, ◌<◌, ◌^◌, false, List, get_or, refl, ap, arith, inl, inr, length}
use Rattle.std.specs.Prelude.{◌==◌, ◌||◌, codes}
use Rattle.std.specs.List.{AllByRecursion}
use Rattle.std.specs.Int.{w64, to_be_bytes, from_be_bytes}
use Rattle.std.proofs.lemmas.Bool.{cases_lt, or_parts}
use Rattle.std.proofs.lemmas.List.{get_or_past}
use Rattle.std.proofs.lemmas.List.Elements.{All-from_recursion, All-get_or}
use Rattle.std.proofs.lemmas.Nat.{be_bytes_8, from_be_bytes-to_be_bytes_8}
use Rattle.hex.specs.Hex.{encode_lower}
use Rattle.mc_fields.proofs.Formats.{Reads, pair_reads, map_reads, pair_spelling, PairFits}
use Rattle.mc_fields.proofs.FieldLaws.{literal_reads, literal_spelling, Always, with_stop}
use Rattle.mc_fields.proofs.TextField.{AreTests, text_reads}
use Rattle.mc_fields.proofs.HexField.{AreBytes, hex_reads}
use Rattle.scrip_form.specs.Texts.{IsName, IsProps, is_letter_or_digit, is_name_byte, is_props_byte, letter_is_name_byte}
use Rattle.scrip_form.specs.Scrip.{id_digits, barred}
use Rattle.scrip_form.specs.Reading.{name_until, name_at, props_at, id_at}

letter_of_name : (c : ℕ) → is_name_byte c ≡ false → is_letter_or_digit c ≡ false
letter_of_name c h = (or_parts (is_letter_or_digit c) (c == 45 || c == 46) h).0

name_tests : (stop : ℕ) → is_name_byte stop ≡ false → AreTests is_letter_or_digit is_name_byte stop
name_tests stop h = record { first_bar = letter_of_name stop h; other_bar = h; stronger = letter_is_name_byte }

pub name_until_reads : (stop : ℕ) → is_name_byte stop ≡ false → Reads (with_stop stop (λ s. s)) IsName (name_until stop)
name_until_reads stop h = text_reads is_letter_or_digit is_name_byte stop (name_tests stop h) 97 refl 1 63 (omega arith) (omega arith)

pub name_reads : Reads barred IsName name_at
name_reads = name_until_reads 124 refl

props_tests : AreTests is_props_byte is_props_byte 124
props_tests = record { first_bar = refl; other_bar = refl; stronger = λ c h. h }

pub props_reads : Reads barred IsProps props_at
props_reads = text_reads is_props_byte is_props_byte 124 props_tests 97 refl 0 128 (omega arith) (omega arith)

-- ---- identities

abbrev pub IsId : ℕ → Type 0
IsId n = n < 2 ^ 64

bytes_below : (bytes : List ℕ) → AllByRecursion (λ b. b < 256) bytes → (i : ℕ) → get_or bytes i 0 < 256
bytes_below bytes all i = elim (cases_lt i (length bytes)) [
  | inl lt ↦ All-get_or (λ b. b < 256) bytes i 0 lt (All-from_recursion (λ b. b < 256) bytes all)
  | inr le ↦ rw (get_or_past bytes i 0 le) (omega arith)
]

id_there : (x : List ℕ × Unit {0}) → PairFits (AreBytes 8) Always x → (barred (id_digits (from_be_bytes w64 x.0)) ≡ pair_spelling encode_lower (literal_spelling (codes "|")) x) × IsId (from_be_bytes w64 x.0)
id_there x f =
    let below : (i : ℕ) → get_or x.0 i 0 < 256 = bytes_below x.0 f.0.1 in (
      ap (λ (l : List ℕ). barred (encode_lower l)) (be_bytes_8 x.0 (from_be_bytes w64 x.0) f.0.0 below refl),
      omega (arith, below 0, below 1, below 2, below 3, below 4, below 5, below 6, below 7),
    )

id_back : (n : ℕ) → IsId n → (pair_spelling encode_lower (literal_spelling (codes "|")) (to_be_bytes w64 n, tt) ≡ barred (id_digits n)) × PairFits (AreBytes 8) Always (to_be_bytes w64 n, tt) × (from_be_bytes w64 (to_be_bytes w64 n) ≡ n)
id_back n lt = (refl, ((refl, (omega arith, (omega arith, (omega arith, (omega arith, (omega arith, (omega arith, (omega arith, (omega arith, tt))))))))), tt), from_be_bytes-to_be_bytes_8 n lt)

pub id_reads : Reads (λ n. barred (id_digits n)) IsId id_at
unfolding id_at
id_reads = map_reads (pair_reads (hex_reads 8) (literal_reads (codes "|")) tt tt)
    (λ n. barred (id_digits n)) IsId id_at (λ x. from_be_bytes w64 x.0) (λ n. (to_be_bytes w64 n, tt)) (λ bytes. refl) id_there id_back
