-- Names, props and targets as lists of bytes.
use Rattle.std.specs.Prelude.{◌≡◌, ℕ, ◌==◌, ◌||◌, ◌&&◌, nat_le, Bool, true, List}
use Rattle.std.proofs.lemmas.Bool.{or_left, eqb-true}
use Rattle.std.proofs.Common.{subst, sym, refl}
use Rattle.mc_fields.specs.Texts.{IsText, is_text}

-- `a` to `z`, `0` to `9`
abbrev pub is_letter_or_digit : ℕ → Bool
is_letter_or_digit c = (nat_le 97 c && nat_le c 122) || (nat_le 48 c && nat_le c 57)

-- letters, digits, `-` and `.`
abbrev pub is_name_byte : ℕ → Bool
is_name_byte c = is_letter_or_digit c || (c == 45 || c == 46)

-- letters, digits, `=`, `,`, `.` and `-`
abbrev pub is_props_byte : ℕ → Bool
is_props_byte c = is_letter_or_digit c || (c == 61 || (c == 44 || (c == 46 || c == 45)))

abbrev pub is_slash : ℕ → Bool
is_slash c = c == 47

-- hex 21 to hex 7e
abbrev pub is_visible : ℕ → Bool
is_visible c = nat_le 0x21 c && nat_le c 0x7e

abbrev pub IsName : List ℕ → Type 0
IsName bytes = IsText is_letter_or_digit is_name_byte 1 63 bytes

abbrev pub IsProps : List ℕ → Type 0
IsProps bytes = IsText is_props_byte is_props_byte 0 128 bytes

abbrev pub IsTarget : List ℕ → Type 0
IsTarget bytes = IsText is_slash is_visible 1 512 bytes

-- the tests of a name and of a target
abbrev pub is_name : List ℕ → Bool
is_name bytes = is_text is_letter_or_digit is_name_byte 1 63 bytes

abbrev pub is_target : List ℕ → Bool
is_target bytes = is_text is_slash is_visible 1 512 bytes

pub letter_is_name_byte : (c : ℕ) → is_letter_or_digit c ≡ true → is_name_byte c ≡ true
letter_is_name_byte c h = or_left (is_letter_or_digit c) (c == 45 || c == 46) h

pub slash_is_visible : (c : ℕ) → is_slash c ≡ true → is_visible c ≡ true
slash_is_visible c h = subst (λ (b : ℕ). is_visible b ≡ true) (sym (eqb-true c 47 h)) refl
