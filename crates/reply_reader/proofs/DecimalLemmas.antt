-- Decimal numbers as the code reads them.
use Rattle.std.proofs.Common.{◌≡◌, ℕ, ◌<◌, ◌^◌, true, List, [], ◌∷◌, refl, sym, ap, ◌∙◌, arith, Option, Some, None}
use Rattle.std.specs.Prelude.{codes, decimal, eqb, IfSome, IsNone}
use Rattle.std.specs.List.{starts_with}
use Rattle.std.specs.Result.{is_ok}
use Rattle.std.specs.Str.Parse.{digits_value}
use Rattle.std.proofs.lemmas.Fmt.{decimal_is_IsNumeral}
use Rattle.mc_fields.specs.Texts.{IsNumber}
use Rattle.mc_fields.specs.Reading.{literal_at, field_of, number_machine}
use Rattle.mc_fields.proofs.NumberField.{number_whole, no_number}
use Rattle.millicent_http.specs.Decimals.{decimal_until}

-- a number has one spelling, and a spelling one number
pub decimal_one : (m n : ℕ) → m < 2 ^ 64 → n < 2 ^ 64 → decimal m ≡ decimal n → m ≡ n
decimal_one m n a b e = sym (decimal_is_IsNumeral m a).1 ∙ ap (digits_value 10) e ∙ (decimal_is_IsNumeral n b).1

-- the bytes that spell a number are read as it
pub spelled_number : (most n : ℕ) (bytes : List ℕ) → most < 2 ^ 64 → IsNumber most n → bytes ≡ decimal n → field_of (number_machine most 0) 0 bytes ≡ Some n
spelled_number most n bytes small is e = elim (field_of (number_machine most 0) 0 bytes) as (λ o. field_of (number_machine most 0) 0 bytes ≡ o → o ≡ Some n) [
  | None ↦ λ f. absurd (no_number most n bytes small f is e)
  | Some v ↦ λ f.
      let w = number_whole most v bytes small f in
      ap (λ (k : ℕ). Some k) (decimal_one v n (omega (arith, w.0.within)) (omega (arith, is.within)) (sym w.1 ∙ e))
] refl

-- what a reader of numbers answers
pub number_read : (most : ℕ) (bytes : List ℕ) (r : Option ℕ) → most < 2 ^ 64 → IfSome r (λ n. IsNumber most n × (bytes ≡ decimal n))
    → (IsNone r → (n : ℕ) → IsNumber most n → bytes ≡ decimal n → ⊥) → r ≡ field_of (number_machine most 0) 0 bytes
number_read most bytes (Some n) small some none = sym (spelled_number most n bytes small some.0 some.1)
number_read most bytes None small some none = elim (field_of (number_machine most 0) 0 bytes) as (λ o. field_of (number_machine most 0) 0 bytes ≡ o → None ≡ o) [
  | None ↦ λ f. refl
  | Some v ↦ λ f. let w = number_whole most v bytes small f in absurd (none refl v w.0 w.1)
] refl

-- ---- the number at the front of a refusal's text

-- a zero, which is a number where the space stands behind it
pub refusal_zero : (text : List ℕ) → starts_with eqb text (codes "0") ≡ true → starts_with eqb text (codes "0 ") ≡ is_ok (decimal_until 65535 32 text)
unfolding literal_at
refusal_zero [] h = absurd (cc h)
refusal_zero (c ∷ []) h = grind arith
refusal_zero (c ∷ d ∷ text) h = grind arith
