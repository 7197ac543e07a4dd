use Rattle.std.proofs.Common.{◌≡◌, ℕ, zero, suc, ◌≤◌, List, [], ◌∷◌, sym, ◌∙◌, refl, arith, rules}
use Rattle.std.specs.Prelude.{◌≢◌, decimal}
use Rattle.std.proofs.lemmas.Fmt.{decimal_digit}
use Rattle.mc_fields.specs.Texts.{IsNumber}
use Rattle.mc_door.proofs.framing.number_or_zero.Goals as goal

neither : (bytes : List ℕ) → bytes ≢ 48 ∷ [] → ((n : ℕ) → IsNumber 131073 n → bytes ≡ decimal n → ⊥) → (n : ℕ) → n ≤ 131073 → bytes ≡ decimal n → ⊥
neither bytes other none zero le e = other (e ∙ decimal_digit 0 (omega arith))
neither bytes other none (suc n) le e = none (suc n) (record { some = omega arith; within = le }) e

pub returns-then-eq-clause-number : goal.returns-then-eq-clause-number
returns-then-eq-clause-number c =
    let zero_is : c.args.bytes.now ≡ 48 ∷ [] = search rules in
    (omega arith, zero_is ∙ sym (decimal_digit 0 (omega arith)))

pub returns-in_err-number_of-clause-none : goal.returns-in_err-number_of-clause-none
returns-in_err-number_of-clause-none c = λ is. neither c.args.bytes.now (search rules) (c.in_err-number_of.ensures.none refl)
