use Rattle.std.proofs.Common.{◌≡◌, ℕ, zero, suc, ◌≤◌, List, [], ◌∷◌, sym, ◌∙◌, arith, rules}
use Rattle.std.specs.Prelude.{◌≢◌, decimal}
use Rattle.std.proofs.lemmas.Fmt.{decimal_digit}
use Rattle.mc_fields.specs.Texts.{IsNumber}
use Rattle.command_table.proofs.value.number_or_zero.Goals as goal

neither : (most : ℕ) (bytes : List ℕ) → bytes ≢ 48 ∷ [] → ((n : ℕ) → IsNumber most n → bytes ≡ decimal n → ⊥) → (n : ℕ) → n ≤ most → bytes ≡ decimal n → ⊥
neither most bytes other none zero le e = other (e ∙ decimal_digit 0 (omega arith))
neither most bytes other none (suc n) le e = none (suc n) (record { some = omega arith; within = le }) e

pub returns-then-eq-clause-number : goal.returns-then-eq-clause-number
returns-then-eq-clause-number c =
    let zero_is : c.args.bytes.now ≡ 48 ∷ [] = search rules in
    (omega arith, zero_is ∙ sym (decimal_digit 0 (omega arith)))

pub returns-clause-none : goal.returns-clause-none
returns-clause-none c = λ is. neither c.args.most c.args.bytes.now (search rules) (c.number_of.ensures.none is)
