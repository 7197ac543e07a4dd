-- Words of a line, cut one by one.
use Rattle.std.proofs.Common.{◌≡◌, ℕ, ◌<◌, Bool, true, false, eqb, List, [], ◌∷◌, ◌++◌, length, refl, sym, ap, ap₂, ◌∙◌, append_assoc, arith, length-append, Option, Some, None, option_map}
use Rattle.std.specs.Prelude.{if◌then◌else◌}
use Rattle.std.specs.Str.{IsUtf8}
use Rattle.std.proofs.lemmas.Option.{same_Some}
use Rattle.mc_fields.specs.Cuts.{cut}
use Rattle.mc_fields.proofs.CutLaws.{cut_sound}
use Rattle.door_wire.specs.Wire.{words_of, HasNoText, Pushes}

-- where there is no space the line is one word; else the first word stands before it
pub cut_none : (line : List ℕ) → cut 32 line ≡ None → words_of line ≡ line ∷ []
unfolding cut
cut_none [] is = refl
cut_none (c ∷ cs) is = go (eqb c 32) refl (cut 32 cs) refl is (cut_none cs)
  where
    goes_on : Bool → Option (List ℕ × List ℕ) → Option (List ℕ × List ℕ)
    goes_on b o = if b then Some ([], cs) else option_map (λ x. (c ∷ x.0, x.1)) o

    go : (b : Bool) → eqb c 32 ≡ b → (o : Option (List ℕ × List ℕ)) → cut 32 cs ≡ o → goes_on b o ≡ None → (cut 32 cs ≡ None → words_of cs ≡ cs ∷ []) → words_of (c ∷ cs) ≡ (c ∷ cs) ∷ []
    go true e o p q more = absurd cc
    go false e None p q more = rw (e, more p) refl
    go false e (Some y) p q more = absurd cc

pub cut_some : (line word rest : List ℕ) → cut 32 line ≡ Some (word, rest) → words_of line ≡ word ∷ words_of rest
unfolding cut
cut_some [] word rest is = absurd cc
cut_some (c ∷ cs) word rest is = go (eqb c 32) refl (cut 32 cs) refl is (λ w r. cut_some cs w r)
  where
    goes_on : Bool → Option (List ℕ × List ℕ) → Option (List ℕ × List ℕ)
    goes_on b o = if b then Some ([], cs) else option_map (λ x. (c ∷ x.0, x.1)) o

    go : (b : Bool) → eqb c 32 ≡ b → (o : Option (List ℕ × List ℕ)) → cut 32 cs ≡ o → goes_on b o ≡ Some (word, rest) → ((w r : List ℕ) → cut 32 cs ≡ Some (w, r) → words_of cs ≡ w ∷ words_of r) → words_of (c ∷ cs) ≡ word ∷ words_of rest
    go true e o p q more =
        let x = same_Some ([], cs) (word, rest) q in
        rw e (ap₂ (λ (w r : List ℕ). w ∷ words_of r) (ap (λ (y : List ℕ × List ℕ). y.0) x) (ap (λ (y : List ℕ × List ℕ). y.1) x))
    go false e None p q more = absurd cc
    go false e (Some y) p q more =
        let x = same_Some (c ∷ y.0, y.1) (word, rest) q in
        rw (e, more y.0 y.1 p) (ap₂ (λ (w r : List ℕ). w ∷ words_of r) (ap (λ (z : List ℕ × List ℕ). z.0) x) (ap (λ (z : List ℕ × List ℕ). z.1) x))

pub cut_shorter : (line word rest : List ℕ) → cut 32 line ≡ Some (word, rest) → length rest < length line
cut_shorter line word rest is = omega (arith, ap (λ (l : List ℕ). length l) (cut_sound 32 line word rest is), length-append word (32 ∷ rest))

-- ---- the words so far, and the rest

pub word_on : (line : List ℕ) (before after : List (List ℕ)) (rest word behind : List ℕ) → words_of line ≡ before ++ words_of rest → cut 32 rest ≡ Some (word, behind) → Pushes true word before after → words_of line ≡ after ++ words_of behind
word_on line before after rest word behind so is pushed =
    so ∙ ap (λ (l : List (List ℕ)). before ++ l) (cut_some rest word behind is) ∙ sym (append_assoc before (word ∷ []) (words_of behind)) ∙ ap (λ (l : List (List ℕ)). l ++ words_of behind) (sym pushed)

pub word_last : (line : List ℕ) (before after : List (List ℕ)) (rest : List ℕ) → words_of line ≡ before ++ words_of rest → cut 32 rest ≡ None → Pushes true rest before after → after ≡ words_of line
word_last line before after rest so is pushed = pushed ∙ sym (so ∙ ap (λ (l : List (List ℕ)). before ++ l) (cut_none rest is))

pub no_word : (line : List ℕ) (before : List (List ℕ)) (rest word behind : List ℕ) → words_of line ≡ before ++ words_of rest → cut 32 rest ≡ Some (word, behind) → (IsUtf8 word → ⊥) → HasNoText (words_of line)
no_word line before rest word behind so is none = record { front = before; word = word; back = words_of behind; stands = so ∙ ap (λ (l : List (List ℕ)). before ++ l) (cut_some rest word behind is); none = none }

pub no_last : (line : List ℕ) (before : List (List ℕ)) (rest : List ℕ) → words_of line ≡ before ++ words_of rest → cut 32 rest ≡ None → (IsUtf8 rest → ⊥) → HasNoText (words_of line)
no_last line before rest so is none = record { front = before; word = rest; back = []; stands = so ∙ ap (λ (l : List (List ℕ)). before ++ l) (cut_none rest is); none = none }
