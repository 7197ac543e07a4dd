-- What is spelled is told.
use Rattle.std.proofs.Common.{◌≡◌, ℕ, ◌-◌, ◌^◌, ◌<◌, ◌≤◌, map, Bool, true, false, eqb, List, [], ◌∷◌, ◌++◌, length, Option, Some, None, refl, ap, ◌∙◌, append_assoc, append-nil, sym, arith, lit<}
use Rattle.std.specs.Prelude.{◌&&◌, not, nat_le, take, drop, codes, decimal, bytes_eq, if◌then◌else◌}
use Rattle.std.specs.List.{list_any, list_all}
use Rattle.std.specs.Char.{digit_value}
use Rattle.std.specs.Str.Parse.{AllDigits}
use Rattle.std.proofs.lemmas.Bool.{le-leb, lt-leb, and_parts, and_from, or_parts, or_from}
use Rattle.std.proofs.lemmas.Bool.Decides.{nat_tests}
use Rattle.std.proofs.lemmas.List.{length-map, length-drop, take_all, take-map, drop-map}
use Rattle.std.proofs.lemmas.List.Folds.{list_any-append, list_all-map}
use Rattle.std.proofs.lemmas.Slice.Eq.{bytes_eq-Decides}
use Rattle.std.proofs.lemmas.Fmt.{decimal_is_IsNumeral_wide}
use Rattle.mc_fields.specs.Cuts.{cut, then_cut}
use Rattle.mc_fields.proofs.CutLaws.{IsFree, cut_again, cut_on}
use Rattle.door_wire.specs.Wire.{told_parts, words_of, IsTold, with_dash, is_plain, are_plain, spaced, told_of}
use Rattle.door_wire.proofs.WordLemmas.{cut_none, cut_some}

-- ---- what has no space and no end of a line

pub free_append : (stop : ℕ) (a b : List ℕ) → IsFree stop a → IsFree stop b → IsFree stop (a ++ b)
free_append stop a b fa fb = list_any-append (λ c. eqb c stop) a b ∙ or_from (list_any (λ c. eqb c stop) a) (list_any (λ c. eqb c stop) b) fa fb

digit_free : (stop c : ℕ) → stop < 48 → digit_value c < 10 → eqb c stop ≡ false
digit_free stop c small lt = grind (arith, nat_tests, lt, small)

digits_free : (stop : ℕ) (ds : List ℕ) → stop < 48 → AllDigits 10 ds → IsFree stop ds
digits_free stop [] small all = refl
digits_free stop (c ∷ cs) small all = or_from (eqb c stop) (list_any (λ b. eqb b stop) cs) (digit_free stop c small all.0) (digits_free stop cs small all.1)

pub decimal_free : (stop n : ℕ) → stop < 48 → n < 10 ^ 64 → IsFree stop (decimal n)
decimal_free stop n small fits = digits_free stop (decimal n) small (decimal_is_IsNumeral_wide n fits).0.1

not_true : (b : Bool) → not b ≡ true → b ≡ false
not_true true is = absurd cc
not_true false is = refl

plain_free : (word : List ℕ) → is_plain word ≡ true → IsFree 32 word × IsFree 10 word
plain_free [] is = (refl, refl)
plain_free (c ∷ cs) is =
    let parts = and_parts (not (eqb c 32) && not (eqb c 10)) (list_all (λ b. not (eqb b 32) && not (eqb b 10)) cs) is in
    let each = and_parts (not (eqb c 32)) (not (eqb c 10)) parts.0 in
    let rest = plain_free cs parts.1 in
    (or_from (eqb c 32) (list_any (λ b. eqb b 32) cs) (not_true (eqb c 32) each.0) rest.0, or_from (eqb c 10) (list_any (λ b. eqb b 10) cs) (not_true (eqb c 10) each.1) rest.1)

spaced_free : (words : List (List ℕ)) → list_all is_plain words ≡ true → IsFree 10 (spaced words)
spaced_free [] are = refl
spaced_free (word ∷ words) are =
    let parts = and_parts (is_plain word) (list_all is_plain words) are in
    free_append 10 (32 ∷ word) (spaced words) (plain_free word parts.0).1 (spaced_free words parts.1)

-- ---- it is cut again

cut_free : (stop : ℕ) (word : List ℕ) → IsFree stop word → cut stop word ≡ None
unfolding cut
cut_free stop [] free = refl
cut_free stop (c ∷ cs) free =
    let parts = or_parts (eqb c stop) (list_any (λ b. eqb b stop) cs) free in
    rw (parts.0, cut_free stop cs parts.1) refl

-- the words of a line are cut apart
words_back : (word : List ℕ) (words : List (List ℕ)) → list_all is_plain (word ∷ words) ≡ true → words_of (word ++ spaced words) ≡ word ∷ words
words_back word [] are =
    let free = plain_free word (and_parts (is_plain word) true are).0 in
    ap (λ (l : List ℕ). words_of l) (append-nil word) ∙ cut_none word (cut_free 32 word free.0)
words_back word (next ∷ words) are =
    let parts = and_parts (is_plain word) (list_all is_plain (next ∷ words)) are in
    cut_some (word ++ spaced (next ∷ words)) word (next ++ spaced words) (cut_again 32 word (next ++ spaced words) (plain_free word parts.0).0)
    ∙ ap (λ (l : List (List ℕ)). word ∷ l) (words_back next words parts.1)

pub if_same : {A : Type 0} (bytes : List ℕ) (a b : A) → (if bytes_eq bytes bytes then a else b) ≡ a
if_same bytes a b = rw ((bytes_eq-Decides bytes bytes).1 refl) refl

parts_back : (word : List ℕ) (words : List (List ℕ)) (input : List ℕ) → length input < 10 ^ 64 → list_all is_plain (word ∷ words) ≡ true
    → told_parts (told_of (word ∷ words) input) ≡ Some (word ++ spaced words, input)
parts_back word words input small are =
    let number = decimal (length input) in
    let head = number ++ spaced (word ∷ words) in
    ap (λ (t : List ℕ). told_parts t) (append_assoc head (10 ∷ []) input)
    ∙ ap (λ (o : Option (List ℕ × List ℕ)). then_cut o parts_in) (cut_again 10 head input (free_append 10 number (spaced (word ∷ words)) (decimal_free 10 (length input) (lit< tt) small) (spaced_free (word ∷ words) are)))
    ∙ cut_on number (word ++ spaced words) (λ n line. line_in input n line) (decimal_free 32 (length input) (lit< tt) small)
    ∙ if_same number (Some (word ++ spaced words, input)) None
  where
    line_in : List ℕ → List ℕ → List ℕ → Option (List ℕ × List ℕ)
    line_in input n line = if bytes_eq (decimal (length input)) n then Some (line, input) else None

    parts_in : List ℕ → List ℕ → Option (List ℕ × List ℕ)
    parts_in head input = then_cut (cut 32 head) λ n line. line_in input n line

pub spelled_told : (words : List (List ℕ)) (input : List ℕ) → length input < 10 ^ 64 → are_plain words ≡ true → IsTold (told_of (with_dash words) input) (with_dash words) input
spelled_told [] input small are = absurd cc
spelled_told (a ∷ []) input small are = absurd cc
spelled_told (a ∷ b ∷ []) input small are = absurd cc
spelled_told (a ∷ b ∷ c ∷ words) input small are =
    let parts = and_parts (nat_le 3 (length (a ∷ b ∷ c ∷ words))) (list_all is_plain (a ∷ b ∷ []) && list_all is_plain words) are in
    let two = and_parts (list_all is_plain (a ∷ b ∷ [])) (list_all is_plain words) parts.1 in
    let first = and_parts (is_plain a) (list_all is_plain (b ∷ [])) two.0 in
    let second = and_parts (is_plain b) true first.1 in
    let all : list_all is_plain (a ∷ b ∷ codes "-" ∷ words) ≡ true = and_from (is_plain a) (list_all is_plain (b ∷ codes "-" ∷ words)) first.0 (and_from (is_plain b) (list_all is_plain (codes "-" ∷ words)) second.0 two.1) in
    record {
      line = a ++ spaced (b ∷ codes "-" ∷ words);
      parts = parts_back a (b ∷ codes "-" ∷ words) input small all;
      words' = sym (words_back a (b ∷ codes "-" ∷ words) all);
    }

pub plain_words : {A : Type 0} (f : A → List ℕ) (words : List A) → 3 ≤ length words
    → (list_all (λ word. is_plain (f word)) (take 2 words) && list_all (λ word. is_plain (f word)) (take (length words - 3) (drop 3 words))) ≡ are_plain (map f words)
plain_words {A = A} f words many =
    ap (λ (l : List A). list_all (λ word. is_plain (f word)) (take 2 words) && list_all (λ word. is_plain (f word)) l) (take_all (length words - 3) (drop 3 words) (omega (arith, length-drop 3 words)))
    ∙ rw (length-map words f, le-leb 3 (length words) many, take-map f 2 words, drop-map f 3 words, list_all-map is_plain f (take 2 words), list_all-map is_plain f (drop 3 words)) refl

pub few_words : {A : Type 0} (f : A → List ℕ) (words : List A) → length words < 3 → false ≡ are_plain (map f words)
few_words f words few = rw (length-map words f, lt-leb 3 (length words) few) refl

pub then_plain : (first second both result : Bool) → true ≡ first → result ≡ second → (first && second) ≡ both → result ≡ both
then_plain first second both result one two is = two ∙ ap (λ (b : Bool). b && second) one ∙ is
