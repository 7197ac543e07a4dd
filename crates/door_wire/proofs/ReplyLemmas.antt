-- What is answered is read.
use Rattle.std.proofs.Common.{◌≡◌, ℕ, ◌+◌, ◌%◌, ◌^◌, ◌<◌, Bool, true, false, eqb, eqb-true, List, [], ◌∷◌, ◌++◌, length, length-append, Option, Some, None, refl, sym, ap, ap₂, ◌∙◌, subst, append_assoc, arith, lit<}
use Rattle.std.specs.Prelude.{◌||◌, IsTrue, slice_get, codes, decimal, bytes_eq, if◌then◌else◌}
use Rattle.std.proofs.lemmas.Fmt.{decimal_digit, decimal_injective}
use Rattle.std.proofs.lemmas.Option.{same_Some}
use Rattle.std.proofs.lemmas.Slice.Eq.{bytes_eq-Decides}
use Rattle.mc_fields.specs.Cuts.{cut, then_cut}
use Rattle.mc_fields.proofs.CutLaws.{cut_again, cut_on, cut_sound}
use Rattle.door_wire.specs.Wire.{answer_parts, is_doors, IsAnswer}
use Rattle.door_wire.proofs.SpellingLemmas.{free_append, decimal_free, if_same}

-- ---- a status that a door answers is one of five

pub doors_are : (P : ℕ → Type 0) → P 0 → P 2 → P 4 → P 5 → P 7 → (n : ℕ) → IsTrue (is_doors n) → P n
doors_are P p0 p2 p4 p5 p7 n is = by (eqb n 0) refl (eqb n 2) refl (eqb n 4) refl (eqb n 5) refl (eqb n 7) refl is
  where
    at : (m : ℕ) → P m → eqb n m ≡ true → P n
    at m p e = subst P (sym (eqb-true n m e)) p

    by : (a : Bool) → eqb n 0 ≡ a → (b : Bool) → eqb n 2 ≡ b → (c : Bool) → eqb n 4 ≡ c → (d : Bool) → eqb n 5 ≡ d → (e : Bool) → eqb n 7 ≡ e → IsTrue (a || (b || (c || (d || e)))) → P n
    by true ea b eb c ec d ed e ee i = at 0 p0 ea
    by false ea true eb c ec d ed e ee i = at 2 p2 eb
    by false ea false eb true ec d ed e ee i = at 4 p4 ec
    by false ea false eb false ec true ed e ee i = at 5 p5 ed
    by false ea false eb false ec false ed true ee i = at 7 p7 ee
    by false ea false eb false ec false ed false ee i = absurd cc

pub doors_below : (n : ℕ) → IsTrue (is_doors n) → n < 10
doors_below = doors_are (λ n. n < 10) (lit< tt) (lit< tt) (lit< tt) (lit< tt) (lit< tt)

-- ---- its parts

abbrev line_in : List ℕ → List ℕ → List ℕ → Option (List ℕ × List ℕ)
line_in line number len = if bytes_eq (decimal (length line)) len then Some (number, line) else None

-- joined from the left or from the right it is the same
joined_so : (number len line : List ℕ) → (number ++ 32 ∷ len) ++ 10 ∷ line ≡ number ++ codes " " ++ len ++ codes "\n" ++ line
joined_so number len line =
    ap (λ (l : List ℕ). l ++ 10 ∷ line) (sym (append_assoc number (32 ∷ []) len)) ∙ sym (append_assoc (number ++ (32 ∷ []) ++ len) (10 ∷ []) line)

pub parts_read : (bytes : List ℕ) (number : ℕ) (line : List ℕ) → length bytes < 2 ^ 64 → IsAnswer bytes number line → answer_parts bytes ≡ Some (decimal number, line)
parts_read bytes number line small is =
    let n = decimal number in
    let len = decimal (length line) in
    let so : bytes ≡ (n ++ 32 ∷ len) ++ 10 ∷ line = is.is ∙ sym (joined_so n len line) in
    let few : length line < 10 ^ 64 = omega (arith, small, ap (λ (l : List ℕ). length l) so, length-append (n ++ 32 ∷ len) (10 ∷ line)) in
    let low : number < 10 ^ 64 = omega (arith, doors_below number is.of_door) in
    ap (λ (b : List ℕ). answer_parts b) so
    ∙ ap (λ (o : Option (List ℕ × List ℕ)). then_cut o parts_in)
    (cut_again 10 (n ++ 32 ∷ len) line (free_append 10 n (32 ∷ len) (decimal_free 10 number (lit< tt) low) (free_append 10 (32 ∷ []) len refl (decimal_free 10 (length line) (lit< tt) few))))
    ∙ cut_on n len (λ a b. line_in line a b) (decimal_free 32 number (lit< tt) low)
    ∙ if_same len (Some (n, line)) None
  where
    parts_in : List ℕ → List ℕ → Option (List ℕ × List ℕ)
    parts_in head line = then_cut (cut 32 head) λ a b. line_in line a b

pub parts_sound : (bytes number line : List ℕ) → answer_parts bytes ≡ Some (number, line) → bytes ≡ number ++ codes " " ++ decimal (length line) ++ codes "\n" ++ line
parts_sound bytes number line is = first (cut 10 bytes) refl is
  where
    pair : List ℕ → List ℕ → Option (List ℕ × List ℕ)
    pair a b = Some (a, b)

    parts_in : List ℕ → List ℕ → Option (List ℕ × List ℕ)
    parts_in head rest = then_cut (cut 32 head) λ a b. line_in rest a b

    third : (head rest n len : List ℕ) → bytes ≡ head ++ 10 ∷ rest → head ≡ n ++ 32 ∷ len → (t : Bool) → bytes_eq (decimal (length rest)) len ≡ t → (if t then pair n rest else None) ≡ pair number line
        → bytes ≡ number ++ codes " " ++ decimal (length line) ++ codes "\n" ++ line
    third head rest n len so so' false e r = absurd cc
    third head rest n len so so' true e r =
        let x = same_Some (n, rest) (number, line) r in
        let len' : len ≡ decimal (length rest) = sym ((bytes_eq-Decides (decimal (length rest)) len).0 e) in
        so ∙ ap (λ (l : List ℕ). l ++ 10 ∷ rest) so' ∙ joined_so n len rest ∙ ap (λ (l : List ℕ). n ++ codes " " ++ l ++ codes "\n" ++ rest) len'
        ∙ ap₂ (λ (a b : List ℕ). a ++ codes " " ++ decimal (length b) ++ codes "\n" ++ b) (ap (λ (y : List ℕ × List ℕ). y.0) x) (ap (λ (y : List ℕ × List ℕ). y.1) x)

    second : (head rest : List ℕ) → bytes ≡ head ++ 10 ∷ rest → (o : Option (List ℕ × List ℕ)) → cut 32 head ≡ o → then_cut o (λ a b. line_in rest a b) ≡ pair number line
        → bytes ≡ number ++ codes " " ++ decimal (length line) ++ codes "\n" ++ line
    second head rest so None e r = absurd cc
    second head rest so (Some y) e r = third head rest y.0 y.1 so (cut_sound 32 head y.0 y.1 e) (bytes_eq (decimal (length rest)) y.1) refl r

    first : (o : Option (List ℕ × List ℕ)) → cut 10 bytes ≡ o → then_cut o parts_in ≡ pair number line → bytes ≡ number ++ codes " " ++ decimal (length line) ++ codes "\n" ++ line
    first None e r = absurd cc
    first (Some y) e r = second y.0 y.1 (cut_sound 10 bytes y.0 y.1 e) (cut 32 y.0) refl r

-- ---- the digit of a status

pub digit_of : (n : ℕ) → IsTrue (is_doors n) → decimal n ≡ (48 + n) ∷ []
digit_of n is = decimal_digit n (doors_below n is)

pub none_spelled : (number : List ℕ) (n : ℕ) → IsTrue (is_doors n) → number ≡ decimal n → None ≡ slice_get number 0 → ⊥
none_spelled number n is so none =
    let some : None ≡ Some (48 + n) = none ∙ ap (λ (l : List ℕ). slice_get l 0) (so ∙ digit_of n is) in
    absurd cc

-- the first byte of a number that is spelled so
first_is : (number : List ℕ) (n d : ℕ) → IsTrue (is_doors n) → number ≡ decimal n → Some d ≡ slice_get number 0 → (d + 208) % 256 ≡ n
first_is number n d is so at =
    let same : Some d ≡ Some (48 + n) = at ∙ ap (λ (l : List ℕ). slice_get l 0) (so ∙ digit_of n is) in
    omega (arith, same_Some d (48 + n) same, doors_below n is)

pub other_status : (number : List ℕ) (n d : ℕ) → IsTrue (is_doors n) → number ≡ decimal n → Some d ≡ slice_get number 0 → false ≡ is_doors ((d + 208) % 256) → ⊥
other_status number n d is so at none =
    let other : false ≡ true = none ∙ ap (λ (k : ℕ). is_doors k) (first_is number n d is so at) ∙ is in
    absurd cc

pub other_spelled : (number : List ℕ) (n d k : ℕ) → IsTrue (is_doors n) → number ≡ decimal n → Some d ≡ slice_get number 0 → k ≡ (d + 208) % 256 → false ≡ bytes_eq (decimal k) number → ⊥
other_spelled number n d k is so at from none =
    let here : decimal k ≡ number = ap (λ (m : ℕ). decimal m) (from ∙ first_is number n d is so at) ∙ sym so in
    let other : false ≡ true = none ∙ (bytes_eq-Decides (decimal k) number).1 here in
    absurd cc

-- ---- whole answers

pub no_parts : {A : Type 0} (bytes : List ℕ) (number : ℕ) (line : List ℕ) → length bytes < 2 ^ 64 → IsAnswer bytes number line → None ≡ answer_parts bytes → A
no_parts bytes number line small is none =
    let some : Option (List ℕ × List ℕ) = Some (decimal number, line) in
    let other : None ≡ some = none ∙ parts_read bytes number line small is in
    absurd (apart some refl other)
  where
    apart : (o : Option (List ℕ × List ℕ)) → o ≡ Some (decimal number, line) → None ≡ o → ⊥
    apart o at other = absurd cc

pub same_parts : (bytes digits rest : List ℕ) (number : ℕ) (line : List ℕ) → length bytes < 2 ^ 64 → IsAnswer bytes number line → Some (digits, rest) ≡ answer_parts bytes → (digits ≡ decimal number) × (rest ≡ line)
same_parts bytes digits rest number line small is some =
    let x = same_Some (digits, rest) (decimal number, line) (some ∙ parts_read bytes number line small is) in
    (ap (λ (y : List ℕ × List ℕ). y.0) x, ap (λ (y : List ℕ × List ℕ). y.1) x)

pub same_digit : (n m : ℕ) → IsTrue (is_doors n) → IsTrue (is_doors m) → decimal n ≡ decimal m → n ≡ m
same_digit n m is_n is_m same = decimal_injective n m (omega (arith, doors_below n is_n)) (omega (arith, doors_below m is_m)) same

pub whole_answer : (bytes digits line : List ℕ) (number : ℕ) → Some (digits, line) ≡ answer_parts bytes → IsTrue (is_doors number) × (digits ≡ decimal number) → IsAnswer bytes number line
whole_answer bytes digits line number some is = record {
  of_door = is.0;
  is = parts_sound bytes digits line (sym some) ∙ ap (λ (d : List ℕ). d ++ codes " " ++ decimal (length line) ++ codes "\n" ++ line) is.1;
}
