-- Values that a field may have: each byte may stand in one, and no blank stands at their ends.
use Rattle.std.proofs.Common.{◌≡◌, ◌⊎◌, ℕ, zero, suc, ◌+◌, ◌/◌, ◌%◌, ◌<◌, ◌^◌, Bool, true, false, ◌||◌, List, [], ◌∷◌, ◌++◌, inl, inr, length, refl, sym, subst, arith, append_assoc, length-append}
use Rattle.std.specs.Prelude.{◌==◌, not, decimal, reverse, nat_le, slice_index, IsTrue, All}
use Rattle.std.specs.List.{list_all}
use Rattle.std.proofs.lemmas.Bool.{eqb-true, le-leb, leb-true}
use Rattle.std.proofs.lemmas.Fmt.{decimal_by_steps}
use Rattle.std.proofs.lemmas.List.{reverse-append, length-reverse}
use Rattle.std.proofs.lemmas.List.Elements.{All-head, All-tail}
use Rattle.hex.specs.Hex.{lower_digits, encode_with, encode_lower}
use Rattle.httparse.specs.Grammar.{is_value_byte}
use Rattle.scrip_form.specs.Texts.{is_visible}
use Rattle.reply_reader.specs.Written.{IsWord}
use Rattle.reply_reader.proofs.HeadLines.{is_one_line, is_line, starts_solid, is_trimmed}
use Rattle.reply_reader.proofs.QuietLemmas.{and_left, and_right, and_both}

cases : (b : Bool) → (b ≡ true) ⊎ (b ≡ false)
cases true = inl refl
cases false = inr refl

-- a test that a byte fails is passed by others alone
pub is_other : (test : ℕ → Bool) (k b : ℕ) → test k ≡ false → test b ≡ true → (b == k) ≡ false
is_other test k b none h = elim (cases (b == k)) [
  | inr f ↦ f
  | inl t ↦ absurd (let e : b ≡ k = eqb-true b k t in let here : test k ≡ true = subst (λ (z : ℕ). test z ≡ true) e h in cc (here, none))
]

pub all_weaker : (p q : ℕ → Bool) (text : List ℕ) → ((b : ℕ) → p b ≡ true → q b ≡ true) → list_all p text ≡ true → list_all q text ≡ true
all_weaker p q [] w h = refl
all_weaker p q (b ∷ text) w h = and_both (q b) (list_all q text) (w b (and_left (p b) (list_all p text) h)) (all_weaker p q text w (and_right (p b) (list_all p text) h))

not_false : (b : Bool) → b ≡ false → not b ≡ true
not_false b e = rw e refl

-- a text of a test that LF fails is one line
pub one_line_of : (p : ℕ → Bool) (text : List ℕ) → p 10 ≡ false → list_all p text ≡ true → is_one_line text ≡ true
one_line_of p text none h = all_weaker p (λ b. not (b == 10)) text (λ b t. not_false (b == 10) (is_other p 10 b none t)) h

one_line_append : (a b : List ℕ) → is_one_line a ≡ true → is_one_line b ≡ true → is_one_line (a ++ b) ≡ true
one_line_append [] b f g = g
one_line_append (x ∷ a) b f g = and_both (not (x == 10)) (is_one_line (a ++ b)) (and_left (not (x == 10)) (is_one_line a) f) (one_line_append a b (and_right (not (x == 10)) (is_one_line a) f) g)

-- a field line
pub field_is_line : (name value : List ℕ) → is_line name ≡ true → is_one_line value ≡ true → is_line (name ++ 58 ∷ 32 ∷ value) ≡ true
field_is_line [] value h g = absurd (cc h)
field_is_line (c ∷ name) value h g =
    and_both (not (c == 10)) _ (and_left (not (c == 10)) _ h)
    (and_both (not (c == 13)) _ (and_left (not (c == 13)) _ (and_right (not (c == 10)) _ h))
    (one_line_append name (58 ∷ 32 ∷ value) (and_right (not (c == 13)) _ (and_right (not (c == 10)) _ h)) g))

-- a text of a test that blanks fail has none at its ends
solid_start : (p : ℕ → Bool) (text : List ℕ) → p 9 ≡ false → p 32 ≡ false → list_all p text ≡ true → starts_solid text ≡ true
solid_start p [] t s h = refl
solid_start p (b ∷ text) t s h =
    let here : p b ≡ true = and_left (p b) (list_all p text) h in
    let f : (b == 9) ≡ false = is_other p 9 b t here in
    let g : (b == 32) ≡ false = is_other p 32 b s here in
    rw (g, f) refl

pub all_append : (p : ℕ → Bool) (a b : List ℕ) → list_all p a ≡ true → list_all p b ≡ true → list_all p (a ++ b) ≡ true
all_append p [] b f g = g
all_append p (x ∷ a) b f g = and_both (p x) (list_all p (a ++ b)) (and_left (p x) (list_all p a) f) (all_append p a b (and_right (p x) (list_all p a) f) g)

all_reverse : (p : ℕ → Bool) (text : List ℕ) → list_all p text ≡ true → list_all p (reverse text) ≡ true
all_reverse p [] h = refl
all_reverse p (b ∷ text) h = subst (λ (z : List ℕ). list_all p z ≡ true) (sym (reverse-append (b ∷ []) text)) (all_append p (reverse text) (b ∷ []) (all_reverse p text (and_right (p b) (list_all p text) h)) (and_both (p b) true (and_left (p b) (list_all p text) h) refl))

pub trimmed_of : (p : ℕ → Bool) (text : List ℕ) → p 9 ≡ false → p 32 ≡ false → list_all p text ≡ true → is_trimmed text ≡ true
trimmed_of p text t s h = and_both (starts_solid text) (starts_solid (reverse text)) (solid_start p text t s h) (solid_start p (reverse text) t s (all_reverse p text h))

-- ---- clean values

pub record IsClean (value : List ℕ) : Type 0 where
  pub bytes : list_all is_value_byte value ≡ true
  pub trimmed : is_trimmed value ≡ true

or_second : (a b : Bool) → b ≡ true → (a || b) ≡ true
or_second true b h = refl
or_second false b h = h

visible_value : (b : ℕ) → is_visible b ≡ true → is_value_byte b ≡ true
visible_value b h =
    let low : nat_le 33 b ≡ true = and_left (nat_le 33 b) _ h in
    or_second _ _ (and_both (nat_le 32 b) _ (le-leb 32 b (omega (arith, leb-true 33 b low))) (not_false (b == 127) (is_other is_visible 127 b refl h)))

pub value_of_visible : (text : List ℕ) → list_all is_visible text ≡ true → list_all is_value_byte text ≡ true
value_of_visible text h = all_weaker is_visible is_value_byte text visible_value h

pub clean_visible : (text : List ℕ) → list_all is_visible text ≡ true → IsClean text
clean_visible text h = record { bytes = value_of_visible text h; trimmed = trimmed_of is_visible text refl refl h }

pub value_is_one_line : (text : List ℕ) → list_all is_value_byte text ≡ true → is_one_line text ≡ true
value_is_one_line text h = one_line_of is_value_byte text refl h

-- ---- words

pub all_of : (p : ℕ → Bool) (text : List ℕ) → All (λ b. IsTrue (p b)) text → list_all p text ≡ true
all_of p [] h = refl
all_of p (b ∷ text) h = and_both (p b) (list_all p text) (All-head (λ c. IsTrue (p c)) b text h) (all_of p text (All-tail (λ c. IsTrue (p c)) b text h))

pub word_visible : (text : List ℕ) → IsWord text → list_all is_visible text ≡ true
word_visible text w = all_of is_visible text w.visible

pub visible_solid : (b : ℕ) (text : List ℕ) → is_visible b ≡ true → starts_solid (b ∷ text) ≡ true
visible_solid b text h =
    let f : (b == 9) ≡ false = is_other is_visible 9 b refl h in
    let g : (b == 32) ≡ false = is_other is_visible 32 b refl h in
    rw (g, f) refl

solid_word : (text rest : List ℕ) → 0 < length text → list_all is_visible text ≡ true → starts_solid (text ++ rest) ≡ true
solid_word [] rest some h = absurd (omega (arith, some))
solid_word (b ∷ text) rest some h = visible_solid b (text ++ rest) (and_left (is_visible b) (list_all is_visible text) h)

-- a text that ends in a word ends in no blank
ends_in_word : (front word : List ℕ) → 0 < length word → list_all is_visible word ≡ true → starts_solid (reverse (front ++ word)) ≡ true
ends_in_word front word some h =
    subst (λ (z : List ℕ). starts_solid z ≡ true) (sym (reverse-append front word))
    (solid_word (reverse word) (reverse front) (omega (arith, some, length-reverse word)) (all_reverse is_visible word h))

-- a text from one word to another
pub between_words : (first middle last : List ℕ) → 0 < length first → list_all is_visible first ≡ true → 0 < length last → list_all is_visible last ≡ true
    → list_all is_value_byte middle ≡ true → IsClean (first ++ (middle ++ last))
between_words first middle last some f one l m = record {
  bytes = all_append is_value_byte first (middle ++ last) (value_of_visible first f) (all_append is_value_byte middle last m (value_of_visible last l));
  trimmed = and_both _ _ (solid_word first (middle ++ last) some f)
      (subst (λ (z : List ℕ). starts_solid (reverse z) ≡ true) (append_assoc first middle last) (ends_in_word (first ++ middle) last one l));
}

-- ---- numbers

digit_visible : (k : ℕ) → k < 10 → is_visible (48 + k) ≡ true
digit_visible k lt = and_both (nat_le 33 (48 + k)) _ (le-leb 33 (48 + k) (omega arith)) (le-leb (48 + k) 126 (omega arith))

abbrev IsNumeral : List ℕ → Type 0
IsNumeral ds = (list_all is_visible ds ≡ true) × (0 < length ds)

pub decimal_visible : (n : ℕ) → n < 2 ^ 64 → (list_all is_visible (decimal n) ≡ true) × (0 < length (decimal n))
decimal_visible n small = decimal_by_steps (λ k ds. IsNumeral ds)
    (λ k lt. (and_both (is_visible (48 + k)) true (digit_visible k lt) refl, omega arith))
    (λ k ds ge before. (
      all_append is_visible ds ((48 + k % 10) ∷ []) before.0 (and_both (is_visible (48 + k % 10)) true (digit_visible (k % 10) (omega arith)) refl),
      omega (arith, before.1, length-append ds ((48 + k % 10) ∷ [])),
    ))
    n small

pub all_index : (p : ℕ → Bool) (l : List ℕ) (i : ℕ) → i < length l → list_all p l ≡ true → p (slice_index l i) ≡ true
all_index p [] i lt h = absurd (omega (arith, lt))
all_index p (x ∷ l) zero lt h = and_left (p x) (list_all p l) h
all_index p (x ∷ l) (suc i) lt h = all_index p l i (omega (arith, lt)) (and_right (p x) (list_all p l) h)

pub hex_visible : (bytes : List ℕ) → All (λ b. b < 256) bytes → list_all is_visible (encode_lower bytes) ≡ true
unfolding encode_with
hex_visible [] h = refl
hex_visible (b ∷ bytes) h =
    and_both _ _ (all_index is_visible lower_digits (b / 16) (omega (arith, All-head (λ c. c < 256) b bytes h)) refl)
    (and_both _ _ (all_index is_visible lower_digits (b % 16) (omega arith) refl) (hex_visible bytes (All-tail (λ c. c < 256) b bytes h)))
