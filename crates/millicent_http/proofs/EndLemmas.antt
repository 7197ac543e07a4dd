-- Line ends at the front and the first empty line, while bytes come.
use Rattle.std.proofs.Common.{◌≡◌, ℕ, suc, ◌+◌, ◌-◌, ◌≤◌, Bool, true, false, ◌||◌, ◌&&◌, List, [], ◌∷◌, ◌++◌, inl, inr, length, take, drop, refl, sym, ◌∙◌, ap, subst, arith, length-append, length-drop, append_assoc}
use Rattle.std.specs.Prelude.{◌==◌, slice_range, codes, eqb}
use Rattle.std.specs.List.{ends_with, starts_with}
use Rattle.std.proofs.lemmas.Slice.Eq.{ends_is}
use Rattle.std.proofs.lemmas.Bool.{cases_lt}
use Rattle.std.proofs.lemmas.Bool.Decides.{Decides-eqb}
use Rattle.std.proofs.lemmas.List.{take-append-drop, take-append-le, drop-append-le, drop-take, drop-drop, drop_all, take_all, length-take, length-take-le}
use Rattle.millicent_http.specs.HeadEnds.{line_ends, ends_empty, ends_at, HasNoEnd, IsFirstEnd}

pub line_ends-fit : (a : List ℕ) → line_ends a ≤ length a
unfolding line_ends
line_ends-fit [] = grind arith
line_ends-fit (b ∷ []) = grind arith
line_ends-fit (b ∷ c ∷ a) = grind (arith, line_ends-fit a, line_ends-fit (c ∷ a))

-- more line ends
pub line_ends-all : (a b : List ℕ) → line_ends a ≡ length a → line_ends (a ++ b) ≡ length a + line_ends b
unfolding line_ends
line_ends-all [] b h = grind arith
line_ends-all (x ∷ []) [] h = grind arith
line_ends-all (x ∷ []) (y ∷ b) h = grind arith
line_ends-all (x ∷ y ∷ a) b h = grind (arith, line_ends-all a b, line_ends-all (y ∷ a) b, line_ends-fit a, line_ends-fit (y ∷ a))

-- two bytes behind the line ends settle how many there are
pub line_ends-settled : (a b : List ℕ) → line_ends a + 2 ≤ length a → line_ends (a ++ b) ≡ line_ends a
unfolding line_ends
line_ends-settled [] b h = grind arith
line_ends-settled (x ∷ []) b h = grind arith
line_ends-settled (x ∷ y ∷ a) b h = grind (arith, line_ends-settled a b, line_ends-settled (y ∷ a) b)

-- bytes that follow take none away
pub line_ends-grow : (a b : List ℕ) → line_ends a ≤ line_ends (a ++ b)
unfolding line_ends
line_ends-grow [] b = grind arith
line_ends-grow (x ∷ []) [] = grind arith
line_ends-grow (x ∷ []) (y ∷ b) = grind arith
line_ends-grow (x ∷ y ∷ a) b = grind (arith, line_ends-grow a b, line_ends-grow (y ∷ a) b)

-- what ends a part ends the whole
pub ends_whole : (k : ℕ) (t x : List ℕ) → ends_with eqb (drop k t) x ≡ true → ends_with eqb t x ≡ true
ends_whole k t x h =
    let e : drop k t ≡ take (length (drop k t) - length x) (drop k t) ++ x = (ends_is Decides-eqb (drop k t) x (ends_with eqb (drop k t) x) refl).0 h in
    let f : t ≡ (take k t ++ take (length (drop k t) - length x) (drop k t)) ++ x = sym (take-append-drop k t) ∙ ap (λ (z : List ℕ). take k t ++ z) e ∙ sym (append_assoc (take k t) (take (length (drop k t) - length x) (drop k t)) x) in
    (ends_is Decides-eqb t x (ends_with eqb t x) refl).1 (take k t ++ take (length (drop k t) - length x) (drop k t)) f

or_along : (a b c d : Bool) → (a ≡ true → c ≡ true) → (b ≡ true → d ≡ true) → (a || b) ≡ true → (c || d) ≡ true
or_along true b c d f g h = rw (f refl) refl
or_along false b true d f g h = refl
or_along false b false d f g h = g h

pub empty_whole : (k : ℕ) (t : List ℕ) → ends_empty (drop k t) ≡ true → ends_empty t ≡ true
unfolding ends_empty
empty_whole k t h = or_along _ _ _ _ (ends_whole k t (codes "\n\n")) (ends_whole k t (codes "\n\r\n")) h

pub range_stays : (a b : List ℕ) (i n : ℕ) → n ≤ length a → slice_range (a ++ b) i n ≡ slice_range a i n
range_stays a b i n h = elim (cases_lt n i) [
  | inr le ↦ rw (drop-append-le i a b (omega arith)) (take-append-le (n - i) (drop i a) b (omega (arith, length-drop i a)))
  | inl gt ↦ let e : n - i ≡ 0 = omega arith in rw e refl
]

-- a part that begins later, of the same end
pub range_later : (a : List ℕ) (i j n : ℕ) → i ≤ j → slice_range a j n ≡ drop (j - i) (slice_range a i n)
range_later a i j n le = elim (cases_lt n j) [
  | inl lt ↦ let e : n - j ≡ 0 = omega arith in rw e (sym (drop_all (j - i) (slice_range a i n) (omega (arith, length-take (n - i) (drop i a)))))
  | inr ge ↦
      let e : n - i ≡ (j - i) + (n - j) = omega arith in
      let f : i + (j - i) ≡ j = omega arith in
      rw (e, drop-take (j - i) (n - j) (drop i a), drop-drop (j - i) i a, f) refl
]

pub empty_long : (t : List ℕ) → ends_empty t ≡ true → 2 ≤ length t
unfolding ends_empty
empty_long [] h = cc
empty_long (x ∷ []) h = grind arith
empty_long (x ∷ y ∷ t) h = omega arith

-- the text up to an end that is there stays, whatever follows
pub text_stays : (a b : List ℕ) (n : ℕ) → n ≤ length a → ends_at a n ≡ true → slice_range (a ++ b) (line_ends (a ++ b)) n ≡ slice_range a (line_ends a) n
text_stays a b n le h =
    let long : 2 ≤ length (slice_range a (line_ends a) n) = empty_long (slice_range a (line_ends a) n) h in
    let room : line_ends a + 2 ≤ length a = omega (arith, long, length-take (n - line_ends a) (drop (line_ends a) a), length-drop (line_ends a) a) in
    rw (line_ends-settled a b room) (range_stays a b (line_ends a) n le)

-- an end that is there stays, whatever follows
pub ends_stays : (a b : List ℕ) (n : ℕ) → n ≤ length a → ends_at a n ≡ true → ends_at (a ++ b) n ≡ true
ends_stays a b n le h = rw (text_stays a b n le h) h

pub not_true : (b : Bool) → (b ≡ true → ⊥) → b ≡ false
not_true true h = absurd (h refl)
not_true false h = refl

-- no end comes up among bytes that have none
pub no_end_stays : (a b : List ℕ) (n : ℕ) → n ≤ length a → HasNoEnd a n → HasNoEnd (a ++ b) n
no_end_stays a b n le h m at = not_true (ends_at (a ++ b) m) (λ t.
    let s : ℕ = line_ends a in
    let u : ℕ = line_ends (a ++ b) in
    let grow : line_ends a ≤ line_ends (a ++ b) = line_ends-grow a b in
    let same : slice_range (a ++ b) (line_ends (a ++ b)) m ≡ slice_range a (line_ends (a ++ b)) m = range_stays a b (line_ends (a ++ b)) m (omega arith) in
    let later : slice_range a (line_ends (a ++ b)) m ≡ drop (line_ends (a ++ b) - line_ends a) (slice_range a (line_ends a) m) = range_later a (line_ends a) (line_ends (a ++ b)) m grow in
    let here : ends_at a m ≡ true = empty_whole (line_ends (a ++ b) - line_ends a) (slice_range a (line_ends a) m) (subst (λ (z : List ℕ). ends_empty z ≡ true) (same ∙ later) t) in
    let not_here : ends_at a m ≡ false = h m at in
    cc)

-- nor among the line ends at the front
pub no_end_front : (a : List ℕ) (n : ℕ) → n ≤ line_ends a → ends_at a n ≡ false
no_end_front a n le = not_true (ends_at a n) (λ t.
    let long : 2 ≤ length (slice_range a (line_ends a) n) = empty_long (slice_range a (line_ends a) n) t in
    absurd (omega (arith, long, length-take (n - line_ends a) (drop (line_ends a) a))))

pub first_end_here : (a : List ℕ) (n : ℕ) → n + 1 ≤ length a → HasNoEnd a n → ends_at a (n + 1) ≡ true → IsFirstEnd a (n + 1)
first_end_here a n le h here = record { within = le; ends = here; first = λ m lt. h m (omega arith) }

pub first_end_stays : (a b : List ℕ) (n : ℕ) → IsFirstEnd a n → IsFirstEnd (a ++ b) n
first_end_stays a b n f = record {
  within = omega (arith, f.within, length-append a b);
  ends = ends_stays a b n f.within f.ends;
  first = λ m lt. no_end_stays a b m (omega (arith, f.within)) (λ k le. f.first k (omega arith)) m (omega arith);
}

-- the end of a text's end is an end of the text
ends_later : (t x y : List ℕ) → ends_with eqb t (x ++ y) ≡ true → ends_with eqb t y ≡ true
ends_later t x y h =
    let e : t ≡ take (length t - length (x ++ y)) t ++ (x ++ y) = (ends_is Decides-eqb t (x ++ y) (ends_with eqb t (x ++ y)) refl).0 h in
    let f : t ≡ (take (length t - length (x ++ y)) t ++ x) ++ y = e ∙ sym (append_assoc (take (length t - length (x ++ y)) t) x y) in
    (ends_is Decides-eqb t y (ends_with eqb t y) refl).1 (take (length t - length (x ++ y)) t ++ x) f

or_both : (a b c : Bool) → (a ≡ true → c ≡ true) → (b ≡ true → c ≡ true) → (a || b) ≡ true → c ≡ true
or_both true b c f g h = f refl
or_both false b c f g h = g h

-- an empty line ends in LF
empty_ends_lf : (t : List ℕ) → ends_empty t ≡ true → ends_with eqb t (codes "\n") ≡ true
unfolding ends_empty
empty_ends_lf t h = or_both _ _ _ (ends_later t (codes "\n") (codes "\n")) (ends_later t (codes "\n\r") (codes "\n")) h

-- the text from i on, up to n
range_whole : (a : List ℕ) (i n : ℕ) → slice_range a i n ≡ drop i (take n a)
range_whole a i n =
    let e : i - 0 ≡ i = omega arith in
    let f : n - 0 ≡ n = omega arith in
    subst (λ (z : ℕ). slice_range a i n ≡ drop i (take z a)) f
    (subst (λ (z : ℕ). slice_range a i n ≡ drop z (slice_range a 0 n)) e (range_later a 0 i n (omega arith)))

-- no empty line ends behind a byte that is no LF
pub no_end_but_lf : (a : List ℕ) (n : ℕ) → ends_with eqb (take n a) (codes "\n") ≡ false → ends_at a n ≡ false
no_end_but_lf a n h = not_true (ends_at a n) (λ t.
    let whole : ends_empty (take n a) ≡ true = empty_whole (line_ends a) (take n a) (subst (λ (z : List ℕ). ends_empty z ≡ true) (range_whole a (line_ends a) n) t) in
    let lf : ends_with eqb (take n a) (codes "\n") ≡ true = empty_ends_lf (take n a) whole in
    cc)

-- there is one first end
pub first_end_unique : (a : List ℕ) (m n : ℕ) → IsFirstEnd a m → IsFirstEnd a n → m ≡ n
first_end_unique a m n f g = elim (cases_lt m n) [
  | inl lt ↦ let x : ends_at a m ≡ true = f.ends in let y : ends_at a m ≡ false = g.first m lt in absurd (cc)
  | inr ge ↦ elim (cases_lt n m) [
    | inl lt ↦ let x : ends_at a n ≡ true = g.ends in let y : ends_at a n ≡ false = f.first n lt in absurd (cc)
    | inr le ↦ omega arith
  ]
]

-- a step over line ends
pub line_end_lf : (t : List ℕ) → starts_with eqb t (codes "\n") ≡ true → line_ends t ≡ 1 + line_ends (drop 1 t)
unfolding line_ends
line_end_lf [] h = absurd (cc)
line_end_lf (b ∷ []) h = grind arith
line_end_lf (b ∷ c ∷ t) h = grind arith

pub line_end_crlf : (t : List ℕ) → starts_with eqb t (codes "\r\n") ≡ true → line_ends t ≡ 2 + line_ends (drop 2 t)
unfolding line_ends
line_end_crlf [] h = absurd (cc)
line_end_crlf (b ∷ []) h = grind arith
line_end_crlf (b ∷ c ∷ t) h = grind arith

pub line_end_none : (t : List ℕ) → starts_with eqb t (codes "\n") ≡ false → starts_with eqb t (codes "\r\n") ≡ false → line_ends t ≡ 0
unfolding line_ends
line_end_none [] h k = refl
line_end_none (b ∷ []) h k = grind arith
line_end_none (b ∷ c ∷ t) h k = grind arith

pub skip_known : (a : List ℕ) (k : ℕ) → k ≤ length a → line_ends (take k a) ≡ k → line_ends a ≡ k + line_ends (drop k a)
skip_known a k le h =
    let n : length (take k a) ≡ k = length-take-le k a le in
    let e : line_ends (take k a ++ drop k a) ≡ length (take k a) + line_ends (drop k a) = line_ends-all (take k a) (drop k a) (h ∙ sym n) in
    ap line_ends (sym (take-append-drop k a)) ∙ e ∙ ap (λ (m : ℕ). m + line_ends (drop k a)) n

step_lf : (x : ℕ) (t : List ℕ) → (x == 10) ≡ true → line_ends (x ∷ t) ≡ suc (line_ends t)
unfolding line_ends
step_lf x [] e = rw e refl
step_lf x (y ∷ t) e = grind arith

step_crlf : (x y : ℕ) (t : List ℕ) → (x == 10) ≡ false → (x == 13 && y == 10) ≡ true → line_ends (x ∷ y ∷ t) ≡ suc (suc (line_ends t))
unfolding line_ends
step_crlf x y t e f = grind arith

step_none : (x y : ℕ) (t : List ℕ) → (x == 10) ≡ false → (x == 13 && y == 10) ≡ false → line_ends (x ∷ y ∷ t) ≡ 0
unfolding line_ends
step_none x y t e f = grind arith

pub line_ends-nil : line_ends [] ≡ 0
unfolding line_ends
line_ends-nil = refl

line_ends-one : (x : ℕ) → (x == 10) ≡ false → line_ends (x ∷ []) ≡ 0
unfolding line_ends
line_ends-one x e = rw e refl

-- the line ends at the front are line ends
pub line_ends-front : (a : List ℕ) → line_ends (take (line_ends a) a) ≡ line_ends a
line_ends-front [] = rw line_ends-nil line_ends-nil
line_ends-front (x ∷ []) = elim (x == 10) as (λ v. (x == 10) ≡ v → line_ends (take (line_ends (x ∷ [])) (x ∷ [])) ≡ line_ends (x ∷ [])) [
  | true ↦ λ e. rw (step_lf x [] e, line_ends-nil) (step_lf x [] e ∙ ap suc line_ends-nil)
  | false ↦ λ e. rw (line_ends-one x e) line_ends-nil
] refl
line_ends-front (x ∷ y ∷ a) = elim (x == 10) as (λ v. (x == 10) ≡ v → line_ends (take (line_ends (x ∷ y ∷ a)) (x ∷ y ∷ a)) ≡ line_ends (x ∷ y ∷ a)) [
  | true ↦ λ e. rw (step_lf x (y ∷ a) e) (step_lf x (take (line_ends (y ∷ a)) (y ∷ a)) e ∙ ap suc (line_ends-front (y ∷ a)))
  | false ↦ λ e. elim (x == 13 && y == 10) as (λ v. (x == 13 && y == 10) ≡ v → line_ends (take (line_ends (x ∷ y ∷ a)) (x ∷ y ∷ a)) ≡ line_ends (x ∷ y ∷ a)) [
    | true ↦ λ f. rw (step_crlf x y a e f) (step_crlf x y (take (line_ends a) a) e f ∙ ap (λ (n : ℕ). suc (suc n)) (line_ends-front a))
    | false ↦ λ f. rw (step_none x y a e f) line_ends-nil
  ] refl
] refl

-- `&s[i..]`
pub tail_range : (a : List ℕ) (i : ℕ) → take (length a - i) (drop i a) ≡ drop i a
tail_range a i = take_all (length a - i) (drop i a) (omega (arith, length-drop i a))
