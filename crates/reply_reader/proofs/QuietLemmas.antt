-- Where a head ends that is printed line by line.
use Rattle.std.proofs.Common.{◌≡◌, ◌⊎◌, ℕ, ◌+◌, ◌-◌, Bool, true, false, ◌||◌, ◌&&◌, List, [], ◌∷◌, ◌++◌, inl, inr, length, take, drop, refl, sym, ◌∙◌, ap, subst, arith, append_assoc}
use Rattle.std.specs.Prelude.{◌==◌, not, slice_range, codes, eqb}
use Rattle.std.specs.List.{ends_with, list_all}
use Rattle.std.proofs.lemmas.Slice.Eq.{ends_is}
use Rattle.std.proofs.lemmas.Bool.Decides.{Decides-eqb}
use Rattle.std.proofs.lemmas.List.{take-append-drop, length-append, take_all}
use Rattle.millicent_http.specs.HeadEnds.{line_ends, ends_empty, ends_at, HasNoEnd, IsFirstEnd}
use Rattle.millicent_http.proofs.EndLemmas.{empty_whole, range_later, not_true, no_end_stays, first_end_here, first_end_stays}
use Rattle.reply_reader.proofs.HeadLines.{begins_empty, is_quiet, is_one_line, is_line, print_lines}

pub and_right : (a b : Bool) → (a && b) ≡ true → b ≡ true
and_right true b h = h
and_right false b h = cc h

-- ---- quiet bytes have no empty line

quiet_lf : (front rest : List ℕ) → is_quiet (front ++ 10 ∷ 10 ∷ rest) ≡ true → ⊥
quiet_lf [] [] h = cc h
quiet_lf [] (z ∷ rest) h = cc h
quiet_lf (x ∷ front) rest h = quiet_lf front rest (and_right (not (begins_empty (x ∷ (front ++ 10 ∷ 10 ∷ rest)))) _ h)

quiet_crlf : (front rest : List ℕ) → is_quiet (front ++ 10 ∷ 13 ∷ 10 ∷ rest) ≡ true → ⊥
quiet_crlf [] rest h = cc h
quiet_crlf (x ∷ front) rest h = quiet_crlf front rest (and_right (not (begins_empty (x ∷ (front ++ 10 ∷ 13 ∷ 10 ∷ rest)))) _ h)

-- the text from i on, up to n
pub range_whole : (a : List ℕ) (i n : ℕ) → slice_range a i n ≡ drop i (take n a)
range_whole a i n =
    let e : i - 0 ≡ i = omega arith in
    let f : n - 0 ≡ n = omega arith in
    subst (λ (z : ℕ). slice_range a i n ≡ drop i (take z a)) f
    (subst (λ (z : ℕ). slice_range a i n ≡ drop z (slice_range a 0 n)) e (range_later a 0 i n (omega arith)))

-- a front that ends so lets the whole go on so somewhere
behind : (a : List ℕ) (m : ℕ) (needle : List ℕ) → ends_with eqb (take m a) needle ≡ true → (front : List ℕ) × (a ≡ front ++ (needle ++ drop m a))
behind a m needle h =
    let front : List ℕ = take (length (take m a) - length needle) (take m a) in
    let e : take m a ≡ take (length (take m a) - length needle) (take m a) ++ needle = (ends_is Decides-eqb (take m a) needle (ends_with eqb (take m a) needle) refl).0 h in (
      take (length (take m a) - length needle) (take m a),
      sym (take-append-drop m a) ∙ ap (λ (z : List ℕ). z ++ drop m a) e ∙ append_assoc (take (length (take m a) - length needle) (take m a)) needle (drop m a),
    )

cases : (b : Bool) → (b ≡ true) ⊎ (b ≡ false)
cases true = inl refl
cases false = inr refl

or_right : (a b : Bool) → a ≡ false → (a || b) ≡ true → b ≡ true
or_right true b f h = absurd (cc f)
or_right false b f h = h

empty_not_quiet : (a : List ℕ) (m : ℕ) → is_quiet a ≡ true → ends_empty (take m a) ≡ true → ⊥
unfolding ends_empty
empty_not_quiet a m q h = elim (cases (ends_with eqb (take m a) (codes "\n\n"))) [
  | inl t ↦ let b = behind a m (codes "\n\n") t in quiet_lf b.0 (drop m a) (subst (λ (z : List ℕ). is_quiet z ≡ true) b.1 q)
  | inr f ↦ let b = behind a m (codes "\n\r\n") (or_right _ _ f h) in quiet_crlf b.0 (drop m a) (subst (λ (z : List ℕ). is_quiet z ≡ true) b.1 q)
]

pub quiet_has_no_end : (a : List ℕ) (n : ℕ) → is_quiet a ≡ true → HasNoEnd a n
quiet_has_no_end a n q m le = not_true (ends_at a m) (λ t.
    absurd (empty_not_quiet a m q (empty_whole (line_ends a) (take m a) (subst (λ (z : List ℕ). ends_empty z ≡ true) (range_whole a (line_ends a) m) t))))

-- ---- printed line by line

pub and_left : (a b : Bool) → (a && b) ≡ true → a ≡ true
and_left true b h = refl
and_left false b h = h

pub and_both : (a b : Bool) → a ≡ true → b ≡ true → (a && b) ≡ true
and_both true b f g = g
and_both false b f g = absurd (cc f)

pub is_not : (b : Bool) → not b ≡ true → b ≡ false
is_not true h = absurd (cc h)
is_not false h = refl

-- bytes that do not begin with an LF begin with no empty line
begins_other : (x : ℕ) (t : List ℕ) → (x == 10) ≡ false → begins_empty (x ∷ t) ≡ false
begins_other x [] f = refl
begins_other x (y ∷ []) f = rw f refl
begins_other x (y ∷ z ∷ t) f = rw f refl

-- nor does an LF with another byte behind it
begins_line : (c : ℕ) (t : List ℕ) → (c == 10) ≡ false → (c == 13) ≡ false → begins_empty (10 ∷ c ∷ t) ≡ false
begins_line c [] f g = rw f refl
begins_line c (z ∷ t) f g = rw (f, g) refl

or_true : (a b : Bool) → b ≡ true → (a || b) ≡ true
or_true true b h = refl
or_true false b h = h

-- a text without an LF before other bytes
pub quiet_text : (text rest : List ℕ) → is_one_line text ≡ true → is_quiet (text ++ rest) ≡ is_quiet rest
quiet_text [] rest h = refl
quiet_text (x ∷ text) rest h =
    let f : (x == 10) ≡ false = is_not (x == 10) (and_left (not (x == 10)) (is_one_line text) h) in
    let e : begins_empty (x ∷ (text ++ rest)) ≡ false = begins_other x (text ++ rest) f in
    rw e (quiet_text text rest (and_right (not (x == 10)) (is_one_line text) h))

-- the end of a line, before a byte that is no LF and no CR
pub quiet_line_end : (c : ℕ) (rest : List ℕ) → (c == 10) ≡ false → (c == 13) ≡ false → is_quiet (13 ∷ 10 ∷ c ∷ rest) ≡ is_quiet (c ∷ rest)
quiet_line_end c rest f g = let e = begins_line c rest f g in rw e refl

-- ---- the end

ends_here : (front : List ℕ) → ends_empty (front ++ codes "\n\r\n") ≡ true
unfolding ends_empty
ends_here front = or_true _ _ ((ends_is Decides-eqb (front ++ codes "\n\r\n") (codes "\n\r\n") (ends_with eqb (front ++ codes "\n\r\n") (codes "\n\r\n")) refl).1 front refl)

pub first_end_of : (front : List ℕ) → line_ends (front ++ codes "\n\r\n") ≡ 0 → is_quiet (front ++ codes "\n\r") ≡ true → IsFirstEnd (front ++ codes "\n\r\n") (length front + 3)
first_end_of front starts quiet =
    let size : length (front ++ codes "\n\r\n") ≡ length front + 3 = length-append front (codes "\n\r\n") in
    let short : length (front ++ codes "\n\r") ≡ length front + 2 = length-append front (codes "\n\r") in
    let none : HasNoEnd ((front ++ codes "\n\r") ++ codes "\n") (length front + 2) = no_end_stays (front ++ codes "\n\r") (codes "\n") (length front + 2) (omega (arith, short)) (quiet_has_no_end (front ++ codes "\n\r") (length front + 2) quiet) in
    let whole : slice_range (front ++ codes "\n\r\n") (line_ends (front ++ codes "\n\r\n")) (length front + 2 + 1) ≡ front ++ codes "\n\r\n" =
    range_whole (front ++ codes "\n\r\n") (line_ends (front ++ codes "\n\r\n")) (length front + 2 + 1)
    ∙ ap (λ (i : ℕ). drop i (take (length front + 2 + 1) (front ++ codes "\n\r\n"))) starts
    ∙ take_all (length front + 2 + 1) (front ++ codes "\n\r\n") (omega (arith, size)) in
    let ends : ends_at (front ++ codes "\n\r\n") (length front + 2 + 1) ≡ true = ap ends_empty whole ∙ ends_here front in
    subst (λ (n : ℕ). IsFirstEnd (front ++ codes "\n\r\n") n) (omega arith)
    (first_end_here (front ++ codes "\n\r\n") (length front + 2) (omega (arith, size)) (subst (λ (a : List ℕ). HasNoEnd a (length front + 2)) (append_assoc front (codes "\n\r") (codes "\n")) none) ends)

-- ---- lines

-- what stands behind the first line, up to the CR before the last two line ends
abbrev behind_first : List (List ℕ) → List ℕ
behind_first [] = 13 ∷ []
behind_first (l ∷ ls) = 13 ∷ 10 ∷ (l ++ behind_first ls)

printed : (l : List ℕ) (ls : List (List ℕ)) → print_lines (l ∷ ls) ≡ (l ++ behind_first ls) ++ codes "\n\r\n"
printed l [] = sym (append_assoc l (codes "\r") (codes "\n\r\n"))
printed l (k ∷ ls) =
    let ih : print_lines (k ∷ ls) ≡ (k ++ behind_first ls) ++ codes "\n\r\n" = printed k ls in
    ap (λ (z : List ℕ). l ++ 13 ∷ 10 ∷ z) ih ∙ sym (append_assoc l (13 ∷ 10 ∷ (k ++ behind_first ls)) (codes "\n\r\n"))

abbrev all_lines : List (List ℕ) → Bool
all_lines ls = list_all is_line ls

line_is_one : (l : List ℕ) → is_line l ≡ true → is_one_line l ≡ true
line_is_one [] h = refl
line_is_one (c ∷ text) h = and_both (not (c == 10)) (is_one_line text) (and_left _ _ h) (and_right (not (c == 13)) _ (and_right (not (c == 10)) _ h))

-- a line behind a line's end
quiet_next : (l rest : List ℕ) → is_line l ≡ true → is_quiet (13 ∷ 10 ∷ (l ++ rest)) ≡ is_quiet (l ++ rest)
quiet_next [] rest h = absurd (cc h)
quiet_next (c ∷ text) rest h = quiet_line_end c (text ++ rest) (is_not (c == 10) (and_left _ _ h)) (is_not (c == 13) (and_left (not (c == 13)) _ (and_right (not (c == 10)) _ h)))

quiet_behind : (ls : List (List ℕ)) → all_lines ls ≡ true → is_quiet (behind_first ls ++ codes "\n\r") ≡ true
quiet_behind [] h = refl
quiet_behind (l ∷ ls) h =
    let one : is_line l ≡ true = and_left (is_line l) (all_lines ls) h in
    let rest : List ℕ = behind_first ls ++ codes "\n\r" in
    let assoc : (l ++ behind_first ls) ++ codes "\n\r" ≡ l ++ (behind_first ls ++ codes "\n\r") = append_assoc l (behind_first ls) (codes "\n\r") in
    ap (λ (z : List ℕ). is_quiet (13 ∷ 10 ∷ z)) assoc
    ∙ quiet_next l (behind_first ls ++ codes "\n\r") one
    ∙ quiet_text l (behind_first ls ++ codes "\n\r") (line_is_one l one)
    ∙ quiet_behind ls (and_right (is_line l) (all_lines ls) h)

starts_other : (c : ℕ) (t : List ℕ) → (c == 10) ≡ false → (c == 13) ≡ false → line_ends (c ∷ t) ≡ 0
unfolding line_ends
starts_other c [] f g = rw f refl
starts_other c (d ∷ t) f g = rw (f, g) refl

pub starts_line : (l rest : List ℕ) → is_line l ≡ true → line_ends (l ++ rest) ≡ 0
starts_line [] rest h = absurd (cc h)
starts_line (c ∷ text) rest h = starts_other c (text ++ rest) (is_not (c == 10) (and_left _ _ h)) (is_not (c == 13) (and_left (not (c == 13)) _ (and_right (not (c == 10)) _ h)))

-- The first empty line of lines that are printed ends with them, whatever follows.
pub first_end_of_lines : (l : List ℕ) (ls : List (List ℕ)) (rest : List ℕ) → is_line l ≡ true → list_all is_line ls ≡ true
    → IsFirstEnd (print_lines (l ∷ ls) ++ rest) (length (print_lines (l ∷ ls)))
first_end_of_lines l ls rest one all =
    let front : List ℕ = l ++ behind_first ls in
    let starts : line_ends ((l ++ behind_first ls) ++ codes "\n\r\n") ≡ 0 = ap line_ends (append_assoc l (behind_first ls) (codes "\n\r\n")) ∙ starts_line l (behind_first ls ++ codes "\n\r\n") one in
    let quiet : is_quiet ((l ++ behind_first ls) ++ codes "\n\r") ≡ true = ap is_quiet (append_assoc l (behind_first ls) (codes "\n\r")) ∙ quiet_text l (behind_first ls ++ codes "\n\r") (line_is_one l one) ∙ quiet_behind ls all in
    let size : length (print_lines (l ∷ ls)) ≡ length (l ++ behind_first ls) + 3 = ap length (printed l ls) ∙ length-append (l ++ behind_first ls) (codes "\n\r\n") in
    let here : IsFirstEnd (print_lines (l ∷ ls)) (length (print_lines (l ∷ ls))) =
    subst (λ (n : ℕ). IsFirstEnd (print_lines (l ∷ ls)) n) (sym size) (subst (λ (a : List ℕ). IsFirstEnd a (length (l ++ behind_first ls) + 3)) (sym (printed l ls)) (first_end_of (l ++ behind_first ls) starts quiet)) in
    first_end_stays (print_lines (l ∷ ls)) rest (length (print_lines (l ∷ ls))) here
