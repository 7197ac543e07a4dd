-- The elements of a list by their places, where the list is made of parts.
use Rattle.std.proofs.Common.{◌≡◌, ℕ, zero, suc, ◌+◌, ◌<◌, ◌≤◌, Bool, true, false, cond, ◌&&◌, List, [], ◌∷◌, ◌++◌, length, take, drop, filter, Option, Some, None, option_map, slice_get, refl, sym, ap, ◌∙◌, arith}
use Rattle.std.specs.Prelude.{not, option_to_list, option_and_then, filter_map, is_some}
use Rattle.std.specs.List.{list_any, enumerate_from, cons_option}
use Rattle.std.proofs.lemmas.List.{length-append, take-append-drop}
use Rattle.std.proofs.lemmas.List.Elements.{filter-append}
use Rattle.mc_records.specs.Entry.{Held}
use Rattle.ledger_model.specs.Histories.{History}
use Rattle.wallet_model.specs.Requests.{Pending, pending_of, pending_in, settles, numbered, requests, is_open, kept_requests}
use Rattle.wallet_model.specs.Holdings.{pieces_from, pieces_came}
use Rattle.wallet_model.proofs.CameLaws.{pieces_both}
use Rattle.wallet_model.proofs.KeptLaws.{requests_more}
use Rattle.slow_ledger.proofs.SlowLaws.{next}
use Rattle.slow_wallet.specs.Slow.{brought_at, kept_at}
use Rattle.slow_wallet.proofs.Steps.{came_next}

get_front : {A : Type 0} (xs ys : List A) (i : ℕ) → i < length xs → slice_get (xs ++ ys) i ≡ slice_get xs i
get_front [] ys i lt = absurd (omega (arith, lt))
get_front (x ∷ xs) ys zero lt = refl
get_front (x ∷ xs) ys (suc i) lt = get_front xs ys i (omega (arith, lt))

get_behind : {A : Type 0} (xs ys : List A) (i : ℕ) → slice_get (xs ++ ys) (length xs + i) ≡ slice_get ys i
get_behind [] ys i = let z : 0 + i ≡ i = omega arith in ap (slice_get ys) z
get_behind (x ∷ xs) ys i = let z : suc (length xs) + i ≡ suc (length xs + i) = omega arith in ap (slice_get ((x ∷ xs) ++ ys)) z ∙ get_behind xs ys i

-- an element of a part
found : {A : Type 0} (whole front part rest : List A) (place skip : ℕ) → whole ≡ (front ++ part) ++ rest → place ≡ length front + skip → skip < length part → slice_get whole place ≡ slice_get part skip
found {A = A} whole front part rest place skip is at lt =
    ap (λ (xs : List A). slice_get xs place) is ∙ get_front (front ++ part) rest place (omega (arith, at, lt, length-append front part))
    ∙ ap (slice_get (front ++ part)) at ∙ get_behind front part skip

-- none behind the last
none_past : {A : Type 0} (xs : List A) (i : ℕ) → length xs ≤ i → None ≡ slice_get xs i
none_past [] i le = refl
none_past (x ∷ xs) zero le = absurd (omega (arith, le))
none_past (x ∷ xs) (suc i) le = none_past xs i (omega (arith, le))

-- ---- pieces

came_whole : (h : History) (n : ℕ) → n < length h → pieces_came h ≡ (pieces_came (take n h) ++ brought_at h n) ++ pieces_from (take (n + 1) h) (drop (n + 1) h)
came_whole h n lt =
    ap pieces_came (sym (take-append-drop (n + 1) h)) ∙ pieces_both [] (take (n + 1) h) (drop (n + 1) h)
    ∙ ap (λ (ps : List Held). ps ++ pieces_from (take (n + 1) h) (drop (n + 1) h)) (came_next h n lt)

pub piece_found : (h : History) (n place skip : ℕ) → n < length h → place ≡ length (pieces_came (take n h)) + skip → skip < length (brought_at h n) → slice_get (pieces_came h) place ≡ slice_get (brought_at h n) skip
piece_found h n place skip lt at here = found (pieces_came h) (pieces_came (take n h)) (brought_at h n) (pieces_from (take (n + 1) h) (drop (n + 1) h)) place skip (came_whole h n lt) at here

pub pieces_passed : (h : History) (n : ℕ) → n < length h → length (pieces_came (take (n + 1) h)) ≡ length (pieces_came (take n h)) + length (brought_at h n)
pieces_passed h n lt = ap length (came_next h n lt) ∙ length-append (pieces_came (take n h)) (brought_at h n)

-- ---- kept requests

-- those of the first entries
abbrev pub kept_front : History → ℕ → List (ℕ × Pending)
kept_front h n = filter (is_open h) (requests (take n h))

kept_of : (h : History) (n : ℕ) (o : Option Pending) (b : Bool) → list_any (settles n) h ≡ b
    → filter (is_open h) (option_to_list (option_map (λ p. (n, p)) o)) ≡ cond (is_some o && not b) (option_to_list (option_map (λ p. (n, p)) o)) []
kept_of h n None b is = refl
kept_of h n (Some p) true is = rw is refl
kept_of h n (Some p) false is = rw is refl

length_front : {A : Type 0} (xs : List A) (n : ℕ) → n < length xs → length (take n xs) ≡ n
length_front [] n lt = absurd (omega (arith, lt))
length_front (x ∷ xs) zero lt = refl
length_front (x ∷ xs) (suc n) lt = let rest : length (take n xs) ≡ n = length_front xs n (omega (arith, lt)) in omega (arith, rest)

kept_next : (h : History) (n : ℕ) → n < length h → kept_front h (n + 1) ≡ kept_front h n ++ kept_at h n
kept_next h n lt =
    let x = next h n lt in
    let got : pending_in h n ≡ pending_of x.entry = ap (option_and_then pending_of) x.stands in
    let one : filter (is_open h) (option_to_list (numbered (length (take n h), x.entry))) ≡ kept_at h n =
    ap (λ (k : ℕ). filter (is_open h) (option_to_list (numbered (k, x.entry)))) (length_front h n lt)
    ∙ ap (λ (o : Option Pending). filter (is_open h) (option_to_list (option_map (λ p. (n, p)) o))) (sym got)
    ∙ kept_of h n (pending_in h n) (list_any (settles n) h) refl in
    ap (λ (k : History). filter (is_open h) (requests k)) x.front
    ∙ ap (filter (is_open h)) (requests_more (take n h) x.entry)
    ∙ filter-append (is_open h) (requests (take n h)) (option_to_list (numbered (length (take n h), x.entry)))
    ∙ ap (λ (xs : List (ℕ × Pending)). kept_front h n ++ xs) one

cons_both : {A : Type 0} (o : Option A) (xs ys : List A) → cons_option o (xs ++ ys) ≡ cons_option o xs ++ ys
cons_both None xs ys = refl
cons_both (Some x) xs ys = refl

requests_both : (k : ℕ) (xs ys : History) → filter_map numbered (enumerate_from k (xs ++ ys)) ≡ filter_map numbered (enumerate_from k xs) ++ filter_map numbered (enumerate_from (k + length xs) ys)
requests_both k [] ys = let z : k ≡ k + 0 = omega arith in ap (λ (j : ℕ). filter_map numbered (enumerate_from j ys)) z
requests_both k (x ∷ xs) ys =
    let z : k + 1 + length xs ≡ k + suc (length xs) = omega arith in
    ap (cons_option (numbered (k, x))) (requests_both (k + 1) xs ys ∙ ap (λ (j : ℕ). filter_map numbered (enumerate_from (k + 1) xs) ++ filter_map numbered (enumerate_from j ys)) z)
    ∙ cons_both (numbered (k, x)) (filter_map numbered (enumerate_from (k + 1) xs)) (filter_map numbered (enumerate_from (k + suc (length xs)) ys))

abbrev kept_rest : History → ℕ → List (ℕ × Pending)
kept_rest h m = filter (is_open h) (filter_map numbered (enumerate_from (0 + length (take m h)) (drop m h)))

kept_whole : (h : History) (n : ℕ) → n < length h → kept_requests h ≡ (kept_front h n ++ kept_at h n) ++ kept_rest h (n + 1)
kept_whole h n lt =
    ap (λ (k : History). filter (is_open h) (requests k)) (sym (take-append-drop (n + 1) h))
    ∙ ap (filter (is_open h)) (requests_both 0 (take (n + 1) h) (drop (n + 1) h))
    ∙ filter-append (is_open h) (requests (take (n + 1) h)) (filter_map numbered (enumerate_from (0 + length (take (n + 1) h)) (drop (n + 1) h)))
    ∙ ap (λ (xs : List (ℕ × Pending)). xs ++ kept_rest h (n + 1)) (kept_next h n lt)

pub at_most_one : (h : History) (n : ℕ) → length (kept_at h n) ≤ 1
at_most_one h n = go (pending_in h n) (not (list_any (settles n) h))
  where
    go : (o : Option Pending) (b : Bool) → length {A = ℕ × Pending} (cond (is_some o && b) (option_to_list (option_map (λ p. (n, p)) o)) []) ≤ 1
    go None b = omega arith
    go (Some p) true = omega arith
    go (Some p) false = omega arith

pub kept_found : (h : History) (n place skip : ℕ) → n < length h → place ≡ length (kept_front h n) + skip → skip < length (kept_at h n) → slice_get (kept_requests h) place ≡ slice_get (kept_at h n) 0
kept_found h n place skip lt at here =
    let first : skip ≡ 0 = omega (arith, here, at_most_one h n) in
    found (kept_requests h) (kept_front h n) (kept_at h n) (kept_rest h (n + 1)) place skip (kept_whole h n lt) at here ∙ ap (slice_get (kept_at h n)) first

pub kept_passed : (h : History) (n : ℕ) → n < length h → length (kept_front h (n + 1)) ≡ length (kept_front h n) + length (kept_at h n)
kept_passed h n lt = ap length (kept_next h n lt) ∙ length-append (kept_front h n) (kept_at h n)

take_all : {A : Type 0} (xs : List A) (n : ℕ) → length xs ≤ n → take n xs ≡ xs
take_all [] zero le = refl
take_all [] (suc n) le = refl
take_all (x ∷ xs) zero le = absurd (omega (arith, le))
take_all {A = A} (x ∷ xs) (suc n) le = ap (λ (ys : List A). x ∷ ys) (take_all xs n (omega (arith, le)))

pub kept_past : (h : History) (n place skip : ℕ) → length h ≤ n → place ≡ length (kept_front h n) + skip → None ≡ slice_get (kept_requests h) place
kept_past h n place skip le at =
    let all : length (kept_front h n) ≡ length (kept_requests h) = ap (λ (k : History). length (filter (is_open h) (requests k))) (take_all h n le) in
    none_past (kept_requests h) place (omega (arith, at, all))

pub piece_past : (h : History) (n place skip : ℕ) → length h ≤ n → place ≡ length (pieces_came (take n h)) + skip → None ≡ slice_get (pieces_came h) place
piece_past h n place skip le at =
    let all : length (pieces_came (take n h)) ≡ length (pieces_came h) = ap (λ (k : History). length (pieces_came k)) (take_all h n le) in
    none_past (pieces_came h) place (omega (arith, at, all))
