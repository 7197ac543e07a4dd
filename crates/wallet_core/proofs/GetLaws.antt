-- The piece that a kept get pays with.
use Rattle.std.proofs.Common.{◌≡◌, ◌∙◌, ℕ, zero, suc, ◌+◌, Bool, true, false, cond, List, [], ◌∷◌, map, Option, Some, None, option_map, refl, sym, ap, arith, find, filter}
use Rattle.std.specs.Prelude.{◌==◌, filter_map, slice_get, option_and_then}
use Rattle.std.specs.List.{AllByRecursion, enumerate_from, cons_option}
use Rattle.std.proofs.lemmas.Bool.{eqb-true}
use Rattle.std.proofs.lemmas.Option.{slice_get-map}
use Rattle.ledger_model.specs.Histories.{History}
use Rattle.wallet_model.specs.Requests.{Pending, pending_of, pending_in, numbered, is_open, requests, kept_requests, kept_get}
use Rattle.wallet_model.specs.Holdings as model
use Rattle.wallet_model.specs.Laws.{HasItsPiece}
use Rattle.wallet_model.proofs.FitLaws.{requests_have}
use Rattle.wallet_model.proofs.KeptLaws.{both_left}
use Rattle.wallet_book.specs.declared.holding.Holding.{Holding}
use Rattle.wallet_book.specs.declared.kept.Kept.{Kept}
use Rattle.wallet_book.specs.Holdings.{text_of, texts_of, holding_of}
use Rattle.wallet_book.specs.Kept.{kept_of}
use Rattle.wallet_book.specs.Book.{BookView, WalletRepresents}
use Rattle.wallet_core.specs.Gets.{PaysFrom, FindsGet}

-- ---- a kept request is that of its number

abbrev IsOf : History → ℕ × Pending → Type 0
IsOf h x = pending_in h x.0 ≡ Some x.1

with_first : (h : History) (k : ℕ) (o : Option Pending) (xs : List (ℕ × Pending)) → pending_in h k ≡ o → AllByRecursion (IsOf h) xs → AllByRecursion (IsOf h) (cons_option (option_map (λ p. (k, p)) o) xs)
with_first h k None xs is rest = rest
with_first h k (Some p) xs is rest = (is, rest)

are_of : (h : History) (k : ℕ) (es : History) → ((i : ℕ) → slice_get h (k + i) ≡ slice_get es i) → AllByRecursion (IsOf h) (filter_map numbered (enumerate_from k es))
are_of h k [] same = tt
are_of h k (e ∷ es) same =
    let here : slice_get h k ≡ Some e = ap (slice_get h) (omega arith) ∙ same 0 in
    with_first h k (pending_of e) (filter_map numbered (enumerate_from (k + 1) es)) (ap (option_and_then pending_of) here)
    (are_of h (k + 1) es (λ i. ap (slice_get h) (omega arith) ∙ same (suc i)))

all_filtered : {X : Type 0} (P : X → Type 0) (p : X → Bool) (xs : List X) → AllByRecursion P xs → AllByRecursion P (filter p xs)
all_filtered P p [] all = tt
all_filtered P p (x ∷ xs) all = go (p x) (all_filtered P p xs all.1)
  where
    go : (b : Bool) → AllByRecursion P (filter p xs) → AllByRecursion P (cond b (x ∷ filter p xs) (filter p xs))
    go true rest = (all.0, rest)
    go false rest = rest

found : {X : Type 0} (P : X → Type 0) (p : X → Bool) (xs : List X) (x : X) → AllByRecursion P xs → find p xs ≡ Some x → P x × (p x ≡ true)
found P p [] x all is = absurd cc
found {X = X} P p (y ∷ ys) x all is = go (p y) refl is (found P p ys x all.1)
  where
    go : (b : Bool) → p y ≡ b → cond b (Some y) (find p ys) ≡ Some x → (find p ys ≡ Some x → P x × (p x ≡ true)) → P x × (p x ≡ true)
    go true passes same rest = let e : y ≡ x = cc in rw (← e) (all.0, passes)
    go false fails same rest = rest same

get_is : (h : History) (vendor target : List ℕ) (x : ℕ × Pending) → kept_get h vendor target ≡ Some x → (pending_in h x.0 ≡ Some x.1) × (x.1.ask ≡ 0)
get_is h vendor target x is =
    let both = found (IsOf h) _ (kept_requests h) x (all_filtered (IsOf h) (is_open h) (requests h) (are_of h 0 h (λ i. ap (slice_get h) (omega arith)))) is in
    (both.0, eqb-true x.1.ask 0 (both_left (x.1.ask == 0) _ both.1))

-- ---- what is told of it

has_scrip : (ask : ℕ) (scrip : Option (List ℕ)) → ask ≡ 0 → HasItsPiece ask scrip → scrip ≡ None → ⊥
has_scrip zero (Some text) is has none = absurd cc
has_scrip zero None is has none = has
has_scrip (suc n) scrip is has none = absurd cc

at_place : (xs : List Holding) (h : History) (p : Pending) (place : ℕ) (r : Option Holding) → model.holdings h ≡ map holding_of xs → slice_get xs place ≡ r → p.scrip ≡ option_map text_of r → (p.scrip ≡ None → ⊥) → PaysFrom h p place
at_place xs h p place None pieces here scrip has = absurd (has scrip)
at_place xs h p place (Some x) pieces here scrip has = record {
  holding = holding_of x;
  here = ap (λ (l : List model.Holding). slice_get l place) pieces ∙ slice_get-map holding_of xs place ∙ ap (option_map holding_of) here;
  pays = scrip;
}

-- a get that is kept has its place
pub found_get : (b : BookView) (h : History) (vendor target : List ℕ) (k : Kept) (o : Option ℕ) → WalletRepresents b h → k.place ≡ o → Some (kept_of (texts_of b.holdings) k) ≡ kept_get h vendor target
    → FindsGet h (Some (kept_of (texts_of b.holdings) k)) (option_map (λ place. (k.number, place)) o)
found_get b h vendor target k o st place is = go o place (has_scrip _ _ both.1 (requests_have h k.number _ st.lawful both.0))
  where
    both : (pending_in h k.number ≡ Some (kept_of (texts_of b.holdings) k).1) × (k.ask ≡ 0)
    both = get_is h vendor target (kept_of (texts_of b.holdings) k) (sym is)

    go : (o : Option ℕ) → k.place ≡ o → (option_and_then (slice_get (texts_of b.holdings)) k.place ≡ None → ⊥) → FindsGet h (Some (kept_of (texts_of b.holdings) k)) (option_map (λ place. (k.number, place)) o)
    go None none has = absurd (has (ap (option_and_then (slice_get (texts_of b.holdings))) none))
    go (Some place) some has = (refl, at_place b.holdings h (kept_of (texts_of b.holdings) k).1 place (slice_get b.holdings place) st.parts.pieces refl (ap (option_and_then (slice_get (texts_of b.holdings))) some ∙ slice_get-map text_of b.holdings place) has)
