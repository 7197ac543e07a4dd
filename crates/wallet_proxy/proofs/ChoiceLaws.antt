-- The piece that pays, and the request that is kept.
use Rattle.std.proofs.Common.{◌≡◌, ◌∙◌, ℕ, zero, suc, ◌+◌, true, List, [], ◌∷◌, ◌++◌, length, Option, Some, None, option_map, unwrap_or, Ok, refl, ap, subst, arith, filter, append_assoc}
use Rattle.std.proofs.lemmas.List.{length-append}
use Rattle.std.specs.Prelude.{◌==◌, nat_le, filter_map, slice_get, option_and_then, is_some}
use Rattle.std.specs.List.{AllByRecursion, enumerate_from, cons_option}
use Rattle.std.proofs.lemmas.Bool.{eqb-true, and_parts}
use Rattle.scrip_form.specs.Scrip.{Scrip}
use Rattle.mc_records.specs.Entry.{Entry}
use Rattle.ledger_model.specs.Histories.{History}
use Rattle.ledger_model.specs.Pieces.{piece_of}
use Rattle.ledger_model.proofs.ListLaws.{found_passes}
use Rattle.wallet_model.specs.Requests.{Pending, pending_of, pending_in, kept_requests, kept_get}
use Rattle.wallet_model.specs.Holdings.{Holding, holdings}
use Rattle.wallet_model.specs.Follows.{IsWalletBook}
use Rattle.wallet_model.specs.Laws.{HasItsPiece}
use Rattle.wallet_model.specs.Asks.{Offered, offered_at, is_fit, fit_for, chosen}
use Rattle.wallet_model.proofs.FitLaws.{requests_have}
use Rattle.wallet_model.proofs.WrittenLaws.{chosen_one, filtered_all}
use Rattle.wallet_book.proofs.HoldingLaws.{get_before}
use Rattle.wallet_proxy.specs.Proxy.{scrip_value}
use Rattle.wallet_proxy.proofs.KeptLemmas.{get_is_kept}

-- ---- what is offered has its piece

abbrev HasPiece : Offered → Type 0
HasPiece o = piece_of o.holding.text ≡ Some o.piece

offers_first : (n : ℕ) (x : Holding) (o : Option Scrip) (os : List Offered) → piece_of x.text ≡ o → AllByRecursion HasPiece os
    → AllByRecursion HasPiece (cons_option (option_map (λ p. record { place = n; holding = x; piece = p }) o) os)
offers_first n x None os is rest = rest
offers_first n x (Some p) os is rest = (is, rest)

offers_have : (n : ℕ) (xs : List Holding) → AllByRecursion HasPiece (filter_map offered_at (enumerate_from n xs))
offers_have n [] = tt
offers_have n (x ∷ xs) = offers_first n x (piece_of x.text) (filter_map offered_at (enumerate_from (n + 1) xs)) refl (offers_have (n + 1) xs)

pub chosen_has : (h : History) (t : ℕ) (vendor : List ℕ) (limit : ℕ) (o : Offered) → chosen h t vendor limit ≡ Ok o → piece_of o.holding.text ≡ Some o.piece
chosen_has h t vendor limit o is =
    chosen_one HasPiece (fit_for h t vendor) (filter (λ x. nat_le limit x.piece.value) (fit_for h t vendor)) o
    (filtered_all HasPiece (λ x. nat_le limit x.piece.value) (fit_for h t vendor) (filtered_all HasPiece (is_fit t vendor) (filter_map offered_at (enumerate_from 0 (holdings h))) (offers_have 0 (holdings h)))) is

-- its value
pub chosen_value : (h : History) (t : ℕ) (vendor : List ℕ) (limit : ℕ) (o : Offered) → chosen h t vendor limit ≡ Ok o → scrip_value (Some o.holding.text) ≡ o.piece.value
chosen_value h t vendor limit o is = ap (λ (p : Option Scrip). unwrap_or (option_map (λ q. q.value) p) 0) (chosen_has h t vendor limit o is)

-- ---- a kept request is that of its number

pub get_is : (h : History) (vendor target : List ℕ) (x : ℕ × Pending) → kept_get h vendor target ≡ Some x → (pending_in h x.0 ≡ Some x.1) × (x.1.ask ≡ 0)
get_is h vendor target x is = ((get_is_kept h vendor target x is).1, eqb-true x.1.ask 0 (and_parts (x.1.ask == 0) _ (found_passes _ (kept_requests h) x is)).0)

-- it pays with a piece
has_piece : (ask : ℕ) (scrip : Option (List ℕ)) → ask ≡ 0 → HasItsPiece ask scrip → is_some (option_and_then piece_of scrip) ≡ true
has_piece zero (Some text) is has = has
has_piece zero None is has = absurd has
has_piece (suc n) scrip is has = absurd cc

pub get_pays : (h : History) (vendor target : List ℕ) (x : ℕ × Pending) → IsWalletBook h → kept_get h vendor target ≡ Some x → is_some (option_and_then piece_of x.1.scrip) ≡ true
get_pays h vendor target x book is =
    let both = get_is h vendor target x is in
    has_piece x.1.ask x.1.scrip both.1 (requests_have h x.0 x.1 book both.0)

-- what stood at a place still stands there
pub pending_before : (h added : History) (n : ℕ) (p : Pending) → pending_in h n ≡ Some p → pending_in (h ++ added) n ≡ Some p
pending_before h added n p is = go (slice_get h n) refl is
  where
    go : (o : Option Entry) → slice_get h n ≡ o → option_and_then pending_of o ≡ Some p → pending_in (h ++ added) n ≡ Some p
    go None here e = absurd cc
    go (Some x) here e = ap (option_and_then pending_of) (get_before h added n x here) ∙ e

-- ---- what is chosen stands among the holdings at its place

record Stands (all : List Holding) (o : Offered) : Type 0 where
  here : slice_get all o.place ≡ Some o.holding

middle : (before xs : List Holding) (x : Holding) → slice_get (before ++ x ∷ xs) (length before) ≡ Some x
middle [] xs x = refl
middle (b ∷ before) xs x = middle before xs x

stand_first : (all : List Holding) (n : ℕ) (x : Holding) (o : Option Scrip) (os : List Offered) → slice_get all n ≡ Some x → AllByRecursion (Stands all) os
    → AllByRecursion (Stands all) (cons_option (option_map (λ p. record { place = n; holding = x; piece = p }) o) os)
stand_first all n x None os here rest = rest
stand_first all n x (Some p) os here rest = (record { here = here }, rest)

all_stand : (before xs : List Holding) (n : ℕ) → n ≡ length before → AllByRecursion (Stands (before ++ xs)) (filter_map offered_at (enumerate_from n xs))
all_stand before [] n is = tt
all_stand before (x ∷ xs) n is =
    let more = all_stand (before ++ x ∷ []) xs (n + 1) (omega (arith, is, length-append before (x ∷ []))) in
    let rest = subst (λ (all : List Holding). AllByRecursion (Stands all) (filter_map offered_at (enumerate_from (n + 1) xs))) (append_assoc before (x ∷ []) xs) more in
    stand_first (before ++ x ∷ xs) n x (piece_of x.text) (filter_map offered_at (enumerate_from (n + 1) xs)) (ap (slice_get (before ++ x ∷ xs)) is ∙ middle before xs x) rest

pub chosen_stands : (h : History) (t : ℕ) (vendor : List ℕ) (limit : ℕ) (o : Offered) → chosen h t vendor limit ≡ Ok o → slice_get (holdings h) o.place ≡ Some o.holding
chosen_stands h t vendor limit o is =
    (chosen_one (Stands (holdings h)) (fit_for h t vendor) (filter (λ x. nat_le limit x.piece.value) (fit_for h t vendor)) o
    (filtered_all (Stands (holdings h)) (λ x. nat_le limit x.piece.value) (fit_for h t vendor) (filtered_all (Stands (holdings h)) (is_fit t vendor) (filter_map offered_at (enumerate_from 0 (holdings h))) (all_stand [] (holdings h) 0 refl))) is).here
