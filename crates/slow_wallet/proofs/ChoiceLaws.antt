-- Choosing among the pieces that came, one more at a time.
use Rattle.std.proofs.Common.{◌≡◌, ℕ, ◌+◌, ◌<◌, Bool, true, false, cond, List, [], ◌∷◌, ◌++◌, length, map, take, filter, Option, Some, None, option_map, slice_get, Result, Ok, Err, refl, sym, ap, subst, ◌∙◌, append_assoc}
use Rattle.std.specs.Prelude.{nat_lt, nat_le, max, option_to_list, option_and_then, filter_map, fold}
use Rattle.std.specs.List.{enumerate_from, reduce, cons_option}
use Rattle.std.specs.Result.{result_map_both}
use Rattle.std.proofs.lemmas.List.Elements.{filter_map-append}
use Rattle.scrip_form.specs.Scrip.{Scrip}
use Rattle.mc_requests.specs.declared.refusal.Refusal.{Refusal}
use Rattle.mc_requests.specs.declared.refusal.Refusal.TheVariants.{NoFunds}
use Rattle.mc_records.specs.Entry.{Held}
use Rattle.ledger_model.specs.Histories.{History}
use Rattle.ledger_model.specs.Pieces.{piece_of}
use Rattle.wallet_model.specs.Holdings.{holding, pieces_came}
use Rattle.wallet_model.specs.Asks.{Offered, offered_at, is_fit, fit_for, lesser, greatest_value, chosen_of, chosen}
use Rattle.slow_wallet.specs.Slow.{brought_at}
use Rattle.slow_wallet.specs.declared.choice.Choice.{Choice}
use Rattle.slow_wallet.specs.declared.choice.Offer.{Offer}
use Rattle.slow_wallet.specs.Choices.{Fitting, fitting_of, offer_view, if_fit, fit_at, fits, lesser_fit, cheapest, greatest, IsChoice}
use Rattle.slow_ledger.proofs.SlowLaws.{next}
use Rattle.slow_wallet.proofs.Steps.{came_next}

-- ---- all that came

list_of : {A B : Type 0} (f : A → Option B) (x : A) → filter_map f (x ∷ []) ≡ option_to_list (f x)
list_of f x = go (f x)
  where
    go : {B : Type 0} (o : Option B) → cons_option o [] ≡ option_to_list o
    go None = refl
    go (Some y) = refl

-- the pieces that are fit, with the places of their holdings and without
fits_from : (h : History) (t : ℕ) (vendor : List ℕ) (i : ℕ) (ps : List Held)
    → map fitting_of (filter (is_fit t vendor) (filter_map offered_at (enumerate_from i (map (holding h) ps)))) ≡ filter_map (fit_at h t vendor) ps
fits_from h t vendor i [] = refl
fits_from h t vendor i (p ∷ ps) = one (piece_of p.text) (filter_map offered_at (enumerate_from (i + 1) (map (holding h) ps))) (filter_map (fit_at h t vendor) ps) (fits_from h t vendor (i + 1) ps)
  where
    two : (b : Bool) (o : Offered) (rest : List Offered) (more : List Fitting) → map fitting_of (filter (is_fit t vendor) rest) ≡ more
        → map fitting_of (cond b (o ∷ filter (is_fit t vendor) rest) (filter (is_fit t vendor) rest)) ≡ cons_option (cond b (Some (fitting_of o)) None) more
    two true o rest more e = ap (λ (xs : List Fitting). fitting_of o ∷ xs) e
    two false o rest more e = e

    one : (o : Option Scrip) (rest : List Offered) (more : List Fitting) → map fitting_of (filter (is_fit t vendor) rest) ≡ more
        → map fitting_of (filter (is_fit t vendor) (cons_option (option_map (λ q. record { place = i; holding = holding h p; piece = q }) o) rest))
        ≡ cons_option (option_and_then (if_fit t vendor) (option_map (λ q. record { place = 0; holding = holding h p; piece = q }) o)) more
    one None rest more e = e
    one (Some q) rest more e = two (is_fit t vendor (record { place = i; holding = holding h p; piece = q })) (record { place = i; holding = holding h p; piece = q }) rest more e

fits_are : (h : History) (t : ℕ) (vendor : List ℕ) → map fitting_of (fit_for h t vendor) ≡ fits h t vendor
fits_are h t vendor = fits_from h t vendor 0 (pieces_came h)

-- the choice does not look at the places
lesser_same : (a b : Offered) → fitting_of (lesser a b) ≡ lesser_fit (fitting_of a) (fitting_of b)
lesser_same a b = go (nat_lt b.piece.value a.piece.value)
  where
    go : (c : Bool) → fitting_of (cond c b a) ≡ cond c (fitting_of b) (fitting_of a)
    go true = refl
    go false = refl

reduce_same : (xs : List Offered) → option_map fitting_of (reduce lesser xs) ≡ reduce lesser_fit (map fitting_of xs)
reduce_same [] = refl
reduce_same (x ∷ xs) = ap Some (fold_same x xs)
  where
    fold_same : (a : Offered) (ys : List Offered) → fitting_of (fold lesser a ys) ≡ fold lesser_fit (fitting_of a) (map fitting_of ys)
    fold_same a [] = refl
    fold_same a (y ∷ ys) = fold_same (lesser a y) ys ∙ ap (λ (z : Fitting). fold lesser_fit z (map fitting_of ys)) (lesser_same a y)

covering_same : (limit : ℕ) (xs : List Offered) → map fitting_of (filter (λ o. nat_le limit o.piece.value) xs) ≡ filter (λ x. nat_le limit x.value) (map fitting_of xs)
covering_same limit [] = refl
covering_same limit (x ∷ xs) = go (nat_le limit x.piece.value) (filter (λ o. nat_le limit o.piece.value) xs) (filter (λ y. nat_le limit y.value) (map fitting_of xs)) (covering_same limit xs)
  where
    go : (b : Bool) (ys : List Offered) (zs : List Fitting) → map fitting_of ys ≡ zs → map fitting_of (cond b (x ∷ ys) ys) ≡ cond b (fitting_of x ∷ zs) zs
    go true ys zs e = ap (λ (l : List Fitting). fitting_of x ∷ l) e
    go false ys zs e = e

greatest_same : (m : ℕ) (xs : List Offered) → fold (λ n o. max n o.piece.value) m xs ≡ fold (λ n y. max n y.value) m (map fitting_of xs)
greatest_same m [] = refl
greatest_same m (x ∷ xs) = greatest_same (max m x.piece.value) xs

-- what was chosen
abbrev pub answer_of : Option Fitting → ℕ → Result Fitting Refusal
answer_of (Some x) most = Ok x
answer_of None most = Err (NoFunds most)

pub chosen_is : (h : History) (t : ℕ) (vendor : List ℕ) (limit : ℕ) → result_map_both fitting_of (λ (f : Refusal). f) (chosen h t vendor limit) ≡ answer_of (cheapest limit (fits h t vendor)) (greatest (fits h t vendor))
chosen_is h t vendor limit =
    shown (reduce lesser (filter (λ o. nat_le limit o.piece.value) (fit_for h t vendor)))
    ∙ ap (λ (o : Option Fitting). answer_of o (greatest_value (fit_for h t vendor))) (reduce_same (filter (λ o. nat_le limit o.piece.value) (fit_for h t vendor)) ∙ ap (reduce lesser_fit) (covering_same limit (fit_for h t vendor)))
    ∙ ap (λ (m : ℕ). answer_of (cheapest limit (map fitting_of (fit_for h t vendor))) m) (greatest_same 0 (fit_for h t vendor))
    ∙ ap (λ (xs : List Fitting). answer_of (cheapest limit xs) (greatest xs)) (fits_are h t vendor)
  where
    shown : (o : Option Offered) → result_map_both fitting_of (λ (f : Refusal). f) (chosen_of (fit_for h t vendor) o) ≡ answer_of (option_map fitting_of o) (greatest_value (fit_for h t vendor))
    shown None = refl
    shown (Some x) = refl

pub choice_answers : (h : History) (t : ℕ) (vendor : List ℕ) (limit : ℕ) (c : Choice) (o : Option Offer) → IsChoice limit (fits h t vendor) c → c.best ≡ o
    → answer_of (option_map offer_view o) c.greatest ≡ result_map_both fitting_of (λ (f : Refusal). f) (chosen h t vendor limit)
choice_answers h t vendor limit c o w is =
    ap (λ (p : Option Offer). answer_of (option_map offer_view p) c.greatest) (sym is) ∙ ap (λ (x : Option Fitting). answer_of x c.greatest) w.best
    ∙ ap (λ (m : ℕ). answer_of (cheapest limit (fits h t vendor)) m) w.most ∙ sym (chosen_is h t vendor limit)

-- ---- the loops

abbrev pub fits_of : History → ℕ → List ℕ → List Held → List Fitting
fits_of h t vendor ps = filter_map (fit_at h t vendor) ps

fits_next : (h : History) (t : ℕ) (vendor : List ℕ) (ps : List Held) (k : ℕ) → k < length ps
    → fits_of h t vendor (take (k + 1) ps) ≡ fits_of h t vendor (take k ps) ++ option_to_list (option_and_then (fit_at h t vendor) (slice_get ps k))
fits_next h t vendor ps k lt =
    let x = next ps k lt in
    ap (fits_of h t vendor) x.front ∙ filter_map-append (fit_at h t vendor) (take k ps) (x.entry ∷ [])
    ∙ ap (λ (ys : List Fitting). fits_of h t vendor (take k ps) ++ ys) (list_of (fit_at h t vendor) x.entry ∙ ap (λ (o : Option Held). option_to_list (option_and_then (fit_at h t vendor) o)) (sym x.stands))

pub piece_more : (h : History) (t : ℕ) (vendor : List ℕ) (limit : ℕ) (ps : List Held) (k : ℕ) (xs : List Fitting) (o : Option Offer) (c d : Choice) → k < length ps
    → option_map offer_view o ≡ option_and_then (fit_at h t vendor) (slice_get ps k) → IsChoice limit (xs ++ fits_of h t vendor (take k ps)) c
    → ((ys : List Fitting) → IsChoice limit ys c → IsChoice limit (ys ++ option_to_list (option_map offer_view o)) d) → IsChoice limit (xs ++ fits_of h t vendor (take (k + 1) ps)) d
piece_more h t vendor limit ps k xs o c d lt is before more =
    let all : xs ++ fits_of h t vendor (take (k + 1) ps) ≡ (xs ++ fits_of h t vendor (take k ps)) ++ option_to_list (option_map offer_view o) =
    ap (λ (ys : List Fitting). xs ++ ys) (fits_next h t vendor ps k lt ∙ ap (λ (f : Option Fitting). fits_of h t vendor (take k ps) ++ option_to_list f) (sym is))
    ∙ sym (append_assoc xs (fits_of h t vendor (take k ps)) (option_to_list (option_map offer_view o))) in
    subst (λ (ys : List Fitting). IsChoice limit ys d) (sym all) (more (xs ++ fits_of h t vendor (take k ps)) before)

pub entry_more : (h : History) (t : ℕ) (vendor : List ℕ) (limit n : ℕ) (c d : Choice) → n < length h → IsChoice limit (fits_of h t vendor (pieces_came (take n h))) c
    → ((ys : List Fitting) → IsChoice limit ys c → IsChoice limit (ys ++ fits_of h t vendor (brought_at h n)) d) → IsChoice limit (fits_of h t vendor (pieces_came (take (n + 1) h))) d
entry_more h t vendor limit n c d lt before more =
    let all : fits_of h t vendor (pieces_came (take (n + 1) h)) ≡ fits_of h t vendor (pieces_came (take n h)) ++ fits_of h t vendor (brought_at h n) =
    ap (fits_of h t vendor) (came_next h n lt) ∙ filter_map-append (fit_at h t vendor) (pieces_came (take n h)) (brought_at h n) in
    subst (λ (ys : List Fitting). IsChoice limit ys d) (sym all) (more (fits_of h t vendor (pieces_came (take n h))) before)
