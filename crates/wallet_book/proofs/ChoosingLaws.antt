-- The piece that is chosen, one piece after the other.
use Rattle.std.proofs.Common.{◌≡◌, ℕ, suc, ◌+◌, ◌<◌, Bool, true, false, ◌&&◌, cond, List, [], ◌∷◌, ◌++◌, length, take, map, Option, Some, None, option_map, refl, sym, ap, subst, ◌∙◌, arith, max, filter, nat_lt, nat_le, get_or, append-nil, ltb-true, bytes_eq}
use Rattle.std.proofs.lemmas.Slice.Eq.{bytes_eq-Decides}
use Rattle.std.proofs.lemmas.List.{length-take, length-map, take_more}
use Rattle.std.proofs.lemmas.Option.{get_or_from_slice_get, slice_get_within}
use Rattle.std.proofs.lemmas.List.Sums.{fold-append}
use Rattle.std.proofs.lemmas.List.Elements.{filter-append, filter_map-append}
use Rattle.std.specs.Prelude.{filter_map, slice_get}
use Rattle.std.specs.List.{enumerate_from, reduce}
use Rattle.wallet_model.specs.Asks.{Offered, offered_at, is_fit, due_of}
use Rattle.wallet_model.specs.Holdings.{is_held}
use Rattle.wallet_model.proofs.CameLaws.{map_both}
use Rattle.wallet_model.proofs.KeptLaws.{both_left, both_right}
use Rattle.wallet_book.specs.declared.holding.Holding.{Holding}
use Rattle.wallet_book.specs.Holdings.{state_of, holding_of, IsSpelled, AreSpelled, text_of}
use Rattle.wallet_book.specs.Choosing.{fit_among, value_of, end_of, covers, ends_by, lesser_by, IsOffer, IsLeast, least_with, HasSeen, IsFitAt, IsFitOne, HasFirst}
use Rattle.wallet_book.proofs.HoldingLaws.{read_back, spelled_at, held_state}

-- a piece of a place as it is offered
abbrev pub offer_of : ℕ → Holding → Offered
offer_of place x = record { place = place; holding = holding_of x; piece = x.piece }

pub offered : (place : ℕ) (x : Holding) → IsSpelled x → offered_at (place, holding_of x) ≡ Some (offer_of place x)
offered place x spelled = let own = read_back (text_of x) x.piece x.cert spelled in rw own refl

numbered_both : {X : Type 0} (n : ℕ) (xs : List X) (x : X) → enumerate_from n (xs ++ x ∷ []) ≡ enumerate_from n xs ++ (n + length xs, x) ∷ []
numbered_both n [] x = let z : n + 0 ≡ n = omega arith in rw z refl
numbered_both n (y ∷ xs) x =
    let z : n + 1 + length xs ≡ n + suc (length xs) = omega arith in
    ap (λ zs. (n, y) ∷ zs) (numbered_both (n + 1) xs x ∙ ap (λ (k : ℕ). enumerate_from (n + 1) xs ++ (k, x) ∷ []) z)

numbered_more : (xs : List Holding) (x : Holding) → enumerate_from 0 (map holding_of (xs ++ x ∷ [])) ≡ enumerate_from 0 (map holding_of xs) ++ (length xs, holding_of x) ∷ []
numbered_more xs x =
    let z : 0 + length (map holding_of xs) ≡ length xs = omega (arith, length-map xs holding_of) in
    ap (enumerate_from 0) (map_both holding_of xs (x ∷ [])) ∙ numbered_both 0 (map holding_of xs) (holding_of x) ∙ ap (λ (k : ℕ). enumerate_from 0 (map holding_of xs) ++ (k, holding_of x) ∷ []) z

fit_more : (xs : List Holding) (x : Holding) (t : ℕ) (vendor : List ℕ) → IsSpelled x
    → fit_among (xs ++ x ∷ []) t vendor ≡ fit_among xs t vendor ++ filter (is_fit t vendor) (offer_of (length xs) x ∷ [])
fit_more xs x t vendor spelled =
    ap (λ ns. filter (is_fit t vendor) (filter_map offered_at ns)) (numbered_more xs x)
    ∙ ap (filter (is_fit t vendor)) (filter_map-append offered_at (enumerate_from 0 (map holding_of xs)) ((length xs, holding_of x) ∷ []))
    ∙ filter-append (is_fit t vendor) (filter_map offered_at (enumerate_from 0 (map holding_of xs))) (filter_map offered_at ((length xs, holding_of x) ∷ []))
    ∙ (let one = offered (length xs) x spelled in rw one refl)

-- the least of some and one more
abbrev pub with_last : (Offered → ℕ) → Option Offered → Offered → Option Offered
with_last key None o = Some o
with_last key (Some m) o = Some (lesser_by key m o)

reduce_more : (key : Offered → ℕ) (os : List Offered) (o : Offered) → reduce (lesser_by key) (os ++ o ∷ []) ≡ with_last key (reduce (lesser_by key) os) o
reduce_more key [] o = refl
reduce_more key (m ∷ os) o = ap (λ (x : Offered). Some x) (fold-append (lesser_by key) m os (o ∷ []))

lower : (key : Offered → ℕ) (o a : Offered) (b : Bool) → IsOffer key (Some (cond b o a)) (cond b (Some (o.place, key o)) (Some (a.place, key a)))
lower key o a true = refl
lower key o a false = refl

with_counting : (key : Offered → ℕ) (o : Offered) (m : Option Offered) (least : Option (ℕ × ℕ)) → IsOffer key m least → IsOffer key (with_last key m o) (least_with true least o.place (key o))
with_counting key o None least is =
    let P : Option (ℕ × ℕ) → Type 0 = λ l. IsOffer key (Some o) (least_with true l o.place (key o)) in
    subst P (sym is) refl
with_counting key o (Some a) least is =
    let P : Option (ℕ × ℕ) → Type 0 = λ l. IsOffer key (with_last key (Some a) o) (least_with true l o.place (key o)) in
    subst P (sym is) (lower key o a (nat_lt (key o) (key a)))

least_more : (key : Offered → ℕ) (counts : Offered → Bool) (os : List Offered) (o : Offered) (least : Option (ℕ × ℕ)) → IsLeast key counts os least
    → IsLeast key counts (os ++ o ∷ []) (least_with (counts o) least o.place (key o))
least_more key counts os o least is =
    subst (λ (fs : List Offered). IsOffer key (reduce (lesser_by key) fs) (least_with (counts o) least o.place (key o))) (sym (filter-append counts os (o ∷ []))) (go (counts o) refl)
  where
    go : (b : Bool) → counts o ≡ b → IsOffer key (reduce (lesser_by key) (filter counts os ++ cond b (o ∷ []) [])) (least_with b least o.place (key o))
    go true counted =
        subst (λ (m : Option Offered). IsOffer key m (least_with true least o.place (key o))) (sym (reduce_more key (filter counts os) o))
        (with_counting key o (reduce (lesser_by key) (filter counts os)) least is)
    go false other =
        subst (λ (fs : List Offered). IsOffer key (reduce (lesser_by key) fs) least) (sym (append-nil (filter counts os))) is

front_more : (xs : List Holding) (i : ℕ) (x : Holding) (t : ℕ) (vendor : List ℕ) → AreSpelled xs → slice_get xs i ≡ Some x
    → fit_among (take (i + 1) xs) t vendor ≡ fit_among (take i xs) t vendor ++ filter (is_fit t vendor) (offer_of i x ∷ [])
front_more xs i x t vendor spelled here =
    let lt : i < length xs = slice_get_within xs i x here in
    let at : get_or xs i x ≡ x = get_or_from_slice_get xs i x x here in
    let long : length (take i xs) ≡ i = omega (arith, length-take i xs, lt) in
    ap (λ (ys : List Holding). fit_among ys t vendor) (take_more xs i x lt ∙ ap (λ (y : Holding). take i xs ++ y ∷ []) at)
    ∙ fit_more (take i xs) x t vendor (spelled_at xs i x spelled here)
    ∙ ap (λ (n : ℕ). fit_among (take i xs) t vendor ++ filter (is_fit t vendor) (offer_of n x ∷ [])) long

-- ---- one more piece that is fit, and one that is not

more_fit : (xs : List Holding) (i : ℕ) (x : Holding) (t : ℕ) (vendor : List ℕ) → AreSpelled xs → slice_get xs i ≡ Some x → is_fit t vendor (offer_of i x) ≡ true
    → fit_among (take (i + 1) xs) t vendor ≡ fit_among (take i xs) t vendor ++ offer_of i x ∷ []
more_fit xs i x t vendor spelled here fit = front_more xs i x t vendor spelled here ∙ (rw fit refl)

none_more : (xs : List Holding) (i : ℕ) (x : Holding) (t : ℕ) (vendor : List ℕ) → AreSpelled xs → slice_get xs i ≡ Some x → is_fit t vendor (offer_of i x) ≡ false
    → fit_among (take (i + 1) xs) t vendor ≡ fit_among (take i xs) t vendor
none_more xs i x t vendor spelled here other = front_more xs i x t vendor spelled here ∙ (rw other (append-nil (fit_among (take i xs) t vendor)))

pub seen_fit : (xs : List Holding) (i : ℕ) (x : Holding) (t limit : ℕ) (vendor : List ℕ) (least : Option (ℕ × ℕ)) (greatest : ℕ) → AreSpelled xs → slice_get xs i ≡ Some x
    → is_fit t vendor (offer_of i x) ≡ true → HasSeen (fit_among (take i xs) t vendor) limit least greatest
    → HasSeen (fit_among (take (i + 1) xs) t vendor) limit (least_with (nat_le limit x.piece.value) least i x.piece.value) (max greatest x.piece.value)
seen_fit xs i x t limit vendor least greatest spelled here fit seen =
    let os = fit_among (take i xs) t vendor in
    let P : List Offered → Type 0 = λ fs. HasSeen fs limit (least_with (nat_le limit x.piece.value) least i x.piece.value) (max greatest x.piece.value) in
    subst P (sym (more_fit xs i x t vendor spelled here fit)) (record {
      least' = least_more value_of (covers limit) os (offer_of i x) least seen.least';
      greatest' = ap (λ (g : ℕ). max g x.piece.value) seen.greatest' ∙ sym (fold-append (λ m o. max m o.piece.value) 0 os (offer_of i x ∷ []));
    })

pub seen_other : (xs : List Holding) (i : ℕ) (x : Holding) (t limit : ℕ) (vendor : List ℕ) (least : Option (ℕ × ℕ)) (greatest : ℕ) → AreSpelled xs → slice_get xs i ≡ Some x
    → is_fit t vendor (offer_of i x) ≡ false → HasSeen (fit_among (take i xs) t vendor) limit least greatest
    → HasSeen (fit_among (take (i + 1) xs) t vendor) limit least greatest
seen_other xs i x t limit vendor least greatest spelled here other seen =
    let P : List Offered → Type 0 = λ fs. HasSeen fs limit least greatest in
    subst P (sym (none_more xs i x t vendor spelled here other)) seen

-- ---- the one that ends first

fit_here : (xs : List Holding) (i : ℕ) (x : Holding) (t : ℕ) (vendor : List ℕ) → slice_get xs i ≡ Some x → is_fit t vendor (offer_of i x) ≡ true → IsFitAt xs t vendor i
fit_here xs i x t vendor here fit =
    let rest : (nat_lt t x.piece.expires && bytes_eq x.piece.vendor vendor) ≡ true = both_right (is_held (state_of x.state)) _ fit in
    record {
      holding = x;
      here = here;
      held' = held_state x.state (both_left (is_held (state_of x.state)) _ fit);
      vendor' = (bytes_eq-Decides x.piece.vendor vendor).0 (both_right (nat_lt t x.piece.expires) _ rest);
      in_time = ltb-true t x.piece.expires (both_left (nat_lt t x.piece.expires) _ rest);
    }

fit_one : (xs : List Holding) (i end t : ℕ) (vendor : List ℕ) (counts : Bool) (first : Option (ℕ × ℕ)) → IsFitAt xs t vendor i → IsFitOne xs t vendor first → IsFitOne xs t vendor (least_with counts first i end)
fit_one xs i end t vendor true None here was = here
fit_one xs i end t vendor true (Some x) here was = go (nat_lt end x.1)
  where
    go : (b : Bool) → IsFitOne xs t vendor (cond b (Some (i, end)) (Some x))
    go true = here
    go false = was
fit_one xs i end t vendor false first here was = was

pub first_fit : (xs : List Holding) (i : ℕ) (x : Holding) (t before : ℕ) (vendor : List ℕ) (first : Option (ℕ × ℕ)) → AreSpelled xs → slice_get xs i ≡ Some x
    → is_fit t vendor (offer_of i x) ≡ true → HasFirst xs t vendor (fit_among (take i xs) t vendor) before first
    → HasFirst xs t vendor (fit_among (take (i + 1) xs) t vendor) before (least_with (nat_le x.piece.expires before) first i x.piece.expires)
first_fit xs i x t before vendor first spelled here fit seen =
    let os = fit_among (take i xs) t vendor in
    let P : List Offered → Type 0 = λ fs. HasFirst xs t vendor fs before (least_with (nat_le x.piece.expires before) first i x.piece.expires) in
    subst P (sym (more_fit xs i x t vendor spelled here fit)) (record {
      first' = least_more end_of (ends_by before) os (offer_of i x) first seen.first';
      fit' = fit_one xs i x.piece.expires t vendor (nat_le x.piece.expires before) first (fit_here xs i x t vendor here fit) seen.fit';
    })

pub first_other : (xs : List Holding) (i : ℕ) (x : Holding) (t before : ℕ) (vendor : List ℕ) (first : Option (ℕ × ℕ)) → AreSpelled xs → slice_get xs i ≡ Some x
    → is_fit t vendor (offer_of i x) ≡ false → HasFirst xs t vendor (fit_among (take i xs) t vendor) before first
    → HasFirst xs t vendor (fit_among (take (i + 1) xs) t vendor) before first
first_other xs i x t before vendor first spelled here other seen =
    let P : List Offered → Type 0 = λ fs. HasFirst xs t vendor fs before first in
    subst P (sym (none_more xs i x t vendor spelled here other)) seen

-- the place of the one that ends first, at the end
pub first_place : (fit : List Offered) (before : ℕ) (first : Option (ℕ × ℕ)) → IsLeast end_of (ends_by before) fit first → option_map (λ x. x.0) first ≡ option_map (λ o. o.place) (due_of fit before)
first_place fit before first is = go (due_of fit before) is
  where
    go : (o : Option Offered) → IsOffer end_of o first → option_map (λ x. x.0) first ≡ option_map (λ q. q.place) o
    go None e = ap (option_map (λ x. x.0)) e
    go (Some o) e = ap (option_map (λ x. x.0)) e
