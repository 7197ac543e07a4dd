-- What a wallet enters in a schedule is in the ranges of its entry.
use Rattle.std.proofs.Common.{◌≡◌, ℕ, ◌+◌, ◌<◌, ◌≤◌, ◌^◌, Bool, true, false, cond, List, [], ◌∷◌, ◌++◌, length, map, Option, Some, None, Result, Ok, Err, refl, sym, subst, arith, filter, slice_get, option_map, unwrap_or}
use Rattle.std.specs.Prelude.{◌==◌, ◌&&◌, not, nat_le, option_to_list, filter_map, IfSome, replicate}
use Rattle.std.specs.List.{AllByRecursion, enumerate_from, cons_option}
use Rattle.std.proofs.lemmas.Option.{option_and_then_some}
use Rattle.scrip_form.specs.Texts.{IsName, IsTarget}
use Rattle.scrip_form.specs.Scrip.{Scrip, IsScripText}
use Rattle.mc_requests.specs.declared.limits.Limits.{Limits}
use Rattle.mc_requests.specs.declared.limits.TheConstants.Limits.{MOST_JOURNAL}
use Rattle.mc_requests.specs.declared.refusal.Refusal.{Refusal}
use Rattle.mc_requests.specs.declared.refusal.Refusal.TheVariants.{BadReply, Unproved}
use Rattle.mc_requests.specs.Errands as errands
use Rattle.mc_requests.specs.Errands.{errand_text}
use Rattle.mc_requests.proofs.TargetLaws.{errand_is_target}
use Rattle.mc_records.specs.Entry.{Held, HeldFits, Entry, Site, Got, Pend, Done, IsKey, Fits, moment_of}
use Rattle.mc_records.specs.Following.{AllFollowBy}
use Rattle.mc_records.specs.Sizes.{size_from}
use Rattle.ledger_model.specs.Histories.{History, time}
use Rattle.ledger_model.specs.Answer.{fitted}
use Rattle.ledger_model.specs.Pieces.{piece_of}
use Rattle.ledger_model.proofs.TableLaws.{fitted_ok}
use Rattle.ledger_model.proofs.ListLaws.{all_append}
use Rattle.millicent_http.specs.Received.{Received}
use Rattle.wallet_model.specs.Requests.{Pending, pending_of, pending_in}
use Rattle.wallet_model.specs.Holdings.{Holding, holding, holdings, brings, change_held, secret_at, pieces_came}
use Rattle.wallet_model.specs.Asks.{Offered, offered_at, is_fit, fit_for, chosen, Asking, get, buy, draw, paid_with, pend_entry}
use Rattle.wallet_model.specs.Settling.{fits_request, is_proved, check_of}
use Rattle.wallet_model.specs.Laws.{CanAsk}
use Rattle.wallet_model.proofs.PieceLaws.{pieces_more}
use Rattle.wallet_model.proofs.WrittenLaws.{filtered_all, chosen_one}
use Rattle.world_model.specs.Worlds.{CanBeAsked}
use Rattle.world_model.proofs.Lists.{all_get, grown}

-- ---- moments

pub fits_moment : (e : Entry) → Fits e → moment_of e < 2 ^ 35
fits_moment (Site m kind name house) f = f.moment
fits_moment e f = f.moment

pub fits_time : (h : History) → AllByRecursion Fits h → time h < 2 ^ 35
fits_time [] all = omega arith
fits_time (e ∷ es) all = omega (arith, fits_moment e all.0, fits_time es all.1)

-- ---- numbers

length_below : (before es : History) → length es ≤ size_from before es
length_below before [] = omega arith
length_below before (e ∷ es) = omega (arith, length_below (before ++ e ∷ []) es)

pub number_is_long : (h : History) (n : ℕ) (limits : Limits) (e : Entry) → n < length h → limits.journal ≤ MOST_JOURNAL → fitted h limits e ≡ Ok e → n < 2 ^ 64
number_is_long h n limits e below small room =
    let most = (fitted_ok h limits e e room).1 in
    let long = length_below [] h in
    omega (arith, below, small, most, long)

-- ---- pieces

request_key : (e : Entry) (p : Pending) → Fits e → pending_of e ≡ Some p → IsKey p.secret
request_key (Pend m ask peer target scrip secret) p fits is =
    let request : Pending = record { ask = ask; peer = peer; target = target; scrip = scrip; secret = secret } in
    let same : request ≡ p = cc in
    subst (λ (q : Pending). IsKey q.secret) same fits.secret
request_key e p fits is = absurd cc

pub pending_key : (h : History) (n : ℕ) (p : Pending) → AllByRecursion Fits h → pending_in h n ≡ Some p → IsKey p.secret
pending_key h n p all is = option_and_then_some pending_of (slice_get h n) p is (λ e at of. request_key e p (all_get Fits h n e all at) of)

secret_key : (h : History) (n : ℕ) → AllByRecursion Fits h → IsKey (secret_at h n)
secret_key h n all = go (pending_in h n) refl
  where
    go : (o : Option Pending) → pending_in h n ≡ o → IsKey (unwrap_or (option_map (λ p. p.secret) o) (replicate 16 0))
    go None is = refl
    go (Some p) is = pending_key h n p all is

change_fits : (h : History) (n : ℕ) (change : Option (List ℕ)) → AllByRecursion Fits h → IfSome change IsScripText → AllByRecursion HeldFits (option_to_list (option_map (change_held h n) change))
change_fits h n None all text = tt
change_fits h n (Some t) all text = (record { text = text; secret = secret_key h n all }, tt)

got_fits : (got : Option Held) → IfSome got HeldFits → AllByRecursion HeldFits (option_to_list got)
got_fits None fits = tt
got_fits (Some p) fits = (fits, tt)

brings_fit : (h : History) (e : Entry) → AllByRecursion Fits h → Fits e → AllByRecursion HeldFits (brings h e)
brings_fit h (Got m pieces) all fits = fits.pieces.held
brings_fit h (Done m n price change got) all fits =
    all_append HeldFits (option_to_list (option_map (change_held h n) change)) (option_to_list got) (change_fits h n change all fits.change) (got_fits got fits.got)
brings_fit h e all fits = tt

record HasHeld (h : History) : Type 0 where
  fits : AllByRecursion Fits h
  held : AllByRecursion HeldFits (pieces_came h)

held_step : (h : History) (e : Entry) → HasHeld h → Fits e → HasHeld (h ++ e ∷ [])
held_step h e before fits = record {
  fits = all_append Fits h (e ∷ []) before.fits (fits, tt);
  held = subst (AllByRecursion HeldFits) (sym (pieces_more h e)) (all_append HeldFits (pieces_came h) (brings h e) before.held (brings_fit h e before.fits fits));
}

all_follow : (before es : History) → AllByRecursion Fits es → AllFollowBy (λ h e. Fits e) before es
all_follow before [] all = tt
all_follow before (e ∷ es) all = (all.0, all_follow (before ++ e ∷ []) es all.1)

pub pieces_fit : (h : History) → AllByRecursion Fits h → AllByRecursion HeldFits (pieces_came h)
pieces_fit h all = (grown HasHeld (λ h e. Fits e) held_step [] h (record { fits = tt; held = tt }) (all_follow [] h all)).held

-- ---- what is asked

HoldingFits : Holding → Type 0
HoldingFits x = HeldFits (record { text = x.text; secret = x.secret })

holdings_fit : (h : History) (ps : List Held) → AllByRecursion HeldFits ps → AllByRecursion HoldingFits (map (holding h) ps)
unfolding HoldingFits
holdings_fit h [] all = tt
holdings_fit h (p ∷ ps) all = (all.0, holdings_fit h ps all.1)

offered_fit : (n : ℕ) (xs : List Holding) → AllByRecursion HoldingFits xs → AllByRecursion (λ o. HoldingFits o.holding) (filter_map offered_at (enumerate_from n xs))
offered_fit n [] all = tt
offered_fit n (x ∷ xs) all = go (piece_of x.text) (offered_fit (n + 1) xs all.1)
  where
    go : (o : Option Scrip) → AllByRecursion (λ o. HoldingFits o.holding) (filter_map offered_at (enumerate_from (n + 1) xs))
        → AllByRecursion (λ o. HoldingFits o.holding) (cons_option (option_map (λ p. record { place = n; holding = x; piece = p }) o) (filter_map offered_at (enumerate_from (n + 1) xs)))
    go None rest = rest
    go (Some p) rest = (all.0, rest)

chosen_fits : (h : History) (t : ℕ) (vendor : List ℕ) (limit : ℕ) (o : Offered) → AllByRecursion HoldingFits (holdings h) → chosen h t vendor limit ≡ Ok o → HoldingFits o.holding
chosen_fits h t vendor limit o all is =
    chosen_one (λ x. HoldingFits x.holding) (fit_for h t vendor) (filter (λ x. nat_le limit x.piece.value) (fit_for h t vendor)) o
    (filtered_all (λ x. HoldingFits x.holding) (λ x. nat_le limit x.piece.value) (fit_for h t vendor)
    (filtered_all (λ x. HoldingFits x.holding) (is_fit t vendor) (filter_map offered_at (enumerate_from 0 (holdings h))) (offered_fit 0 (holdings h) all))) is

paid_fits : (t ask : ℕ) (peer target : List ℕ) (r : Result Offered Refusal) (e : Entry) → t < 2 ^ 35 → ask < 3 → IsName peer → IsTarget target
    → ((o : Offered) → r ≡ Ok o → HoldingFits o.holding) → paid_with t ask peer target r ≡ Ok e → Fits e
unfolding HoldingFits
paid_fits t ask peer target (Err f) e moment kind name here fits is = absurd cc
paid_fits t ask peer target (Ok o) e moment kind name here fits is =
    let made : Entry = Pend t ask peer target (Some o.holding.text) o.holding.secret in
    let same : made ≡ e = cc in
    let held : HeldFits (record { text = o.holding.text; secret = o.holding.secret }) = fits o refl in
    subst Fits same (record { moment = moment; ask = kind; peer = name; target = here; scrip = held.text; secret = held.secret })

pub pend_fits : (h : History) (t : ℕ) (a : Asking) (e : Entry) → AllByRecursion Fits h → t < 2 ^ 35 → CanBeAsked a → pend_entry h t a ≡ Ok e → Fits e
pend_fits h t (get vendor target limit) e all moment can is =
    paid_fits t 0 vendor target (chosen h t vendor limit) e moment (omega arith) can.0 can.1 (λ o at. chosen_fits h t vendor limit o (holdings_fit h (pieces_came h) (pieces_fit h all)) at) is
pend_fits h t (buy broker vendor amount limit) e all moment can is =
    paid_fits t 1 broker (errand_text (errands.buy vendor amount)) (chosen h t broker limit) e moment (omega arith) can.0 (errand_is_target (errands.buy vendor amount) can.1)
    (λ o at. chosen_fits h t broker limit o (holdings_fit h (pieces_came h) (pieces_fit h all)) at) is
pend_fits h t (draw broker account key order amount) e all moment can is =
    let made : Entry = Pend t 2 broker (errand_text (errands.draw account order amount)) None key in
    let same : made ≡ e = cc in
    let fits : Fits made = record { moment = moment; ask = omega arith; peer = can.0; target = errand_is_target (errands.draw account order amount) can.2; scrip = tt; secret = can.1 } in
    subst Fits same fits

pub can_ask : (a : Asking) → CanBeAsked a → CanAsk a
can_ask (get vendor target limit) can = tt
can_ask (buy broker vendor amount limit) can = can.1
can_ask (draw broker account key order amount) can = can.2

-- ---- what settles

pub proved_of : (p : Pending) (r : Received) → check_of p r ≡ None → is_proved p r ≡ true
unfolding check_of
proved_of p r checked = go (r.status == 200 && not (fits_request p r)) (is_proved p r) checked
  where
    go : (a b : Bool) → cond a (Some BadReply) (cond (not b) (Some Unproved) None) ≡ None → b ≡ true
    go true b e = absurd cc
    go false true e = refl
    go false false e = absurd cc
