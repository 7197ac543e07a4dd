-- The identities of a house's own series are of issuer 0.
use Rattle.std.proofs.Common.{◌≡◌, ℕ, zero, suc, ◌+◌, ◌^◌, ◌<◌, ◌≤◌, [], ◌∷◌, ◌++◌, Option, Some, None, Result, Ok, refl, sym, ap, ◌∙◌, arith, option_map, eqb, unwrap_or}
use Rattle.std.specs.Prelude.{option_to_list}
use Rattle.std.specs.List.{AllByRecursion, cons_option}
use Rattle.std.proofs.lemmas.Nat.{div_below}
use Rattle.std.proofs.lemmas.Option.{same_Some}
use Rattle.scrip_form.specs.Issuing.{Issuing, epoch}
use Rattle.scrip_form.specs.Scrip.{Scrip}
use Rattle.mc_requests.specs.declared.limits.Limits.{Limits}
use Rattle.mc_records.specs.Entry.{House, Entry, Site, AddTerms, Accept, Mint, Draw, Fits, SiteFits}
use Rattle.ledger_model.specs.Histories.{History}
use Rattle.ledger_model.specs.Houses.{terms_of, all_terms, terms_in, own_series}
use Rattle.ledger_model.specs.Pieces.{change_piece, first_hand, drawn_piece, handed_piece, own_out, own_out_from, minted, minted_from, minted_pieces, run_from, own_count}
use Rattle.ledger_model.specs.Lines.{Stop}
use Rattle.ledger_model.specs.Answer.{next_own}
use Rattle.ledger_model.specs.Lawful.{unbounded, draw_request, IsAllowed, AllFollow, IsLawful}
use Rattle.ledger_model.specs.Orders.{Order, order_of}
use Rattle.ledger_model.proofs.ListLaws.{all_append, found_holds}
use Rattle.ledger_model.proofs.AcceptLaws.{accept_change, accept_through}
use Rattle.ledger_model.proofs.SerialLaws.{needed_next, next_is, change_id}
use Rattle.ledger_model.proofs.TakenLaws.{taken_draw}

all_given : {X : Type 0} (P : X → Type 0) (o : Option X) → ((x : X) → o ≡ Some x → P x) → AllByRecursion P (option_to_list o)
all_given P None all = tt
all_given P (Some x) all = (all x refl, tt)

-- ---- periods

abbrev HasLong : Issuing → Type 0
HasLong t = 2048 ≤ t.period

abbrev LongWhere : Option Issuing → Type 0
LongWhere None = Unit {0}
LongWhere (Some t) = HasLong t

site_long : (kind : ℕ) (o : Option House) → SiteFits kind o → LongWhere (option_map (λ x. x.terms) o)
site_long kind None fits = tt
site_long zero (Some h) fits = fits.terms.period.least
site_long (suc zero) (Some h) fits = fits.terms.period.least
site_long (suc (suc zero)) (Some h) fits = absurd fits
site_long (suc (suc (suc k))) (Some h) fits = absurd fits

entry_long : (e : Entry) → Fits e → LongWhere (terms_of e)
entry_long (Site m kind name house) fits = site_long kind house fits.house
entry_long (AddTerms m terms) fits = fits.terms.period.least
entry_long e fits = tt

all_long : (h : History) → AllByRecursion Fits h → AllByRecursion HasLong (all_terms h)
all_long [] fits = tt
all_long (e ∷ es) fits = go (terms_of e) (entry_long e fits.0) (all_long es fits.1)
  where
    go : (o : Option Issuing) → LongWhere o → AllByRecursion HasLong (all_terms es) → AllByRecursion HasLong (cons_option o (all_terms es))
    go None long rest = rest
    go (Some t) long rest = (long, rest)

-- ---- own series

-- a series that is told by a moment in range is below 2^24, where the periods are in range
pub own_series_below : (h : History) (m : ℕ) → AllByRecursion Fits h → m < 2 ^ 35 → own_series h m < 2 ^ 24
own_series_below h m fits lt = go (terms_in h 0) (λ t is. found_holds HasLong (λ x. eqb x.issuer 0) (all_terms h) t (all_long h fits) is)
  where
    go : (o : Option Issuing) → ((t : Issuing) → o ≡ Some t → HasLong t) → unwrap_or (option_map (λ t. epoch t m) o) 0 < 2 ^ 24
    go None long = omega arith
    go (Some t) long = let p = long t refl in div_below m t.period (2 ^ 24) (omega (arith, p)) (omega (arith, p, lt))

abbrev IsOwn : Scrip → Type 0
IsOwn p = p.id < 2 ^ 56

run_below : (before : History) (value first n : ℕ) → first + n ≤ 2 ^ 56 → AllByRecursion IsOwn (run_from before value first n)
run_below before value first zero le = tt
run_below before value first (suc n) le = (omega (arith, le), run_below before value (first + 1) n (omega (arith, le)))

change_below : (limits : Limits) (h : History) (e : Entry) → limits.series ≤ 2 ^ 32 → AllByRecursion Fits h → Fits e → IsAllowed limits h e → AllByRecursion IsOwn (option_to_list (handed_piece h e))
change_below limits h (Accept m scrip target sign price None deed) le fits fit allowed = tt
change_below limits h (Accept m scrip target sign price (Some id) deed) le fits fit allowed =
    let x = accept_through limits h m scrip target sign price (Some id) deed allowed in
    let change_is : x.change ≡ Some id = ap accept_change x.is in
    let needs = x.is_change ∙ ap ok_option change_is in
    let next = next_is limits.series (own_series h m) (own_count h (own_series h m)) id (needed_next _ (next_own h m (unbounded limits)) id needs) in
    let small = own_series_below h m fits fit.moment in
    all_given IsOwn (change_piece h (Accept m scrip target sign price (Some id) deed))
    (λ p is. let same = change_id h m scrip target sign price id deed p is in omega (arith, same, next.0, next.1, small, le))
  where
    ok_option : Option ℕ → Result (Option ℕ) Stop
    ok_option o = Ok o
change_below limits h (Draw m target sign drawn) le fits fit allowed =
    let d = taken_draw h m (unbounded limits) (draw_request target sign) m target sign drawn allowed in
    let small = own_series_below h m fits fit.moment in
    all_given IsOwn (drawn_piece h drawn (order_of target)) (λ p is. let same = drawn_id (order_of target) p is in omega (arith, same, d.next, d.room, small, le))
  where
    drawn_id : (o : Option Order) (p : Scrip) → drawn_piece h drawn o ≡ Some p → p.id ≡ drawn
    drawn_id None p e = absurd cc
    drawn_id (Some o) p e = let is = same_Some (first_hand h o.amount drawn) p e in sym (ap (λ (s : Scrip). s.id) is)
change_below limits h e le fits fit allowed = tt

minted_below : (limits : Limits) (h : History) (e : Entry) → limits.series ≤ 2 ^ 32 → AllByRecursion Fits h → Fits e → IsAllowed limits h e → AllByRecursion IsOwn (minted_pieces h e)
minted_below limits h (Mint m reference count value first) le fits fit allowed =
    let small = own_series_below h m fits fit.moment in
    let room = allowed.3 in
    let next = allowed.2 in
    run_below h value first count (omega (arith, small, room, next, le))
minted_below limits h e le fits fit allowed = tt

below_from : (limits : Limits) (before es : History) → limits.series ≤ 2 ^ 32 → AllByRecursion Fits before → AllByRecursion Fits es → AllFollow limits before es
    → AllByRecursion IsOwn (own_out_from before es) × AllByRecursion IsOwn (minted_from before es)
below_from limits before [] le before_fits fits follow = (tt, tt)
below_from limits before (e ∷ es) le before_fits fits follow =
    let more = below_from limits (before ++ e ∷ []) es le (all_append Fits before (e ∷ []) before_fits (fits.0, tt)) fits.1 follow.1 in (
      all_append IsOwn (option_to_list (handed_piece before e)) _ (change_below limits before e le before_fits fits.0 follow.0.allowed) more.0,
      all_append IsOwn (minted_pieces before e) _ (minted_below limits before e le before_fits fits.0 follow.0.allowed) more.1,
    )

-- the pieces that a lawful history hands out and mints in the house's own series are of issuer 0
pub own_below : (limits : Limits) (h : History) → limits.series ≤ 2 ^ 32 → IsLawful limits h → AllByRecursion Fits h
    → AllByRecursion IsOwn (own_out h) × AllByRecursion IsOwn (minted h)
own_below limits [] le lawful fits = absurd lawful
own_below limits (e ∷ es) le lawful fits = below_from limits [] (e ∷ es) le tt fits lawful
