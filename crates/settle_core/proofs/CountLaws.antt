-- What is redeemed of a series is at most what all its pieces may be worth.
use Rattle.std.proofs.Common.{◌≡◌, ℕ, zero, suc, ◌+◌, ◌*◌, ◌/◌, ◌%◌, ◌^◌, ◌<◌, ◌≤◌, Bool, true, false, cond, not, List, [], ◌∷◌, length, Option, Some, None, Result, Ok, Err, refl, subst, arith, eqb, option_map, inl, inr}
use Rattle.std.specs.Prelude.{filter}
use Rattle.std.specs.List.{cons_option, AllByRecursion}
use Rattle.std.specs.Result.{result_ok}
use Rattle.std.proofs.lemmas.Bool.{eqb-true, eq-eqb, cases_lt, and_parts}
use Rattle.std.proofs.lemmas.Option.{same_Some}
use Rattle.std.proofs.lemmas.List.Sums.{sum_by-cons, length-filter}
use Rattle.std.proofs.lemmas.List.Filters.{length-filter_both}
use Rattle.scrip_form.specs.Identities.{issuer_of, epoch_of}
use Rattle.scrip_form.specs.Scrip.{Scrip}
use Rattle.scrip_form.specs.Reading.{scrip_of}
use Rattle.scrip_form.specs.Told.{IsTold}
use Rattle.scrip_form.proofs.Laws.{scrip_of_tells}
use Rattle.mc_requests.specs.declared.limits.Limits.{Limits}
use Rattle.mc_records.specs.Entry.{Entry, Accept}
use Rattle.ledger_model.specs.Histories.{History}
use Rattle.ledger_model.specs.Pieces.{piece_of, accepted, accepted_piece}
use Rattle.ledger_model.specs.Sums.{values}
use Rattle.ledger_model.specs.Lawful.{IsLawful}
use Rattle.ledger_model.specs.Laws.{with_id}
use Rattle.ledger_model.proofs.ListLaws.{counts_cons, all_weaker}
use Rattle.ledger_model.proofs.AcceptLaws.{accepted_once}
use Rattle.audit_model.proofs.Meeting.{StandOnce, distinct_once}
use Rattle.settle_core.specs.Settlement.{is_of_series, redeemed}

-- ---- parts of some pieces

pub kept_fewer : (test : Scrip → Bool) (id : ℕ) (ps : List Scrip) → with_id (filter test ps) id ≤ with_id ps id
kept_fewer test id [] = omega arith
kept_fewer test id (p ∷ ps) = go (test p) (counts_cons (λ q. eqb q.id id) p ps) (counts_cons (λ q. eqb q.id id) p (filter test ps)) (kept_fewer test id ps)
  where
    go : (b : Bool) → with_id (p ∷ ps) id ≡ cond (eqb p.id id) 1 0 + with_id ps id → with_id (p ∷ filter test ps) id ≡ cond (eqb p.id id) 1 0 + with_id (filter test ps) id
        → with_id (filter test ps) id ≤ with_id ps id → with_id (cond b (p ∷ filter test ps) (filter test ps)) id ≤ with_id (p ∷ ps) id
    go true all some ih = omega (arith, all, some, ih)
    go false all some ih = omega (arith, all, ih)

pub kept_once : (test : Scrip → Bool) (ps : List Scrip) → StandOnce ps → StandOnce (filter test ps)
kept_once test ps once id = let fewer = kept_fewer test id ps in let one = once id in omega (arith, fewer, one)

pub kept_hold : (P : Scrip → Type 0) (test : Scrip → Bool) (ps : List Scrip) → AllByRecursion P ps → AllByRecursion (λ p. (test p ≡ true) × P p) (filter test ps)
kept_hold P test [] all = tt
kept_hold P test (p ∷ ps) all = go (test p) refl (kept_hold P test ps all.1)
  where
    go : (b : Bool) → test p ≡ b → AllByRecursion (λ q. (test q ≡ true) × P q) (filter test ps) → AllByRecursion (λ q. (test q ≡ true) × P q) (cond b (p ∷ filter test ps) (filter test ps))
    go true is ih = ((is, all.0), ih)
    go false is ih = ih

-- ---- so many identities, so many pieces

abbrev IsBetween : ℕ → ℕ → Scrip → Type 0
IsBetween a n p = (a ≤ p.id) × (p.id < a + n)

further : (a n : ℕ) (p : Scrip) → (not (eqb p.id a) ≡ true) × IsBetween a (suc n) p → IsBetween (suc a) n p
further a n p x =
    let other : p.id ≡ a → ⊥ = λ same. differs (eqb p.id a) (eq-eqb p.id a same) x.0 in
    let least = x.1.0 in
    (elim (cases_lt a p.id) [ inl lt ↦ lt | inr ge ↦ absurd (other (omega (arith, least, ge))) ], omega (arith, x.1.1))
  where
    differs : (b : Bool) → b ≡ true → not b ≡ true → ⊥
    differs true e f = absurd cc
    differs false e f = absurd cc

pub few : (n a : ℕ) (ps : List Scrip) → StandOnce ps → AllByRecursion (IsBetween a n) ps → length ps ≤ n
few zero a [] once all = omega arith
few zero a (p ∷ ps) once all = absurd (omega (arith, all.0.0, all.0.1))
few (suc n) a ps once all =
    let rest = filter (λ p. not (eqb p.id a)) ps in
    let parts = length-filter_both (λ (p : Scrip). eqb p.id a) (λ p. not (eqb p.id a)) (λ p. refl) ps in
    let here = length-filter (λ (p : Scrip). eqb p.id a) ps in
    let one = once a in
    let more = few n (suc a) rest (kept_once (λ p. not (eqb p.id a)) ps once) (all_weaker (λ p. (not (eqb p.id a) ≡ true) × IsBetween a (suc n) p) (IsBetween (suc a) n) (further a n) rest (kept_hold (IsBetween a (suc n)) (λ p. not (eqb p.id a)) ps all)) in
    omega (arith, parts, here, one, more)

-- ---- values

worth_most : (ps : List Scrip) → AllByRecursion (λ p. p.value ≤ 2 ^ 40) ps → values ps ≤ 2 ^ 40 * length ps
worth_most [] all = omega arith
worth_most (p ∷ ps) all = let is = sum_by-cons (λ (q : Scrip). q.value) p ps in omega (arith, is, all.0, worth_most ps all.1)

-- the piece of a scrip text is worth at most 2^40
text_worth : (text : List ℕ) (p : Scrip) → piece_of text ≡ Some p → p.value ≤ 2 ^ 40
text_worth text p is = go (scrip_of text) (scrip_of_tells text) is
  where
    go : (r : Result (Scrip × List ℕ) ℕ) → IsTold text r → option_map (λ x. x.0) (result_ok r) ≡ Some p → p.value ≤ 2 ^ 40
    go (Err left) told e = absurd cc
    go (Ok x) told e = let same = same_Some x.0 p e in subst (λ (q : Scrip). q.value ≤ 2 ^ 40) same told.is_piece.most

entry_worth : (e : Entry) (p : Scrip) → accepted_piece e ≡ Some p → p.value ≤ 2 ^ 40
entry_worth (Accept m scrip target sign price change deed) p is = text_worth scrip p is
entry_worth e p is = absurd cc

accepted_worth : (h : History) → AllByRecursion (λ p. p.value ≤ 2 ^ 40) (accepted h)
accepted_worth [] = tt
accepted_worth (e ∷ es) = go (accepted_piece e) (entry_worth e) (accepted_worth es)
  where
    go : (o : Option Scrip) → ((p : Scrip) → o ≡ Some p → p.value ≤ 2 ^ 40) → AllByRecursion (λ p. p.value ≤ 2 ^ 40) (accepted es) → AllByRecursion (λ p. p.value ≤ 2 ^ 40) (cons_option o (accepted es))
    go None one rest = rest
    go (Some p) one rest = (one p refl, rest)

-- ---- a series

between : (issuer epoch : ℕ) (p : Scrip) → (is_of_series issuer epoch p.id ≡ true) × (p.value ≤ 2 ^ 40) → IsBetween (issuer * 2 ^ 56 + epoch * 2 ^ 32) (2 ^ 32) p
between issuer epoch p x =
    let parts = and_parts (eqb (issuer_of p.id) issuer) (eqb (epoch_of p.id) epoch) x.0 in
    let i : p.id / 2 ^ 56 ≡ issuer = eqb-true (issuer_of p.id) issuer parts.0 in
    let e : p.id / 2 ^ 32 % 2 ^ 24 ≡ epoch = eqb-true (epoch_of p.id) epoch parts.1 in
    (omega (arith, i, e), omega (arith, i, e))

pub redeemed_most : (limits : Limits) (h : History) (issuer epoch : ℕ) → IsLawful limits h → redeemed h issuer epoch ≤ 2 ^ 72
redeemed_most limits h issuer epoch lawful =
    let test : Scrip → Bool = λ p. is_of_series issuer epoch p.id in
    let paid = filter test (accepted h) in
    let once = kept_once test (accepted h) (distinct_once (accepted h) (accepted_once limits h lawful)) in
    let hold = kept_hold (λ p. p.value ≤ 2 ^ 40) test (accepted h) (accepted_worth h) in
    let count = few (2 ^ 32) (issuer * 2 ^ 56 + epoch * 2 ^ 32) paid once (all_weaker (λ p. (test p ≡ true) × (p.value ≤ 2 ^ 40)) (IsBetween (issuer * 2 ^ 56 + epoch * 2 ^ 32) (2 ^ 32)) (between issuer epoch) paid hold) in
    let most = worth_most paid (all_weaker (λ p. (test p ≡ true) × (p.value ≤ 2 ^ 40)) (λ p. p.value ≤ 2 ^ 40) (λ p x. x.1) paid hold) in
    omega (arith, count, most)

-- ---- any history

-- whatever stands in a history, no sum is above 2^40 for each entry
pub redeemed_small : (h : History) (issuer epoch : ℕ) → redeemed h issuer epoch ≤ 2 ^ 40 * length h
redeemed_small h issuer epoch =
    let test : Scrip → Bool = λ p. is_of_series issuer epoch p.id in
    let hold = kept_hold (λ p. p.value ≤ 2 ^ 40) test (accepted h) (accepted_worth h) in
    let most = worth_most (filter test (accepted h)) (all_weaker (λ p. (test p ≡ true) × (p.value ≤ 2 ^ 40)) (λ p. p.value ≤ 2 ^ 40) (λ p x. x.1) (filter test (accepted h)) hold) in
    let fewer = length-filter_both test (λ p. not (test p)) (λ p. refl) (accepted h) in
    let few = accepted_few h in
    omega (arith, most, fewer, few)
  where
    accepted_few : (h : History) → length (accepted h) ≤ length h
    accepted_few [] = omega arith
    accepted_few (e ∷ es) = go (accepted_piece e) (accepted_few es)
      where
        go : (o : Option Scrip) → length (accepted es) ≤ length es → length (cons_option o (accepted es)) ≤ suc (length es)
        go None ih = omega (arith, ih)
        go (Some p) ih = omega (arith, ih)
