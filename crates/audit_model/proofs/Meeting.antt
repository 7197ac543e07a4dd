-- What was handed out is accepted, outstanding or lapsed.
use Rattle.std.proofs.Common.{◌≡◌, ℕ, ◌+◌, ◌≤◌, Bool, true, false, cond, not, ◌&&◌, ◌||◌, List, [], ◌∷◌, refl, sym, ap, ◌∙◌, arith, eqb, ltb, leb}
use Rattle.std.specs.Prelude.{sum_by, filter}
use Rattle.std.specs.List.{list_any}
use Rattle.std.proofs.lemmas.Bool.{eqb-true}
use Rattle.std.proofs.lemmas.Bool.Decides.{nat_tests}
use Rattle.std.proofs.lemmas.List.Sums.{sum_by-cons}
use Rattle.std.proofs.lemmas.List.Elements.{filter_agree}
use Rattle.scrip_form.specs.Scrip.{Scrip}
use Rattle.ledger_model.specs.Histories.{History, time}
use Rattle.ledger_model.specs.Pieces.{accepted, is_spent}
use Rattle.ledger_model.specs.Sums.{values, outstanding, lapsed}
use Rattle.ledger_model.specs.Laws.{with_id, AreDistinct}
use Rattle.ledger_model.proofs.ListLaws.{counts_cons, counts_none}
use Rattle.audit_model.specs.Meets.{AreAmong}
use Rattle.audit_model.proofs.Grouping.{kept-cons, grouped}

-- each identity stands at most once
abbrev pub StandOnce : List Scrip → Type 0
StandOnce pieces = (id : ℕ) → with_id pieces id ≤ 1

abbrev worth : Scrip → ℕ
worth p = p.value

-- ---- accepted or not, ended or not

one_case : (s : Bool) (time ends v : ℕ) → v ≡ cond s v 0 + (cond (not s && ltb time ends) v 0 + cond (not s && leb ends time) v 0)
one_case true time ends v = omega arith
one_case false time ends v = grind (arith, nat_tests)

pub three_parts : (spent : Scrip → Bool) (time : ℕ) (handed : List Scrip)
    → values handed ≡ values (filter spent handed) + (values (filter (λ p. not (spent p) && ltb time p.expires) handed) + values (filter (λ p. not (spent p) && leb p.expires time) handed))
three_parts spent time [] = refl
three_parts spent time (p ∷ ps) =
    let all = sum_by-cons worth p ps in
    let one = one_case (spent p) time p.expires p.value in
    let a = kept-cons worth spent p ps in
    let b = kept-cons worth (λ x. not (spent x) && ltb time x.expires) p ps in
    let c = kept-cons worth (λ x. not (spent x) && leb x.expires time) p ps in
    omega (arith, all, one, a, b, c, three_parts spent time ps)

-- ---- an identity that stands once

none_there : (n v : ℕ) (ps : List Scrip) → with_id ps n ≡ 0
    → (values (filter (λ q. eqb q.id n) ps) ≡ 0) × (list_any (λ q. eqb q.id n && eqb q.value v) ps ≡ false)
none_there n v [] none = (refl, refl)
none_there n v (p ∷ ps) none = go (eqb p.id n) (sym (counts_cons (λ q. eqb q.id n) p ps) ∙ none) (kept-cons worth (λ q. eqb q.id n) p ps) (none_there n v ps)
  where
    go : (b : Bool) → cond b 1 0 + with_id ps n ≡ 0 → values (filter (λ q. eqb q.id n) (p ∷ ps)) ≡ cond b p.value 0 + values (filter (λ q. eqb q.id n) ps)
        → (with_id ps n ≡ 0 → (values (filter (λ q. eqb q.id n) ps) ≡ 0) × (list_any (λ q. eqb q.id n && eqb q.value v) ps ≡ false))
        → (values (filter (λ q. eqb q.id n) (p ∷ ps)) ≡ 0) × (((b && eqb p.value v) || list_any (λ q. eqb q.id n && eqb q.value v) ps) ≡ false)
    go true zero is ih = absurd (omega (arith, zero))
    go false zero is ih = let r = ih (omega (arith, zero)) in (omega (arith, is, r.0), r.1)

this_one : (a b : Bool) → (a || b) ≡ true → b ≡ false → a ≡ true
this_one true b e f = refl
this_one false b e f = absurd cc

only_one : (n v : ℕ) (ps : List Scrip) → with_id ps n ≤ 1 → list_any (λ q. eqb q.id n && eqb q.value v) ps ≡ true → values (filter (λ q. eqb q.id n) ps) ≡ v
only_one n v [] le e = absurd cc
only_one n v (p ∷ ps) le e = go (eqb p.id n) (counts_cons (λ q. eqb q.id n) p ps) (kept-cons worth (λ q. eqb q.id n) p ps) e (only_one n v ps) (none_there n v ps)
  where
    go : (b : Bool) → with_id (p ∷ ps) n ≡ cond b 1 0 + with_id ps n → values (filter (λ q. eqb q.id n) (p ∷ ps)) ≡ cond b p.value 0 + values (filter (λ q. eqb q.id n) ps)
        → ((b && eqb p.value v) || list_any (λ q. eqb q.id n && eqb q.value v) ps) ≡ true
        → (with_id ps n ≤ 1 → list_any (λ q. eqb q.id n && eqb q.value v) ps ≡ true → values (filter (λ q. eqb q.id n) ps) ≡ v)
        → (with_id ps n ≡ 0 → (values (filter (λ q. eqb q.id n) ps) ≡ 0) × (list_any (λ q. eqb q.id n && eqb q.value v) ps ≡ false))
        → values (filter (λ q. eqb q.id n) (p ∷ ps)) ≡ v
    go true count is any ih none =
        let r = none (omega (arith, count, le)) in
        let same = eqb-true p.value v (this_one (eqb p.value v) _ any r.1) in
        omega (arith, is, r.0, same)
    go false count is any ih none = omega (arith, is, ih (omega (arith, count, le)) any)

either_way : (a b : ℕ) → eqb a b ≡ eqb b a
either_way a b = grind (arith, nat_tests)

-- ---- what meets what was handed out

each_met : (handed : List Scrip) → StandOnce handed → (ps : List Scrip) → AreAmong handed ps → sum_by (λ a. values (filter (λ p. eqb a.id p.id) handed)) ps ≡ values ps
each_met handed once [] among = refl
each_met handed once (a ∷ ps) among =
    let turned = ap values (filter_agree (λ p. eqb a.id p.id) (λ p. eqb p.id a.id) (λ p. either_way a.id p.id) handed) in
    let one = only_one a.id a.value handed (once a.id) among.0 in
    let left = sum_by-cons (λ (x : Scrip). values (filter (λ p. eqb x.id p.id) handed)) a ps in
    let right = sum_by-cons worth a ps in
    omega (arith, turned, one, left, right, each_met handed once ps among.1)

-- the spent pieces of what was handed out have the value of what was accepted
pub met : (handed paid : List Scrip) → StandOnce handed → StandOnce paid → AreAmong handed paid → values (filter (λ p. list_any (λ a. eqb a.id p.id) paid) handed) ≡ values paid
met handed paid once paid_once among =
    sym (grouped worth (λ p a. eqb a.id p.id) paid (λ p. paid_once p.id) handed) ∙ each_met handed once paid among

-- what was handed out is accepted, outstanding or lapsed
pub split : (h : History) (handed : List Scrip) → StandOnce handed → StandOnce (accepted h) → AreAmong handed (accepted h)
    → values handed ≡ values (accepted h) + outstanding handed h + lapsed handed h
split h handed once spent_once among =
    let parts = three_parts (λ p. is_spent h p.id) (time h) handed in
    let spent = met handed (accepted h) once spent_once among in
    omega (arith, parts, spent)

-- where no identity stands twice, each stands at most once

pub distinct_once : (ps : List Scrip) → AreDistinct ps → StandOnce ps
distinct_once [] distinct id = omega arith
distinct_once (p ∷ ps) distinct id = go (eqb p.id id) refl (counts_cons (λ q. eqb q.id id) p ps) (distinct_once ps distinct.1 id)
  where
    go : (b : Bool) → eqb p.id id ≡ b → with_id (p ∷ ps) id ≡ cond b 1 0 + with_id ps id → with_id ps id ≤ 1 → with_id (p ∷ ps) id ≤ 1
    go true same is ih =
        let none : with_id ps id ≡ 0 = ap (with_id ps) (sym (eqb-true p.id id same)) ∙ counts_none (λ q. eqb q.id p.id) ps distinct.0 in
        omega (arith, is, none)
    go false same is ih = omega (arith, is, ih)
