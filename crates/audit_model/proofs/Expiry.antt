-- What leaves outstanding by expiry enters lapsed.
use Rattle.std.proofs.Common.{◌≡◌, ℕ, ◌+◌, ◌≤◌, Bool, true, false, cond, not, ◌&&◌, List, [], ◌∷◌, ◌++◌, Option, None, ap, ◌∙◌, append-nil, arith, eqb, leb}
use Rattle.std.specs.Prelude.{filter}
use Rattle.std.specs.List.{list_any, cons_option}
use Rattle.std.proofs.lemmas.Bool.Decides.{nat_tests}
use Rattle.scrip_form.specs.Scrip.{Scrip}
use Rattle.mc_records.specs.Entry.{Entry}
use Rattle.ledger_model.specs.Histories.{History, time}
use Rattle.ledger_model.specs.Pieces.{accepted, accepted_piece, is_spent}
use Rattle.ledger_model.specs.Sums.{values, outstanding, lapsed}
use Rattle.ledger_model.proofs.AcceptLaws.{accepted_snoc}
use Rattle.audit_model.proofs.Grouping.{kept-cons}
use Rattle.audit_model.proofs.Meeting.{three_parts}

nothing_more : (h : History) (e : Entry) → accepted_piece e ≡ None → accepted (h ++ e ∷ []) ≡ accepted h
nothing_more h e none = accepted_snoc h e ∙ ap (λ (o : Option Scrip). accepted h ++ cons_option o []) none ∙ append-nil (accepted h)

time_grows : (h : History) (e : Entry) → time h ≤ time (h ++ e ∷ [])
time_grows [] e = omega arith
time_grows (x ∷ xs) e = let ih = time_grows xs e in omega (arith, ih)

abbrev spent_of : List Scrip → Scrip → Bool
spent_of paid p = list_any (λ a. eqb a.id p.id) paid

abbrev lapsed_by : List Scrip → ℕ → List Scrip → ℕ
lapsed_by paid t handed = values (filter (λ p. not (spent_of paid p) && leb p.expires t) handed)

pub value_stays : (h : History) (e : Entry) (handed : List Scrip) → accepted_piece e ≡ None
    → outstanding handed (h ++ e ∷ []) + lapsed handed (h ++ e ∷ []) ≡ outstanding handed h + lapsed handed h
value_stays h e handed none =
    let before = three_parts (λ p. is_spent h p.id) (time h) handed in
    let after = three_parts (λ p. is_spent (h ++ e ∷ []) p.id) (time (h ++ e ∷ [])) handed in
    let same = ap (λ (paid : List Scrip). values (filter (spent_of paid) handed)) (nothing_more h e none) in
    omega (arith, before, after, same)

one_grows : (s : Bool) (ends v t u : ℕ) → t ≤ u → cond (not s && leb ends t) v 0 ≤ cond (not s && leb ends u) v 0
one_grows true ends v t u le = omega arith
one_grows false ends v t u le = grind (arith, nat_tests, le)

by_grows : (paid : List Scrip) (t u : ℕ) (handed : List Scrip) → t ≤ u → lapsed_by paid t handed ≤ lapsed_by paid u handed
by_grows paid t u [] le = omega arith
by_grows paid t u (p ∷ ps) le =
    let a = kept-cons (λ (x : Scrip). x.value) (λ x. not (spent_of paid x) && leb x.expires t) p ps in
    let b = kept-cons (λ (x : Scrip). x.value) (λ x. not (spent_of paid x) && leb x.expires u) p ps in
    let one = one_grows (spent_of paid p) p.expires p.value t u le in
    omega (arith, a, b, one, by_grows paid t u ps le)

pub lapsed_grows : (h : History) (e : Entry) (handed : List Scrip) → accepted_piece e ≡ None → lapsed handed h ≤ lapsed handed (h ++ e ∷ [])
lapsed_grows h e handed none =
    let more = by_grows (accepted h) (time h) (time (h ++ e ∷ [])) handed (time_grows h e) in
    let same = ap (λ (paid : List Scrip). lapsed_by paid (time (h ++ e ∷ [])) handed) (nothing_more h e none) in
    omega (arith, more, same)
