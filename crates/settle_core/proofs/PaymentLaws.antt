-- No series is paid twice, and no payments pass what was sold under the licence.
use Rattle.std.proofs.Common.{◌≡◌, ℕ, ◌+◌, ◌≤◌, Bool, true, false, cond, ◌||◌, List, [], ◌∷◌, ◌++◌, Option, Some, None, refl, sym, ap, subst, ◌∙◌, append-nil, arith, bytes_eq, eqb, count_by, find, option_map}
use Rattle.std.specs.Prelude.{filter, sum_by}
use Rattle.std.specs.List.{list_any, cons_option}
use Rattle.std.proofs.lemmas.Bool.{eqb-true, and_parts}
use Rattle.std.proofs.lemmas.Slice.Eq.{bytes_eq-Decides}
use Rattle.std.proofs.lemmas.List.Elements.{filter-append, filter_map-append}
use Rattle.std.proofs.lemmas.List.Sums.{sum_by-append, sum_by-cons}
use Rattle.mc_records.specs.Entry.{Entry, moment_of}
use Rattle.ledger_model.specs.Histories.{History}
use Rattle.ledger_model.proofs.ListLaws.{counts_cons, counts_append, counts_none}
use Rattle.settle_core.specs.declared.claim.Payment.{Payment}
use Rattle.settle_core.specs.Settlement.{paid_by, payments, is_for, is_paid_for, sold_under, PaidInOrder, IsInOrder, AreInOrder}
use Rattle.settle_core.specs.Orders.{PaymentsKeep}
use Rattle.settle_core.proofs.Walks.{walk_by, sold_grows, paid_in_order}

-- where nothing was found, nothing passes
none_any : {X Y : Type 0} (f : X → Y) (test : X → Bool) (xs : List X) → option_map f (find test xs) ≡ None → list_any test xs ≡ false
none_any f test [] e = refl
none_any {X = X} f test (x ∷ xs) e = go (test x) e (none_any f test xs)
  where
    some : X → Option X
    some y = Some y

    go : (b : Bool) → option_map f (cond b (some x) (find test xs)) ≡ None → (option_map f (find test xs) ≡ None → list_any test xs ≡ false) → (b || list_any test xs) ≡ false
    go true e ih = absurd cc
    go false e ih = ih e

abbrev amount_of : Payment → ℕ
amount_of p = p.claim.amount

-- what more there is of the payments for a series
settled_append : (test : Payment → Bool) (xs ys : List Payment) → sum_by amount_of (filter test (xs ++ ys)) ≡ sum_by amount_of (filter test xs) + sum_by amount_of (filter test ys)
settled_append test xs ys = ap (sum_by amount_of) (filter-append test xs ys) ∙ sum_by-append amount_of (filter test xs) (filter test ys)

none_kept : (test : Payment → Bool) (xs : List Payment) → list_any test xs ≡ false → sum_by amount_of (filter test xs) ≡ 0
none_kept test [] none = refl
none_kept test (x ∷ xs) none = go (test x) none (none_kept test xs)
  where
    go : (b : Bool) → (b || list_any test xs) ≡ false → (list_any test xs ≡ false → sum_by amount_of (filter test xs) ≡ 0) → sum_by amount_of (cond b (x ∷ filter test xs) (filter test xs)) ≡ 0
    go true e ih = absurd cc
    go false e ih = ih e

-- a payment for a series is of this vendor, issuer and epoch
pub record Names (vendor : List ℕ) (issuer epoch : ℕ) (p : Payment) : Type 0 where
  pub vendor' : p.vendor ≡ vendor
  pub issuer' : p.claim.issuer ≡ issuer
  pub epoch' : p.claim.epoch ≡ epoch

pub names : (vendor : List ℕ) (issuer epoch : ℕ) (p : Payment) → is_paid_for vendor issuer epoch p ≡ true → Names vendor issuer epoch p
names vendor issuer epoch p is =
    let a = and_parts (bytes_eq p.vendor vendor) (is_for issuer epoch p.claim) is in
    let b = and_parts (eqb p.claim.issuer issuer) (eqb p.claim.epoch epoch) a.1 in
    record { vendor' = (bytes_eq-Decides p.vendor vendor).0 a.0; issuer' = eqb-true p.claim.issuer issuer b.0; epoch' = eqb-true p.claim.epoch epoch b.1 }

-- what holds of a payment's own series holds of the series that it names
record Fresh (h : History) (amount : ℕ) (vendor : List ℕ) (issuer epoch : ℕ) : Type 0 where
  first : list_any (is_paid_for vendor issuer epoch) (payments h) ≡ false
  covered : amount ≤ sold_under h vendor issuer epoch

fresh : (h : History) (m : ℕ) (p : Payment) (vendor : List ℕ) (issuer epoch : ℕ) → PaidInOrder h m p → Names vendor issuer epoch p → Fresh h p.claim.amount vendor issuer epoch
fresh h m p vendor issuer epoch order is =
    let own : Fresh h p.claim.amount p.vendor p.claim.issuer p.claim.epoch = record { first = none_any amount_of (is_paid_for p.vendor p.claim.issuer p.claim.epoch) (payments h) order.first; covered = order.covered } in
    subst (λ (k : ℕ). Fresh h p.claim.amount vendor issuer k) is.epoch'
    (subst (λ (k : ℕ). Fresh h p.claim.amount vendor k p.claim.epoch) is.issuer'
    (subst (λ (v : List ℕ). Fresh h p.claim.amount v p.claim.issuer p.claim.epoch) is.vendor' own))

-- the same with the new payments, where there are some
record Keep (h new : History) (ps : List Payment) (vendor : List ℕ) (issuer epoch : ℕ) : Type 0 where
  once : count_by (is_paid_for vendor issuer epoch) (payments h ++ ps) ≤ 1
  covered : sum_by amount_of (filter (is_paid_for vendor issuer epoch) (payments h ++ ps)) ≤ sold_under new vendor issuer epoch

one_more : (h : History) (e : Entry) (o : Option Payment) (vendor : List ℕ) (issuer epoch : ℕ) → ((p : Payment) → o ≡ Some p → PaidInOrder h (moment_of e) p) → PaymentsKeep h
    → Keep h (h ++ e ∷ []) (cons_option o []) vendor issuer epoch
one_more h e None vendor issuer epoch order kept =
    let test = is_paid_for vendor issuer epoch in
    let grows = sold_grows h e vendor issuer epoch in
    let same = append-nil (payments h) in
    record {
      once = subst (λ (ps : List Payment). count_by test ps ≤ 1) (sym same) (kept.once vendor issuer epoch);
      covered = subst (λ (ps : List Payment). sum_by amount_of (filter test ps) ≤ sold_under (h ++ e ∷ []) vendor issuer epoch) (sym same) (omega (arith, grows, kept.covered vendor issuer epoch));
    }
one_more h e (Some p) vendor issuer epoch order kept = go (test p) refl (counts_cons test p [])
  where
    test : Payment → Bool
    test = is_paid_for vendor issuer epoch

    go : (b : Bool) → test p ≡ b → count_by test (p ∷ []) ≡ cond b 1 0 + count_by test [] → Keep h (h ++ e ∷ []) (p ∷ []) vendor issuer epoch
    go false is count =
        let counted = counts_append test (payments h) (p ∷ []) in
        let summed = settled_append test (payments h) (p ∷ []) in
        let none : sum_by amount_of (filter test (p ∷ [])) ≡ 0 = ap (λ (b : Bool). sum_by amount_of (cond b (p ∷ []) [])) is in
        let grows = sold_grows h e vendor issuer epoch in
        record { once = omega (arith, counted, count, kept.once vendor issuer epoch); covered = omega (arith, summed, none, grows, kept.covered vendor issuer epoch) }
    go true is count =
        let counted = counts_append test (payments h) (p ∷ []) in
        let summed = settled_append test (payments h) (p ∷ []) in
        let one : sum_by amount_of (filter test (p ∷ [])) ≡ sum_by amount_of (p ∷ []) = ap (λ (b : Bool). sum_by amount_of (cond b (p ∷ []) [])) is in
        let its = sum_by-cons amount_of p [] in
        let new = fresh h (moment_of e) p vendor issuer epoch (order p refl) (names vendor issuer epoch p is) in
        let before = counts_none test (payments h) new.first in
        let nothing = none_kept test (payments h) new.first in
        let grows = sold_grows h e vendor issuer epoch in
        record { once = omega (arith, counted, count, before); covered = omega (arith, summed, one, its, nothing, grows, new.covered) }

step : (h : History) (e : Entry) → IsInOrder h e → PaymentsKeep h → PaymentsKeep (h ++ e ∷ [])
step h e order kept =
    let more : payments (h ++ e ∷ []) ≡ payments h ++ cons_option (paid_by e) [] = filter_map-append paid_by h (e ∷ []) in
    let each = λ (vendor : List ℕ) (issuer epoch : ℕ). one_more h e (paid_by e) vendor issuer epoch (λ p is. paid_in_order h e p order is) kept in
    record {
      once = λ vendor issuer epoch. subst (λ (ps : List Payment). count_by (is_paid_for vendor issuer epoch) ps ≤ 1) (sym more) (each vendor issuer epoch).once;
      covered = λ vendor issuer epoch. subst (λ (ps : List Payment). sum_by amount_of (filter (is_paid_for vendor issuer epoch) ps) ≤ sold_under (h ++ e ∷ []) vendor issuer epoch) (sym more) (each vendor issuer epoch).covered;
    }

pub payments_keep : (h : History) → AreInOrder h → PaymentsKeep h
payments_keep h ordered = walk_by PaymentsKeep IsInOrder step [] h ordered (record { once = λ vendor issuer epoch. omega arith; covered = λ vendor issuer epoch. omega arith })
