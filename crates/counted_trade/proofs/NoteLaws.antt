-- What was stated and paid after one more entry.
use Rattle.std.proofs.Common.{◌≡◌, ℕ, ◌<◌, ◌^◌, Bool, true, false, cond, List, [], ◌∷◌, ◌++◌, Option, Some, None, option_map, refl, sym, ap, subst, ◌∙◌, append-nil, find, eqb, bytes_eq}
use Rattle.std.specs.Prelude.{filter_map, IfSome}
use Rattle.std.specs.List.{cons_option}
use Rattle.std.proofs.lemmas.Bool.{eqb-true, and_parts}
use Rattle.std.proofs.lemmas.List.Elements.{filter_map-append}
use Rattle.mc_records.specs.Entry.{Entry}
use Rattle.ledger_model.specs.Histories.{History}
use Rattle.sum_table.specs.SumTable.{SumTableView, amount_of}
use Rattle.settle_core.specs.declared.claim.Claim.{Claim}
use Rattle.settle_core.specs.declared.claim.Payment.{Payment}
use Rattle.settle_core.specs.Claims.{ClaimFits}
use Rattle.settle_core.specs.Settlement.{stated_by, paid_by, statements, payments, is_for, is_paid_for, stated_amount, paid_amount, IsInOrder}
use Rattle.settle_core.proofs.Walks.{stated_in_order, paid_in_order}
use Rattle.settle_core.proofs.PaymentLaws.{names}
use Rattle.counted_trade.specs.Series.{series_key}
use Rattle.counted_trade.proofs.KeyLaws.{same_series, same_sold_series}
use Rattle.counted_trade.specs.Notes.{StatedStand, PaidStand, HasRoomToState, HasRoomToPay}

-- what putting the amount of a key says
abbrev pub Puts : SumTableView → SumTableView → ℕ → Type 0
Puts old new amount = (key : List ℕ) → old.room ≡ Some key → (q : List ℕ) → amount_of new q ≡ cond (bytes_eq q key) (Some amount) (amount_of old q)

-- what is read of a book after one more entry
read_more : {X : Type 0} (by : Entry → Option X) (h : History) (e : Entry) (o : Option X) → by e ≡ o → filter_map by (h ++ e ∷ []) ≡ filter_map by h ++ cons_option o []
read_more {X = X} by h e o is = filter_map-append by h (e ∷ []) ∙ ap (λ (x : Option X). filter_map by h ++ cons_option x []) is

read_no_more : {X : Type 0} (by : Entry → Option X) (h : History) (e : Entry) → by e ≡ None → filter_map by (h ++ e ∷ []) ≡ filter_map by h
read_no_more by h e none = read_more by h e None none ∙ append-nil (filter_map by h)

-- what is found behind a list is found where nothing is found in it
found_behind : {X : Type 0} (f : X → ℕ) (test : X → Bool) (xs : List X) (x : X) (o : Option ℕ) → o ≡ option_map f (find test xs) → (test x ≡ true → option_map f (find test xs) ≡ None)
    → cond (test x) (Some (f x)) o ≡ option_map f (find test (xs ++ x ∷ []))
found_behind {X = X} f test [] x o had new = go (test x)
  where
    go : (b : Bool) → cond b (Some (f x)) o ≡ option_map f (cond b (Some x) None)
    go true = refl
    go false = had
found_behind {X = X} f test (y ∷ ys) x o had new = go (test y) had new (λ p had' new'. found_behind f test ys x p had' new')
  where
    some : X → Option X
    some z = Some z

    go : (b : Bool) → o ≡ option_map f (cond b (some y) (find test ys)) → (test x ≡ true → option_map f (cond b (some y) (find test ys)) ≡ None)
        → ((p : Option ℕ) → p ≡ option_map f (find test ys) → (test x ≡ true → option_map f (find test ys) ≡ None) → cond (test x) (Some (f x)) p ≡ option_map f (find test (ys ++ x ∷ [])))
        → cond (test x) (Some (f x)) o ≡ option_map f (cond b (some y) (find test (ys ++ x ∷ [])))
    go false had' new' ih = ih o had' new'
    go true had' new' ih = stands (test x) refl
      where
        stands : (c : Bool) → test x ≡ c → cond c (Some (f x)) o ≡ Some (f y)
        stands false is = had'
        stands true is = absurd (no (new' is))
          where
            no : option_map f (some y) ≡ None → ⊥
            no e = absurd cc

-- ---- statements

abbrev claimed : Claim → ℕ
claimed c = c.amount

-- of a series for which a claim is, nothing was stated before
not_stated : (h : History) (c : Claim) (issuer epoch : ℕ) → stated_amount h c.issuer c.epoch ≡ None → is_for issuer epoch c ≡ true → stated_amount h issuer epoch ≡ None
not_stated h c issuer epoch none is =
    let parts = and_parts (eqb c.issuer issuer) (eqb c.epoch epoch) is in
    subst (λ (k : ℕ). stated_amount h issuer k ≡ None) (eqb-true c.epoch epoch parts.1)
    (subst (λ (k : ℕ). stated_amount h k c.epoch ≡ None) (eqb-true c.issuer issuer parts.0) none)

pub counted_statement : (old new : SumTableView) (h : History) (e : Entry) (c : Claim) → c.issuer < 2 ^ 8 → ClaimFits c → stated_by e ≡ Some c → StatedStand old h → HasRoomToState old e → IsInOrder h e
    → Puts old new c.amount → StatedStand new (h ++ e ∷ [])
counted_statement old new h e c small fits is stands room order puts =
    let ready : old.room ≡ Some (series_key c.issuer c.epoch) = subst (λ (o : Option Claim). IfSome o (λ x. old.room ≡ Some (series_key x.issuer x.epoch))) is room in
    let first = (stated_in_order h e c order is).first in
    record {
      is = λ issuer epoch byte three.
          puts (series_key c.issuer c.epoch) ready (series_key issuer epoch)
          ∙ ap (λ (b : Bool). cond b (Some c.amount) (amount_of old (series_key issuer epoch))) (same_series issuer epoch c.issuer c.epoch byte three small fits.epoch')
          ∙ found_behind claimed (is_for issuer epoch) (statements h) c (amount_of old (series_key issuer epoch)) (stands.is issuer epoch byte three) (not_stated h c issuer epoch first)
          ∙ ap (λ (cs : List Claim). option_map claimed (find (is_for issuer epoch) cs)) (sym (read_more stated_by h e (Some c) is));
    }

pub not_counted_statement : (old : SumTableView) (h : History) (e : Entry) → stated_by e ≡ None → StatedStand old h → StatedStand old (h ++ e ∷ [])
not_counted_statement old h e none stands = record {
  is = λ issuer epoch byte three. stands.is issuer epoch byte three ∙ ap (λ (cs : List Claim). option_map claimed (find (is_for issuer epoch) cs)) (sym (read_no_more stated_by h e none));
}

-- ---- payments

abbrev paid_amount_of : Payment → ℕ
paid_amount_of p = p.claim.amount

not_paid : (h : History) (p : Payment) (vendor : List ℕ) (issuer epoch : ℕ) → paid_amount h p.vendor p.claim.issuer p.claim.epoch ≡ None → is_paid_for vendor issuer epoch p ≡ true → paid_amount h vendor issuer epoch ≡ None
not_paid h p vendor issuer epoch none is =
    let its = names vendor issuer epoch p is in
    subst (λ (k : ℕ). paid_amount h vendor issuer k ≡ None) its.epoch'
    (subst (λ (k : ℕ). paid_amount h vendor k p.claim.epoch ≡ None) its.issuer'
    (subst (λ (v : List ℕ). paid_amount h v p.claim.issuer p.claim.epoch ≡ None) its.vendor' none))

pub counted_payment : (old new : SumTableView) (h : History) (e : Entry) (p : Payment) → p.claim.issuer < 2 ^ 8 → ClaimFits p.claim → paid_by e ≡ Some p → PaidStand old h → HasRoomToPay old e → IsInOrder h e
    → Puts old new p.claim.amount → PaidStand new (h ++ e ∷ [])
counted_payment old new h e p small fits is stands room order puts =
    let key = series_key p.claim.issuer p.claim.epoch ++ p.vendor in
    let ready : old.room ≡ Some key = subst (λ (o : Option Payment). IfSome o (λ x. old.room ≡ Some (series_key x.claim.issuer x.claim.epoch ++ x.vendor))) is room in
    let first = (paid_in_order h e p order is).first in
    record {
      is = λ vendor issuer epoch byte three.
          puts key ready (series_key issuer epoch ++ vendor)
          ∙ ap (λ (b : Bool). cond b (Some p.claim.amount) (amount_of old (series_key issuer epoch ++ vendor))) (same_sold_series vendor p.vendor issuer epoch p.claim.issuer p.claim.epoch byte three small fits.epoch')
          ∙ found_behind paid_amount_of (is_paid_for vendor issuer epoch) (payments h) p (amount_of old (series_key issuer epoch ++ vendor)) (stands.is vendor issuer epoch byte three) (not_paid h p vendor issuer epoch first)
          ∙ ap (λ (ps : List Payment). option_map paid_amount_of (find (is_paid_for vendor issuer epoch) ps)) (sym (read_more paid_by h e (Some p) is));
    }

pub not_counted_payment : (old : SumTableView) (h : History) (e : Entry) → paid_by e ≡ None → PaidStand old h → PaidStand old (h ++ e ∷ [])
not_counted_payment old h e none stands = record {
  is = λ vendor issuer epoch byte three. stands.is vendor issuer epoch byte three ∙ ap (λ (ps : List Payment). option_map paid_amount_of (find (is_paid_for vendor issuer epoch) ps)) (sym (read_no_more paid_by h e none));
}
