-- Which notes are in order, line by line.
use Rattle.std.proofs.Common.{◌≡◌, ℕ, ◌<◌, ◌≤◌, true, false, List, Option, Some, None, refl, sym, subst, ◌∙◌, arith, eqb}
use Rattle.std.specs.Prelude.{◌↔◌, IsTrue, IfSome, MatchOption, is_some}
use Rattle.std.proofs.lemmas.Bool.{false≢true, eqb-true, eq-eqb}
use Rattle.std.proofs.lemmas.Option.{same_Some}
use Rattle.scrip_form.specs.Issuing.{Issuing, series_end}
use Rattle.ledger_model.specs.Histories.{History}
use Rattle.ledger_model.specs.Houses.{terms_in}
use Rattle.ledger_model.specs.Stock.{licence_in}
use Rattle.settle_core.specs.declared.claim.Claim.{Claim}
use Rattle.settle_core.specs.declared.claim.Payment.{Payment}
use Rattle.settle_core.specs.Settlement.{stated_amount, paid_amount, redeemed, sold_under, StatedInOrder, PaidInOrder, IsTextOf}

-- what is false says no, where it does not hold
pub says_no : (P : Type 0) → (P → ⊥) → IsTrue false ↔ P
says_no P not = (λ ok. absurd (false≢true ok), λ p. absurd (not p))

pub not_some : {A : Type 0} (x : A) → None ≡ Some x → ⊥
not_some x e = absurd cc

pub none_is : (o : Option ℕ) → is_some o ≡ false → o ≡ None
none_is None e = refl
none_is (Some n) e = absurd cc

some_not_none : (o : Option ℕ) → is_some o ≡ true → o ≡ None → ⊥
some_not_none None is none = false≢true is
some_not_none (Some n) is none = absurd cc

-- ---- the bytes of a note

module _ {A : Type 0} (read : List ℕ → Option A) (P : A → Type 0) (o : Option (List ℕ)) where
  -- there are none
  pub no_bytes : o ≡ None → IfSome o (IsTextOf read P)
  no_bytes none = subst (λ (x : Option (List ℕ)). IfSome x (IsTextOf read P)) (sym none) tt

  module _ (bytes : List ℕ) (is : o ≡ Some bytes) where
    text : IfSome o (IsTextOf read P) → IsTextOf read P bytes
    text all = subst (λ (x : Option (List ℕ)). IfSome x (IsTextOf read P)) is all

    -- they are read as nothing
    pub no_text : read bytes ≡ None → IfSome o (IsTextOf read P) → ⊥
    no_text none all = subst (λ (x : Option A). MatchOption x ⊥ P) none (text all)

    -- they are read as this
    pub by_text : (x : A) → read bytes ≡ Some x → (P x → IfSome o (IsTextOf read P)) × (IfSome o (IsTextOf read P) → P x)
    by_text x some = (
      λ p. subst (λ (y : Option (List ℕ)). IfSome y (IsTextOf read P)) (sym is) (subst (λ (y : Option A). MatchOption y ⊥ P) (sym some) p),
      λ all. subst (λ (y : Option A). MatchOption y ⊥ P) some (text all),
    )

-- ---- statements

module _ (h : History) (m : ℕ) (c : Claim) where
  pub unlicensed : terms_in h c.issuer ≡ None → StatedInOrder h m c → ⊥
  unlicensed none order = not_some order.terms (sym none ∙ order.stand)

  pub stated_already : is_some (stated_amount h c.issuer c.epoch) ≡ true → StatedInOrder h m c → ⊥
  stated_already some order = some_not_none (stated_amount h c.issuer c.epoch) some order.first

  module _ (terms : Issuing) (stand : terms_in h c.issuer ≡ Some terms) where
    pub open_series : m < series_end terms c.epoch → StatedInOrder h m c → ⊥
    open_series early order =
        let same : order.terms ≡ terms = same_Some order.terms terms (sym order.stand ∙ stand) in
        let ended : series_end terms c.epoch ≤ m = subst (λ (x : Issuing). series_end x c.epoch ≤ m) same order.ended in
        omega (arith, early, ended)

    pub states : (sum : ℕ) → sum ≡ redeemed h c.issuer c.epoch → series_end terms c.epoch ≤ m → is_some (stated_amount h c.issuer c.epoch) ≡ false → IsTrue (eqb c.amount sum) ↔ StatedInOrder h m c
    states sum is ended none = (
      λ ok. record { terms = terms; stand = stand; ended = ended; first = none_is (stated_amount h c.issuer c.epoch) none; is = eqb-true c.amount sum ok ∙ is },
      λ order. eq-eqb c.amount sum (order.is ∙ sym is),
    )

-- ---- payments

module _ (h : History) (m : ℕ) (p : Payment) where
  pub no_licence_of : licence_in h p.vendor ≡ None → PaidInOrder h m p → ⊥
  no_licence_of none order = not_some order.terms (sym none ∙ order.licence)

  pub paid_already : is_some (paid_amount h p.vendor p.claim.issuer p.claim.epoch) ≡ true → PaidInOrder h m p → ⊥
  paid_already some order = some_not_none (paid_amount h p.vendor p.claim.issuer p.claim.epoch) some order.first

  module _ (terms : Issuing) (licence : licence_in h p.vendor ≡ Some terms) where
    same_terms : (order : PaidInOrder h m p) → order.terms ≡ terms
    same_terms order = same_Some order.terms terms (sym order.licence ∙ licence)

    pub of_another : (terms.issuer ≡ p.claim.issuer → ⊥) → PaidInOrder h m p → ⊥
    of_another other order = other (subst (λ (x : Issuing). x.issuer ≡ p.claim.issuer) (same_terms order) order.of_issuer)

    pub not_ended : m < series_end terms p.claim.epoch → PaidInOrder h m p → ⊥
    not_ended early order =
        let ended : series_end terms p.claim.epoch ≤ m = subst (λ (x : Issuing). series_end x p.claim.epoch ≤ m) (same_terms order) order.ended in
        omega (arith, early, ended)

    pub not_covered : (sum : ℕ) → sum ≡ sold_under h p.vendor p.claim.issuer p.claim.epoch → sum < p.claim.amount → PaidInOrder h m p → ⊥
    not_covered sum is above order = let covered = order.covered in omega (arith, above, is, covered)

    pub pays : (sum : ℕ) → sum ≡ sold_under h p.vendor p.claim.issuer p.claim.epoch → terms.issuer ≡ p.claim.issuer → series_end terms p.claim.epoch ≤ m
        → is_some (paid_amount h p.vendor p.claim.issuer p.claim.epoch) ≡ false → p.claim.amount ≤ sum → PaidInOrder h m p
    pays sum is issuer ended none most = record {
      terms = terms;
      licence = licence;
      of_issuer = issuer;
      ended = ended;
      first = none_is (paid_amount h p.vendor p.claim.issuer p.claim.epoch) none;
      covered = omega (arith, most, is);
    }
