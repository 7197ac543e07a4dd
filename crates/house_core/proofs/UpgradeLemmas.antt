-- What there is to do where an issuer is to be moved.
use Rattle.std.proofs.Common.{◌≡◌, ℕ, ◌<◌, ◌≤◌, Bool, cond, List, Option, Some, None, sym, ap, ap₂, subst, ◌∙◌, arith, eqb}
use Rattle.std.specs.Prelude.{MatchOption, is_some}
use Rattle.std.proofs.lemmas.Bool.{eq-eqb, false_from_ne_true, eqb-true, lt-ltb, le-ltb}
use Rattle.scrip_form.specs.Issuing.{Issuing, epoch}
use Rattle.mc_requests.specs.declared.limits.Limits.{Limits}
use Rattle.mc_requests.specs.declared.refusal.Refusal.TheVariants.{NoTerms, VersionSet, TooEarly}
use Rattle.mc_records.specs.Entry.{Upgrade}
use Rattle.ledger_model.specs.Histories.{History, time}
use Rattle.ledger_model.specs.Houses.{upgrade_in}
use Rattle.ledger_model.specs.Stock.{upgrade_terms}
use Rattle.ledger_model.specs.Lawful.{MayFollow}
use Rattle.house_core.specs.Tasks.{Add, Stays, Refuse}
use Rattle.house_core.specs.Upgrading.{upgraded}

module _ (t : ℕ) (vendor : List ℕ) (issuer from : ℕ) where
  pub no_terms : (o : Option Issuing) (standing : Option ℕ) → None ≡ o → Refuse NoTerms ≡ upgraded t vendor issuer from o standing
  no_terms o standing is = ap (λ (x : Option Issuing). upgraded t vendor issuer from x standing) is

  same_stands : (terms : Issuing) (e : ℕ) → e ≡ from → Stays ≡ upgraded t vendor issuer from (Some terms) (Some e)
  same_stands terms e same = sym (ap (λ (b : Bool). cond b Stays (Refuse (VersionSet e))) (eq-eqb e from same))

  other_stands : (terms : Issuing) (e n : ℕ) → (e ≡ from → ⊥) → n ≡ e → Refuse (VersionSet n) ≡ upgraded t vendor issuer from (Some terms) (Some e)
  other_stands terms e n other number =
      ap (λ (k : ℕ). Refuse (VersionSet k)) number ∙ sym (ap (λ (b : Bool). cond b Stays (Refuse (VersionSet e))) (false_from_ne_true (eqb e from) (λ is. other (eqb-true e from is))))

  too_early : (terms : Issuing) (now n : ℕ) → now ≡ epoch terms t → from ≤ now → n ≡ now → Refuse (TooEarly n) ≡ upgraded t vendor issuer from (Some terms) None
  too_early terms now n is late number =
      ap (λ (k : ℕ). Refuse (TooEarly k)) (number ∙ is)
      ∙ sym (ap (λ (b : Bool). cond b (Add (Upgrade t vendor issuer from)) (Refuse (TooEarly (epoch terms t)))) (le-ltb (epoch terms t) from (omega (arith, is, late))))

  new_stands : (terms : Issuing) (now : ℕ) → now ≡ epoch terms t → now < from → Add (Upgrade t vendor issuer from) ≡ upgraded t vendor issuer from (Some terms) None
  new_stands terms now is early =
      sym (ap (λ (b : Bool). cond b (Add (Upgrade t vendor issuer from)) (Refuse (TooEarly (epoch terms t)))) (lt-ltb (epoch terms t) from (omega (arith, is, early))))

  -- by what is asked of the history
  module _ (h : History) where
    pub stays_set : (terms : Issuing) (e : ℕ) → Some terms ≡ upgrade_terms h vendor issuer → Some e ≡ upgrade_in h vendor issuer → e ≡ from
        → Stays ≡ upgraded t vendor issuer from (upgrade_terms h vendor issuer) (upgrade_in h vendor issuer)
    stays_set terms e has stands same = same_stands terms e same ∙ ap₂ (λ (x : Option Issuing) (y : Option ℕ). upgraded t vendor issuer from x y) has stands

    pub is_set : (terms : Issuing) (e n : ℕ) → Some terms ≡ upgrade_terms h vendor issuer → Some e ≡ upgrade_in h vendor issuer → (e ≡ from → ⊥) → n ≡ e
        → Refuse (VersionSet n) ≡ upgraded t vendor issuer from (upgrade_terms h vendor issuer) (upgrade_in h vendor issuer)
    is_set terms e n has stands other number = other_stands terms e n other number ∙ ap₂ (λ (x : Option Issuing) (y : Option ℕ). upgraded t vendor issuer from x y) has stands

    pub is_early : (terms : Issuing) (now n : ℕ) → Some terms ≡ upgrade_terms h vendor issuer → None ≡ upgrade_in h vendor issuer → now ≡ epoch terms t → from ≤ now → n ≡ now
        → Refuse (TooEarly n) ≡ upgraded t vendor issuer from (upgrade_terms h vendor issuer) (upgrade_in h vendor issuer)
    is_early terms now n has none is late number = too_early terms now n is late number ∙ ap₂ (λ (x : Option Issuing) (y : Option ℕ). upgraded t vendor issuer from x y) has none

    pub adds : (terms : Issuing) (now : ℕ) → Some terms ≡ upgrade_terms h vendor issuer → None ≡ upgrade_in h vendor issuer → now ≡ epoch terms t → now < from
        → Add (Upgrade t vendor issuer from) ≡ upgraded t vendor issuer from (upgrade_terms h vendor issuer) (upgrade_in h vendor issuer)
    adds terms now has none is early = new_stands terms now is early ∙ ap₂ (λ (x : Option Issuing) (y : Option ℕ). upgraded t vendor issuer from x y) has none

    pub upgrade_may_follow : (limits : Limits) (terms : Issuing) (now : ℕ) → time h ≤ t → Some terms ≡ upgrade_terms h vendor issuer → None ≡ upgrade_in h vendor issuer → now ≡ epoch terms t → now < from
        → MayFollow limits h (Upgrade t vendor issuer from)
    upgrade_may_follow limits terms now order has none is early = record {
      in_order = order;
      allowed = record {
        new = sym (ap is_some none);
        coming = subst (λ (o : Option Issuing). MatchOption o ⊥ (λ x. epoch x t < from)) has (omega (arith, is, early));
      };
    }
