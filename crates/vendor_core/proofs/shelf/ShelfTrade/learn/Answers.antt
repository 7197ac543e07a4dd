use Rattle.std.proofs.Common.{◌≡◌, true, false, sym, ◌∙◌, refl, inl, inr, append-nil}
use Rattle.std.specs.Prelude.{◌==◌}
use Rattle.std.specs.List.{list_any}
use Rattle.std.proofs.lemmas.Bool.{false≢true, true≢false}
use Rattle.vendor_core.proofs.ShelfLaws.{issuer_is_taken, issuer_is_free, quiet_learned}
use Rattle.vendor_core.proofs.TargetLaws.{targets_quiet}
use Rattle.vendor_core.proofs.shelf.ShelfTrade.learn.Goals as goal

pub returns-in-Some-clause-learned : goal.returns-in-Some-clause-learned
returns-in-Some-clause-learned c limits h stands may =
    rw (c.in-Site.is, c.in-Some.is, c.push_reserved.ensures.items, c.issuer.ensures) (quiet_learned _ _ _ _ _ _ h _ (λ target. refl) refl refl refl stands.0, targets_quiet h _ _ refl stands.1)

pub returns-in_default-house-clause-learned : goal.returns-in_default-house-clause-learned
returns-in_default-house-clause-learned c limits h stands may =
    rw (c.in-Site.is, c.in_default-house.is) (quiet_learned _ _ _ _ _ _ h _ (λ target. refl) refl (append-nil _) refl stands.0, targets_quiet h _ _ refl stands.1)

pub returns-then-contains-clause-exact : goal.returns-then-contains-clause-exact
returns-then-contains-clause-exact c limits h stands may =
    let taken : list_any (λ i. i == c.in-Terms.terms.issuer) c.args.self.now.issuers.items ≡ true = rw (← c.deref.ensures.value, ← c.issuer-issuer.ensures) (sym c.contains.ensures.value ∙ c.if-contains.true) in
    rw c.in-Terms.is (λ ok. absurd (false≢true ok), λ half. absurd (issuer_is_taken _ _ _ _ _ h c.in-Terms.terms.issuer stands.0 taken half.1))

pub returns-else-contains-clause-exact : goal.returns-else-contains-clause-exact
returns-else-contains-clause-exact c limits h stands may =
    let free : list_any (λ i. i == c.in-Terms.terms.issuer) c.args.self.now.issuers.items ≡ false = rw (← c.deref.ensures.value, ← c.issuer-issuer.ensures) (sym c.contains.ensures.value ∙ c.if-contains.false) in
    rw c.in-Terms.is (λ ok. (refl, issuer_is_free _ _ _ _ _ h c.in-Terms.terms.issuer stands.0 free), λ half. refl)

pub returns-else-contains-clause-learned : goal.returns-else-contains-clause-learned
returns-else-contains-clause-learned c limits h stands may =
    rw (c.in-Terms.is, c.push_reserved-in-Terms.ensures.items, c.issuer-issuer.ensures) (quiet_learned _ _ _ _ _ _ h _ (λ target. refl) refl refl refl stands.0, targets_quiet h _ _ refl stands.1)

-- of each of these the house tells, or it always may come
pub returns-in-Accept-clause-exact : goal.returns-in-Accept-clause-exact
returns-in-Accept-clause-exact c limits h stands may =
    elim c.in-Accept.is [
      | inl x ↦ rw x.7 (λ ok. tt, λ half. refl)
      | inr (inl x) ↦ rw x.4 (λ ok. tt, λ half. refl)
      | inr (inr (inl x)) ↦ rw x.4 (λ ok other. absurd (true≢false other), λ half. refl)
      | inr (inr (inr (inl x))) ↦ rw x.2 (λ ok. tt, λ half. refl)
      | inr (inr (inr (inr x))) ↦ rw x.3 (λ ok. tt, λ half. refl)
    ]

pub returns-in-Accept-clause-learned : goal.returns-in-Accept-clause-learned
returns-in-Accept-clause-learned c limits h stands may =
    elim c.in-Accept.is [
      | inl x ↦ rw x.7 (quiet_learned _ _ _ _ _ _ h _ (λ target. refl) refl (append-nil _) refl stands.0, targets_quiet h _ _ refl stands.1)
      | inr (inl x) ↦ rw x.4 (quiet_learned _ _ _ _ _ _ h _ (λ target. refl) refl (append-nil _) refl stands.0, targets_quiet h _ _ refl stands.1)
      | inr (inr (inl x)) ↦ rw x.4 (quiet_learned _ _ _ _ _ _ h _ (λ target. refl) refl (append-nil _) refl stands.0, targets_quiet h _ _ refl stands.1)
      | inr (inr (inr (inl x))) ↦ rw x.2 (quiet_learned _ _ _ _ _ _ h _ (λ target. refl) refl (append-nil _) refl stands.0, targets_quiet h _ _ refl stands.1)
      | inr (inr (inr (inr x))) ↦ rw x.3 (quiet_learned _ _ _ _ _ _ h _ (λ target. refl) refl (append-nil _) refl stands.0, targets_quiet h _ _ refl stands.1)
    ]
