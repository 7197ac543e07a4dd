-- References: no two entries have one.
use Rattle.std.proofs.Common.{◌≡◌, ℕ, ◌≤◌, Bool, true, false, List, [], ◌∷◌, ◌++◌, Option, Some, sym, ap, subst, ◌∙◌, arith, count_by, bytes_eq}
use Rattle.std.specs.Prelude.{filter_map}
use Rattle.std.proofs.lemmas.List.Elements.{filter_map-append}
use Rattle.std.proofs.lemmas.Option.{same_Some}
use Rattle.std.proofs.lemmas.Slice.Eq.{bytes_eq-Decides}
use Rattle.mc_requests.specs.declared.limits.Limits.{Limits}
use Rattle.mc_records.specs.Entry.{Entry, Mint, Deposit, Withdraw}
use Rattle.ledger_model.specs.Histories.{History}
use Rattle.ledger_model.specs.Pieces.{reference_of, has_reference}
use Rattle.ledger_model.specs.Lawful.{IsAllowed, MayFollow, IsLawful}
use Rattle.ledger_model.proofs.ListLaws.{counts_none, once_snoc}
use Rattle.ledger_model.proofs.FollowLaws.{lawful_walk}

-- an entry that may follow has a new reference, where it has one
new_reference : (limits : Limits) (h : History) (e : Entry) (r : List ℕ) → IsAllowed limits h e → reference_of e ≡ Some r → has_reference h r ≡ false
new_reference limits h (Mint m reference count value first) r allowed is = subst (λ (n : List ℕ). has_reference h n ≡ false) (same_Some reference r is) allowed.1
new_reference limits h (Deposit m name amount reference) r allowed is = subst (λ (n : List ℕ). has_reference h n ≡ false) (same_Some reference r is) allowed.2
new_reference limits h (Withdraw m name amount reference) r allowed is = subst (λ (n : List ℕ). has_reference h n ≡ false) (same_Some reference r is) allowed.2
new_reference limits h e r allowed is = absurd cc

-- so none follows with one that stands
pub reference_twice : (limits : Limits) (h : History) (e : Entry) (r : List ℕ) → has_reference h r ≡ true → reference_of e ≡ Some r → MayFollow limits h e → ⊥
reference_twice limits h e r stands is may = not_both (has_reference h r) stands (new_reference limits h e r may.allowed is)
  where
    not_both : (b : Bool) → b ≡ true → b ≡ false → ⊥
    not_both b t f = absurd cc

pub references_once : (limits : Limits) (h : History) (reference : List ℕ) → IsLawful limits h → count_by (λ r. bytes_eq r reference) (filter_map reference_of h) ≤ 1
references_once limits h reference lawful = lawful_walk Once limits step (omega arith) h lawful
  where
    test : List ℕ → Bool
    test r = bytes_eq r reference

    Once : History → Type 0
    Once g = count_by test (filter_map reference_of g) ≤ 1

    new : (g : History) (e : Entry) → MayFollow limits g e → (r : List ℕ) → reference_of e ≡ Some r → test r ≡ true → count_by test (filter_map reference_of g) ≡ 0
    new g e may r is same =
        let r_is : r ≡ reference = (bytes_eq-Decides r reference).0 same in
        counts_none test (filter_map reference_of g) (new_reference limits g e reference may.allowed (is ∙ ap (λ (n : List ℕ). some n) r_is))
      where
        some : List ℕ → Option (List ℕ)
        some n = Some n

    step : (g : History) (e : Entry) → MayFollow limits g e → Once g → Once (g ++ e ∷ [])
    step g e may once =
        subst (λ (rs : List (List ℕ)). count_by test rs ≤ 1) (sym (filter_map-append reference_of g (e ∷ [])))
        (once_snoc test (filter_map reference_of g) (reference_of e) once (new g e may))
