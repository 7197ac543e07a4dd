-- The numbers of the operator's links.
use Rattle.std.proofs.Common.{◌≡◌, ℕ, ◌+◌, Bool, true, false, eqb, eq-eqb, List, [], ◌∷◌, ◌++◌, length, refl, ap, ap₂, sym, ◌∙◌, subst, arith, length-append, Some}
use Rattle.std.specs.Prelude.{◌==◌, ◌||◌}
use Rattle.std.proofs.lemmas.Bool.{eqb-true, false_from_ne_true}
use Rattle.std.specs.List.{list_any}
use Rattle.mc_outside.specs.LinkView.{LinkView, Session, IsWhose}
use Rattle.mc_stage.specs.Model.{Trace, model, link_of}
use Rattle.mc_stage.specs.Trace.{same_some}

next_same : (n m : ℕ) → (n + 1 == m + 1) ≡ (n == m)
next_same n m = go (eqb n m) refl
  where
    go : (b : Bool) → eqb n m ≡ b → eqb (n + 1) (m + 1) ≡ eqb n m
    go true e = eq-eqb (n + 1) (m + 1) (ap (λ (k : ℕ). k + 1) (eqb-true n m e)) ∙ sym e
    go false e = false_from_ne_true (eqb (n + 1) (m + 1)) (λ f. ne e (omega (arith, eqb-true (n + 1) (m + 1) f))) ∙ sym e
      where
        ne : eqb n m ≡ false → n ≡ m → ⊥
        ne e same = absurd (cc (e, eq-eqb n m same))

any_same : (m : ℕ) (ds : List ℕ) → list_any (λ n. n + 1 == m + 1) ds ≡ list_any (λ n. n == m) ds
any_same m [] = refl
any_same m (d ∷ ds) = ap₂ (λ (a b : Bool). a || b) (next_same d m) (any_same m ds)

pub is_whose : (t : Trace) (links : ℕ) (door : Bool) → links ≡ length (model t).sessions → door ≡ list_any (λ n. n + 1 == links) t.doors → IsWhose (link_of t) door
is_whose t links door count is ds ss s doors sessions =
    let long : links ≡ length ss + 1 = count ∙ ap (λ (l : List Session). length l) (same_some (model t).sessions (ss ++ s ∷ []) sessions) ∙ length-append ss (s ∷ []) in
    is
    ∙ ap (λ (m : ℕ). list_any (λ n. n + 1 == m) t.doors) long
    ∙ any_same (length ss) t.doors
    ∙ ap (λ (l : List ℕ). list_any (λ n. n == length ss) l) (same_some t.doors ds doors)
