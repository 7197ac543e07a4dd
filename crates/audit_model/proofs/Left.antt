-- What is left of pieces, as a sum over what each adds.
use Rattle.std.proofs.Common.{◌≡◌, ℕ, Bool, true, false, cond, not, ◌&&◌, ltb, leb, List, [], ◌∷◌, map, filter, sum_by, refl, ap, ◌∙◌, arith}
use Rattle.std.proofs.lemmas.List.Sums.{sum_by-cons}
use Rattle.scrip_form.specs.Scrip.{Scrip}
use Rattle.ledger_model.specs.Histories.{History, time}
use Rattle.ledger_model.specs.Pieces.{is_spent}
use Rattle.ledger_model.specs.Sums.{outstanding, lapsed}
use Rattle.audit_model.specs.declared.sums.VendorSums.{VendorSums}
use Rattle.audit_model.specs.Parts.{part_of, still_out, gone_by}

-- a sum over those that pass a test is one of what each adds
kept_sum : {A B : Type 0} (test : A → Bool) (value : A → ℕ) (f : A → B) (adds : B → ℕ) → ((x : A) → adds (f x) ≡ cond (test x) (value x) 0)
    → (xs : List A) → sum_by adds (map f xs) ≡ sum_by value (filter test xs)
kept_sum test value f adds is [] = refl
kept_sum {A = A} test value f adds is (x ∷ xs) = go (test x) (is x) (kept_sum test value f adds is xs)
  where
    go : (b : Bool) → adds (f x) ≡ cond b (value x) 0 → sum_by adds (map f xs) ≡ sum_by value (filter test xs)
        → sum_by adds (f x ∷ map f xs) ≡ sum_by value (cond b (x ∷ filter test xs) (filter test xs))
    go true one rest = omega (arith, sum_by-cons adds (f x) (map f xs), sum_by-cons value x (filter test xs))
    go false one rest = omega (arith, sum_by-cons adds (f x) (map f xs))

pub outstanding_is : (h : History) (pieces : List Scrip) → sum_by (still_out h) (map part_of pieces) ≡ outstanding pieces h
outstanding_is h pieces = kept_sum (λ p. not (is_spent h p.id) && ltb (time h) p.expires) (λ (p : Scrip). p.value) part_of (still_out h) (λ p. refl) pieces

pub lapsed_is : (h : History) (pieces : List Scrip) → sum_by (gone_by h) (map part_of pieces) ≡ lapsed pieces h
lapsed_is h pieces = kept_sum (λ p. not (is_spent h p.id) && leb p.expires (time h)) (λ (p : Scrip). p.value) part_of (gone_by h) (λ p. refl) pieces

-- the sums of a vendor that are the same one by one
pub same_vendor : (a b : VendorSums) → a.name ≡ b.name → a.takings ≡ b.takings → a.outstanding ≡ b.outstanding → a.lapsed ≡ b.lapsed → a ≡ b
same_vendor a b e f g h =
    ap (λ (x : List ℕ). record a { name = x }) e
    ∙ ap (λ (x : ℕ). record a { name = b.name; takings = x }) f
    ∙ ap (λ (x : ℕ). record a { name = b.name; takings = b.takings; outstanding = x }) g
    ∙ ap (λ (x : ℕ). record a { name = b.name; takings = b.takings; outstanding = b.outstanding; lapsed = x }) h
