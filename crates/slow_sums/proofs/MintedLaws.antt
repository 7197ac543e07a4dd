-- Whether a piece was minted, from an entry on.
use Rattle.std.proofs.Common.{◌≡◌, ℕ, zero, suc, ◌+◌, ◌-◌, ◌<◌, ◌≤◌, Bool, true, false, eqb, ltb, ◌&&◌, ◌||◌, [], ◌∷◌, ◌++◌, length, take, drop, slice_get, IfSome, refl, sym, ap, ◌∙◌, subst, arith, true≢false, eq-eqb, eqb-true, lt-ltb, le-ltb, ltb-true, ltb-false}
use borrow.Author.Tests.{eqb-false}
use Rattle.std.specs.List.{list_any}
use Rattle.std.proofs.lemmas.List.Folds.{list_any-append}
use Rattle.ledger_model.specs.Histories.{History}
use Rattle.ledger_model.specs.Pieces.{minted_pieces, minted_from, run_from}
use Rattle.audit_model.specs.declared.part.Part.{Part}
use Rattle.slow_sums.specs.Strangers.{same_as}
use Rattle.slow_ledger.proofs.SlowLaws.{next, of_next}

-- whether a piece was minted by the entries from a number on
abbrev pub mints_from : Part → History → ℕ → Bool
mints_from p h n = list_any (same_as p) (minted_from (take n h) (drop n h))

pub mints_more : (p : Part) (h : History) (n : ℕ) (r whole : Bool) → n < length h → mints_from p h n ≡ whole
    → IfSome (slice_get h n) (λ e. (before : History) → r ≡ list_any (same_as p) (minted_pieces before e)) → (r || mints_from p h (n + 1)) ≡ whole
mints_more p h n r whole lt so_far said =
    let x = next h n lt in
    let es : History = drop (n + 1) h in
    let is : r ≡ list_any (same_as p) (minted_pieces (take n h) x.entry) =
    of_next (λ e. (before : History) → r ≡ list_any (same_as p) (minted_pieces before e)) h n x said (take n h) in
    let here : list_any (same_as p) (minted_from (take n h) (x.entry ∷ es)) ≡ whole = subst (λ (t : History). list_any (same_as p) (minted_from (take n h) t) ≡ whole) x.rest so_far in
    ap (λ (b : Bool). b || mints_from p h (n + 1)) is
    ∙ ap (λ (t : History). list_any (same_as p) (minted_pieces (take n h) x.entry) || list_any (same_as p) (minted_from t es)) x.front
    ∙ sym (list_any-append (same_as p) (minted_pieces (take n h) x.entry) (minted_from (take n h ++ x.entry ∷ []) es))
    ∙ here

-- ---- a run

-- a run has no piece of another value, or of an identity below its first
pub run_lacks : (p : Part) (before : History) (value first count : ℕ) → (value ≡ p.value → p.id < first) → false ≡ list_any (same_as p) (run_from before value first count)
run_lacks p before value first zero un = refl
run_lacks p before value first (suc count) un =
    go (eqb first p.id) refl (eqb value p.value) refl (run_lacks p before value (first + 1) count (λ same. omega (arith, un same)))
  where
    rest : Bool
    rest = list_any (same_as p) (run_from before value (first + 1) count)

    go : (a : Bool) → eqb first p.id ≡ a → (b : Bool) → eqb value p.value ≡ b → false ≡ rest → false ≡ ((a && b) || rest)
    go false e b f none = none
    go true e false f none = none
    go true e true f none = absurd (omega (arith, un (eqb-true value p.value f), eqb-true first p.id e))

less : (a b : ℕ) → ltb (suc a) (suc b) ≡ ltb a b
less a b = go (ltb a b) refl
  where
    go : (t : Bool) → ltb a b ≡ t → ltb (suc a) (suc b) ≡ t
    go true e = lt-ltb (suc a) (suc b) (omega (arith, ltb-true a b e))
    go false e = le-ltb (suc a) (suc b) (omega (arith, ltb-false a b e))

-- a run of a value from an identity on has the piece of it that is less than so many behind the first
pub run_has : (p : Part) (before : History) (value first count : ℕ) → value ≡ p.value → first ≤ p.id
    → ltb (p.id - first) count ≡ list_any (same_as p) (run_from before value first count)
run_has p before value first zero same le = le-ltb (p.id - first) 0 (omega arith)
run_has p before value first (suc count) same le =
    go (eqb first p.id) refl (eqb value p.value) (eq-eqb value p.value same) (λ more. run_has p before value (first + 1) count same more)
  where
    rest : Bool
    rest = list_any (same_as p) (run_from before value (first + 1) count)

    go : (a : Bool) → eqb first p.id ≡ a → (b : Bool) → b ≡ true → (first + 1 ≤ p.id → ltb (p.id - (first + 1)) count ≡ rest) → ltb (p.id - first) (suc count) ≡ ((a && b) || rest)
    go true e true f by = lt-ltb (p.id - first) (suc count) (omega (arith, eqb-true first p.id e))
    go true e false f by = absurd (true≢false (sym f))
    go false e false f by = absurd (true≢false (sym f))
    go false e true f by =
        let differs : first ≡ p.id → ⊥ = eqb-false first p.id e in
        let more : first + 1 ≤ p.id = omega arith in
        let one : p.id - first ≡ suc (p.id - (first + 1)) = omega arith in
        ap (λ (d : ℕ). ltb d (suc count)) one ∙ less (p.id - (first + 1)) count ∙ by more
