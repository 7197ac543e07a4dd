-- What was kept of a book, and what its history says of pieces.
use Rattle.std.proofs.Common.{◌≡◌, ℕ, zero, suc, ◌+◌, Bool, true, false, cond, not, eqb, ltb, leb, ◌&&◌, ◌||◌, List, [], ◌∷◌, ◌++◌, map, filter_map, sum_by, Option, Some, None, option_map, refl, sym, ap, ap₂, ◌∙◌, eq-eqb, eqb-true, arith}
use Rattle.std.specs.List.{list_any, cons_option}
use Rattle.std.proofs.lemmas.Bool.Decides.{nat_tests}
use Rattle.std.proofs.lemmas.List.Folds.{list_any-append}
use Rattle.std.proofs.lemmas.List.Sums.{sum_by-cons}
use Rattle.scrip_form.specs.Scrip.{Scrip}
use Rattle.mc_records.specs.Entry.{Accept, Mint}
use Rattle.ledger_model.specs.Histories.{History, time}
use Rattle.ledger_model.specs.Pieces.{piece_of, accepted, is_spent, run_from, minted_from}
use Rattle.ledger_model.specs.Sums.{outstanding, lapsed}
use Rattle.audit_model.specs.declared.part.Part.{Part}
use Rattle.audit_model.specs.Parts.{part_of, still_out, gone_by}
use Rattle.audit_model.proofs.Left.{outstanding_is, lapsed_is}
use Rattle.audit_sums.specs.Rows.{acceptance_of, run_of}
use Rattle.audit_search.specs.Known.{has_part, is_in_run, is_piece, was_accepted, out_at, gone_at}

pub turned : (a b : ℕ) → eqb a b ≡ eqb b a
turned a b = go (eqb a b) refl (eqb b a) refl
  where
    go : (x : Bool) → eqb a b ≡ x → (y : Bool) → eqb b a ≡ y → x ≡ y
    go true e true f = refl
    go false e false f = refl
    go true e false f = sym (sym f ∙ eq-eqb b a (sym (eqb-true a b e)))
    go false e true f = sym e ∙ eq-eqb a b (sym (eqb-true b a f))

-- whether a piece has an identity and a value, as the ledger asks it
abbrev pub is_same : ℕ → ℕ → Scrip → Bool
is_same id value q = eqb q.id id && eqb q.value value

-- ---- what was accepted

pub accepted_is : (id : ℕ) (h : History) → was_accepted (filter_map acceptance_of h) id ≡ is_spent h id
accepted_is id [] = refl
accepted_is id (Accept m scrip target sign price change deed ∷ es) = go (piece_of scrip) (accepted_is id es)
  where
    go : (o : Option Scrip) → was_accepted (filter_map acceptance_of es) id ≡ is_spent es id
        → (is_piece id (option_map part_of o) || was_accepted (filter_map acceptance_of es) id) ≡ list_any (λ p. eqb p.id id) (cons_option o (accepted es))
    go None ih = ih
    go (Some p) ih = ap₂ (λ (a b : Bool). a || b) (turned id p.id) ih
accepted_is id (e ∷ es) = accepted_is id es

-- ---- pieces that are known

pub parts_are : (id value : ℕ) (pieces : List Scrip) → has_part (map part_of pieces) id value ≡ list_any (is_same id value) pieces
parts_are id value [] = refl
parts_are id value (p ∷ ps) = ap₂ (λ (a b : Bool). a || b) (ap₂ (λ (a b : Bool). a && b) (turned id p.id) (turned value p.value)) (parts_are id value ps)

-- ---- mints

in_none : (id first : ℕ) → (leb first id && ltb id (first + 0)) ≡ false
in_none id first = grind (arith, nat_tests)

in_more : (id first n : ℕ) → (leb first id && ltb id (first + suc n)) ≡ (eqb first id || (leb (first + 1) id && ltb id (first + 1 + n)))
in_more id first n = grind (arith, nat_tests)

and_none : (b : Bool) → (b && false) ≡ false
and_none true = refl
and_none false = refl

spread : (v a b : Bool) → (v && (a || b)) ≡ ((a && v) || (v && b))
spread true true b = refl
spread true false b = refl
spread false true b = refl
spread false false b = refl

pub run_is : (id value : ℕ) (before : History) (worth first count : ℕ)
    → (eqb value worth && (leb first id && ltb id (first + count))) ≡ list_any (is_same id value) (run_from before worth first count)
run_is id value before worth first zero = ap (λ (b : Bool). eqb value worth && b) (in_none id first) ∙ and_none (eqb value worth)
run_is id value before worth first (suc n) =
    ap (λ (b : Bool). eqb value worth && b) (in_more id first n)
    ∙ spread (eqb value worth) (eqb first id) (leb (first + 1) id && ltb id (first + 1 + n))
    ∙ ap₂ (λ (a b : Bool). (eqb first id && a) || b) (turned value worth) (run_is id value before worth (first + 1) n)

pub minted_are : (id value : ℕ) (before h : History) → list_any (is_in_run id value) (filter_map run_of h) ≡ list_any (is_same id value) (minted_from before h)
minted_are id value before [] = refl
minted_are id value before (Mint m reference count worth first ∷ es) =
    ap₂ (λ (a b : Bool). a || b) (run_is id value before worth first count) (minted_are id value (before ++ Mint m reference count worth first ∷ []) es)
    ∙ sym (list_any-append (is_same id value) (run_from before worth first count) (minted_from (before ++ Mint m reference count worth first ∷ []) es))
minted_are id value before (e ∷ es) = minted_are id value (before ++ e ∷ []) es

-- ---- what is left

pub sums_alike : (f g : Part → ℕ) → ((p : Part) → f p ≡ g p) → (ps : List Part) → sum_by f ps ≡ sum_by g ps
sums_alike f g same [] = refl
sums_alike f g same (p ∷ ps) = omega (arith, sum_by-cons f p ps, sum_by-cons g p ps, same p, sums_alike f g same ps)

module _ (h : History) (spent : ℕ → Bool) (t : ℕ) (is : (id : ℕ) → spent id ≡ is_spent h id) (now : time h ≡ t) where
  pub out_is : (pieces : List Scrip) → sum_by (out_at spent t) (map part_of pieces) ≡ outstanding pieces h
  out_is pieces =
      sums_alike (out_at spent t) (still_out h) (λ p. ap₂ (λ (b : Bool) (n : ℕ). cond (not b && ltb n p.expires) p.value 0) (is p.id) (sym now)) (map part_of pieces)
      ∙ outstanding_is h pieces

  pub gone_is : (pieces : List Scrip) → sum_by (gone_at spent t) (map part_of pieces) ≡ lapsed pieces h
  gone_is pieces =
      sums_alike (gone_at spent t) (gone_by h) (λ p. ap₂ (λ (b : Bool) (n : ℕ). cond (not b && leb p.expires n) p.value 0) (is p.id) (sym now)) (map part_of pieces)
      ∙ lapsed_is h pieces
