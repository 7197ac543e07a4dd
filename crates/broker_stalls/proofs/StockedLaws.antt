-- The stock of a vendor with the pieces of one more entry: all of it may be there, and each identity once.
use Rattle.std.proofs.Common.{◌≡◌, ℕ, Bool, true, false, eqb, ◌||◌, not, List, [], ◌∷◌, ◌++◌, Option, Some, None, option_map, unwrap_or, refl, sym, ap, subst, ◌∙◌, append-nil, append_assoc}
use Rattle.std.specs.Prelude.{IsTrue}
use Rattle.std.specs.List.{list_any, list_all, cons_option, AllByRecursion}
use Rattle.std.proofs.lemmas.Bool.{and_parts}
use Rattle.std.proofs.lemmas.List.Elements.{filter_map-append}
use Rattle.std.proofs.lemmas.List.Folds.{list_any-append}
use Rattle.scrip_form.specs.Scrip.{Scrip}
use Rattle.mc_records.specs.Entry.{Held}
use Rattle.ledger_model.specs.Stock.{held_piece, held_pieces, ids_of, may_be_stock, are_new}
use Rattle.ledger_model.specs.Laws.{AreDistinct}
use Rattle.ledger_model.proofs.ListLaws.{all_append}
use Rattle.ledger_model.proofs.AcceptLaws.{snoc_distinct}
use Rattle.ledger_model.proofs.StockLaws.{IsStock, all_stock}

-- ---- what may be stock

pub fits_more : (vendor : List ℕ) (old more : List Held) → list_all (λ held. unwrap_or (option_map (may_be_stock vendor) (held_piece held)) false) more ≡ true
    → AllByRecursion (λ p. IsTrue (may_be_stock vendor p)) (held_pieces old) → AllByRecursion (λ p. IsTrue (may_be_stock vendor p)) (held_pieces (old ++ more))
fits_more vendor old more may fits =
    subst (AllByRecursion (IsStock vendor)) (sym (filter_map-append held_piece old more)) (all_append (IsStock vendor) (held_pieces old) (held_pieces more) fits (all_stock vendor more may))

-- ---- identities that stand once

-- identities are known exactly where they are of some pieces
abbrev AreOf : List ℕ → List Scrip → Type 0
AreOf known ps = (id : ℕ) → list_any (λ k. eqb k id) known ≡ list_any (λ p. eqb p.id id) ps

ids_are_of : (helds : List Held) → AreOf (ids_of helds) (held_pieces helds)
ids_are_of [] id = refl
ids_are_of (x ∷ xs) id = go (held_piece x) (ids_are_of xs id)
  where
    go : (o : Option Scrip) → list_any (λ k. eqb k id) (ids_of xs) ≡ list_any (λ p. eqb p.id id) (held_pieces xs)
        → list_any (λ k. eqb k id) (cons_option (option_map (λ p. p.id) o) (ids_of xs)) ≡ list_any (λ p. eqb p.id id) (cons_option o (held_pieces xs))
    go None more = more
    go (Some p) more = ap (λ (b : Bool). eqb p.id id || b) more

known_more : (known : List ℕ) (ps : List Scrip) (p : Scrip) → AreOf known ps → AreOf (p.id ∷ known) (ps ++ p ∷ [])
known_more known ps p same id =
    ap (λ (b : Bool). eqb p.id id || b) (same id) ∙ turn (eqb p.id id) (list_any (λ q. eqb q.id id) ps) ∙ sym (list_any-append (λ q. eqb q.id id) ps (p ∷ []))
  where
    turn : (a b : Bool) → (a || b) ≡ (b || (a || false))
    turn true true = refl
    turn true false = refl
    turn false true = refl
    turn false false = refl

not_from : (b : Bool) → not b ≡ true → b ≡ false
not_from true e = absurd cc
not_from false e = refl

new_distinct : (known : List ℕ) (ps : List Scrip) (helds : List Held) → AreOf known ps → AreDistinct ps → are_new known (ids_of helds) ≡ true → AreDistinct (ps ++ held_pieces helds)
new_distinct known ps [] same distinct new = subst AreDistinct (sym (append-nil ps)) distinct
new_distinct known ps (x ∷ xs) same distinct new = go (held_piece x) new (λ k qs s d n. new_distinct k qs xs s d n)
  where
    Rest : Type 0
    Rest = (k : List ℕ) (qs : List Scrip) → AreOf k qs → AreDistinct qs → are_new k (ids_of xs) ≡ true → AreDistinct (qs ++ held_pieces xs)

    go : (o : Option Scrip) → are_new known (cons_option (option_map (λ p. p.id) o) (ids_of xs)) ≡ true → Rest → AreDistinct (ps ++ cons_option o (held_pieces xs))
    go None n rest = rest known ps same distinct n
    go (Some q) n rest =
        let parts = and_parts (not (list_any (λ k. eqb k q.id) known)) (are_new (q.id ∷ known) (ids_of xs)) n in
        let free : list_any (λ p. eqb p.id q.id) ps ≡ false = sym (same q.id) ∙ not_from _ parts.0 in
        subst AreDistinct (append_assoc ps (q ∷ []) (held_pieces xs))
        (rest (q.id ∷ known) (ps ++ q ∷ []) (known_more known ps q same) (snoc_distinct ps q distinct free) parts.1)

pub once_more : (old more : List Held) → are_new (ids_of old) (ids_of more) ≡ true → AreDistinct (held_pieces old) → AreDistinct (held_pieces (old ++ more))
once_more old more new once =
    subst AreDistinct (sym (filter_map-append held_piece old more)) (new_distinct (ids_of old) (held_pieces old) more (ids_are_of old) once new)
