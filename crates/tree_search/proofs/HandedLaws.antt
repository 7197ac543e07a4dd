-- Pieces of which each identity is taken once.
use Rattle.std.proofs.Common.{◌≡◌, ℕ, ◌+◌, ◌<◌, Bool, true, false, cond, not, ◌||◌, List, [], ◌∷◌, ◌++◌, map, sum_by, length, take, drop, get_or, refl, sym, ap, ap₂, ◌∙◌, arith, eqb, eqb-true, append_assoc}
use Rattle.std.specs.List.{list_any}
use Rattle.std.proofs.lemmas.List.Sums.{sum_by-cons}
use Rattle.scrip_form.specs.Scrip.{Scrip}
use Rattle.ledger_model.specs.Sums.{values}
use Rattle.audit_model.specs.declared.part.Part.{Part}
use Rattle.audit_model.specs.Parts.{part_of}
use Rattle.audit_model.specs.Brokers.{once_from, again_from}
use Rattle.audit_search.specs.Known.{has_id}
use Rattle.audit_search.proofs.Ties.{turned}
use Rattle.audit_search.proofs.Loops.{any_more}
use Rattle.audit_search.proofs.TotalLaws.{next_drop}
use Rattle.tree_search.specs.Handed.{value_of, is_id, fresh, stale}

-- ---- pieces of the ledger

seen_is : (ids : List ℕ) (id : ℕ) → has_id ids id ≡ list_any (λ k. eqb k id) ids
seen_is [] id = refl
seen_is (k ∷ ks) id = ap₂ (λ (a b : Bool). a || b) (turned id k) (seen_is ks id)

pub fresh_is : (seen : List ℕ) (ps : List Scrip) → fresh seen (map part_of ps) ≡ map part_of (once_from seen ps)
fresh_is seen [] = refl
fresh_is seen (p ∷ ps) =
    ap (λ (b : Bool). cond b (fresh seen (map part_of ps)) (part_of p ∷ fresh (p.id ∷ seen) (map part_of ps))) (seen_is seen p.id)
    ∙ go (list_any (λ k. eqb k p.id) seen) (fresh_is seen ps) (fresh_is (p.id ∷ seen) ps)
  where
    go : (b : Bool) → fresh seen (map part_of ps) ≡ map part_of (once_from seen ps) → fresh (p.id ∷ seen) (map part_of ps) ≡ map part_of (once_from (p.id ∷ seen) ps)
        → cond b (fresh seen (map part_of ps)) (part_of p ∷ fresh (p.id ∷ seen) (map part_of ps)) ≡ map part_of (cond b (once_from seen ps) (p ∷ once_from (p.id ∷ seen) ps))
    go true was one = was
    go false was one = ap (λ (l : List Part). part_of p ∷ l) one

stale_are : (seen : List ℕ) (ps : List Scrip) → stale seen (map part_of ps) ≡ map part_of (again_from seen ps)
stale_are seen [] = refl
stale_are seen (p ∷ ps) =
    ap (λ (b : Bool). cond b (part_of p ∷ stale seen (map part_of ps)) (stale (p.id ∷ seen) (map part_of ps))) (seen_is seen p.id)
    ∙ go (list_any (λ k. eqb k p.id) seen) (stale_are seen ps) (stale_are (p.id ∷ seen) ps)
  where
    go : (b : Bool) → stale seen (map part_of ps) ≡ map part_of (again_from seen ps) → stale (p.id ∷ seen) (map part_of ps) ≡ map part_of (again_from (p.id ∷ seen) ps)
        → cond b (part_of p ∷ stale seen (map part_of ps)) (stale (p.id ∷ seen) (map part_of ps)) ≡ map part_of (cond b (p ∷ again_from seen ps) (again_from (p.id ∷ seen) ps))
    go true was one = ap (λ (l : List Part). part_of p ∷ l) was
    go false was one = one

values_are : (ps : List Scrip) → sum_by value_of (map part_of ps) ≡ values ps
values_are [] = refl
values_are (p ∷ ps) = omega (arith, sum_by-cons value_of (part_of p) (map part_of ps), sum_by-cons (λ (q : Scrip). q.value) p ps, values_are ps)

pub stale_is : (seen : List ℕ) (ps : List Scrip) → sum_by value_of (stale seen (map part_of ps)) ≡ values (again_from seen ps)
stale_is seen ps = ap (sum_by value_of) (stale_are seen ps) ∙ values_are (again_from seen ps)

-- ---- what was seen

-- what was seen counts by what stands in it alone
pub fresh_alike : (xs ys : List ℕ) → ((id : ℕ) → has_id xs id ≡ has_id ys id) → (ps : List Part) → fresh xs ps ≡ fresh ys ps
fresh_alike xs ys same [] = refl
fresh_alike xs ys same (p ∷ ps) =
    ap (λ (b : Bool). cond b (fresh xs ps) (p ∷ fresh (p.id ∷ xs) ps)) (same p.id)
    ∙ go (has_id ys p.id) (fresh_alike xs ys same ps) (fresh_alike (p.id ∷ xs) (p.id ∷ ys) (λ id. ap (λ (b : Bool). eqb id p.id || b) (same id)) ps)
  where
    go : (b : Bool) → fresh xs ps ≡ fresh ys ps → fresh (p.id ∷ xs) ps ≡ fresh (p.id ∷ ys) ps → cond b (fresh xs ps) (p ∷ fresh (p.id ∷ xs) ps) ≡ cond b (fresh ys ps) (p ∷ fresh (p.id ∷ ys) ps)
    go true was one = was
    go false was one = ap (λ (l : List Part). p ∷ l) one

pub stale_alike : (xs ys : List ℕ) → ((id : ℕ) → has_id xs id ≡ has_id ys id) → (ps : List Part) → stale xs ps ≡ stale ys ps
stale_alike xs ys same [] = refl
stale_alike xs ys same (p ∷ ps) =
    ap (λ (b : Bool). cond b (p ∷ stale xs ps) (stale (p.id ∷ xs) ps)) (same p.id)
    ∙ go (has_id ys p.id) (stale_alike xs ys same ps) (stale_alike (p.id ∷ xs) (p.id ∷ ys) (λ id. ap (λ (b : Bool). eqb id p.id || b) (same id)) ps)
  where
    go : (b : Bool) → stale xs ps ≡ stale ys ps → stale (p.id ∷ xs) ps ≡ stale (p.id ∷ ys) ps → cond b (p ∷ stale xs ps) (stale (p.id ∷ xs) ps) ≡ cond b (p ∷ stale ys ps) (stale (p.id ∷ ys) ps)
    go true was one = ap (λ (l : List Part). p ∷ l) was
    go false was one = one

or_false : (b : Bool) → (b || false) ≡ b
or_false true = refl
or_false false = refl

-- what comes later is fresh beside all that came before
pub fresh_append : (seen later : List ℕ) (xs ys : List Part) → ((id : ℕ) → has_id later id ≡ (has_id seen id || list_any (is_id id) xs)) → fresh seen (xs ++ ys) ≡ fresh seen xs ++ fresh later ys
fresh_append seen later [] ys same = fresh_alike seen later (λ id. sym (same id ∙ or_false (has_id seen id))) ys
fresh_append seen later (p ∷ xs) ys same = go (has_id seen p.id) refl (fresh_append seen later xs ys) (fresh_append (p.id ∷ seen) later xs ys)
  where
    known : has_id seen p.id ≡ true → (id : ℕ) (t : Bool) → eqb id p.id ≡ t → (has_id seen id || (t || list_any (is_id id) xs)) ≡ (has_id seen id || list_any (is_id id) xs)
    known e id false f = refl
    known e id true f =
        let here : has_id seen id ≡ true = ap (has_id seen) (eqb-true id p.id f) ∙ e in
        ap (λ (b : Bool). b || (true || list_any (is_id id) xs)) here ∙ sym (ap (λ (b : Bool). b || list_any (is_id id) xs) here)

    swap : (a b c : Bool) → (a || (b || c)) ≡ ((b || a) || c)
    swap true true c = refl
    swap true false c = refl
    swap false true c = refl
    swap false false c = refl

    go : (b : Bool) → has_id seen p.id ≡ b → (((id : ℕ) → has_id later id ≡ (has_id seen id || list_any (is_id id) xs)) → fresh seen (xs ++ ys) ≡ fresh seen xs ++ fresh later ys)
        → (((id : ℕ) → has_id later id ≡ (has_id (p.id ∷ seen) id || list_any (is_id id) xs)) → fresh (p.id ∷ seen) (xs ++ ys) ≡ fresh (p.id ∷ seen) xs ++ fresh later ys)
        → cond b (fresh seen (xs ++ ys)) (p ∷ fresh (p.id ∷ seen) (xs ++ ys)) ≡ cond b (fresh seen xs) (p ∷ fresh (p.id ∷ seen) xs) ++ fresh later ys
    go true e was one = was (λ id. same id ∙ known e id (eqb id p.id) refl)
    go false e was one = ap (λ (l : List Part). p ∷ l) (one (λ id. same id ∙ swap (has_id seen id) (eqb id p.id) (list_any (is_id id) xs)))

-- ---- one more piece

-- what a set tells of a key that is put in
pub was_new : (had added : Bool) → added ≡ not had → added ≡ true → had ≡ false
was_new true added is e = absurd (cc (sym is ∙ e))
was_new false added is e = refl

pub was_seen : (had added : Bool) → added ≡ not had → added ≡ false → had ≡ true
was_seen true added is e = refl
was_seen false added is e = absurd (cc (sym is ∙ e))

module _ (more : List Part) (i : ℕ) (p : Part) (n : ℕ) (old new : List ℕ) (lt : i < length more) (is : p ≡ get_or more i p) (num : n ≡ p.id) (put : (id : ℕ) → has_id new id ≡ cond (eqb n id) true (has_id old id)) where
  -- with an identity that was new
  now_seen : (id : ℕ) → has_id new id ≡ has_id (p.id ∷ old) id
  now_seen id = put id ∙ ap (λ (b : Bool). cond b true (has_id old id)) (ap (λ (m : ℕ). eqb m id) num ∙ turned p.id id) ∙ go (eqb id p.id)
    where
      go : (b : Bool) → cond b true (has_id old id) ≡ (b || has_id old id)
      go true = refl
      go false = refl

  -- with one that was seen before
  still_seen : has_id old p.id ≡ true → (id : ℕ) → has_id new id ≡ has_id old id
  still_seen was id = now_seen id ∙ go (eqb id p.id) refl
    where
      go : (b : Bool) → eqb id p.id ≡ b → (b || has_id old id) ≡ has_id old id
      go true e = sym (ap (has_id old) (eqb-true id p.id e) ∙ was)
      go false e = refl

  pub fresh_next : has_id old p.id ≡ false → (done all done' : List Part) → done ++ fresh old (drop i more) ≡ all → done' ≡ done ++ p ∷ [] → done' ++ fresh new (drop (i + 1) more) ≡ all
  fresh_next new_one done all done' so_far is_done =
      ap (λ (l : List Part). l ++ fresh new (drop (i + 1) more)) is_done
      ∙ append_assoc done (p ∷ []) (fresh new (drop (i + 1) more))
      ∙ ap (λ (l : List Part). done ++ p ∷ l) (fresh_alike new (p.id ∷ old) now_seen (drop (i + 1) more))
      ∙ sym (ap (λ (l : List Part). done ++ fresh old l) (next_drop more i p lt is)
      ∙ ap (λ (b : Bool). done ++ cond b (fresh old (drop (i + 1) more)) (p ∷ fresh (p.id ∷ old) (drop (i + 1) more))) new_one)
      ∙ so_far

  pub fresh_same : has_id old p.id ≡ true → (done all : List Part) → done ++ fresh old (drop i more) ≡ all → done ++ fresh new (drop (i + 1) more) ≡ all
  fresh_same was done all so_far =
      ap (λ (l : List Part). done ++ l) (fresh_alike new old (still_seen was) (drop (i + 1) more))
      ∙ sym (ap (λ (l : List Part). done ++ fresh old l) (next_drop more i p lt is)
      ∙ ap (λ (b : Bool). done ++ cond b (fresh old (drop (i + 1) more)) (p ∷ fresh (p.id ∷ old) (drop (i + 1) more))) was)
      ∙ so_far

  pub stale_next : has_id old p.id ≡ false → (sum all : ℕ) → sum + sum_by value_of (stale old (drop i more)) ≡ all → sum + sum_by value_of (stale new (drop (i + 1) more)) ≡ all
  stale_next new_one sum all so_far =
      ap (λ (l : List Part). sum + sum_by value_of l) (stale_alike new (p.id ∷ old) now_seen (drop (i + 1) more))
      ∙ sym (ap (λ (l : List Part). sum + sum_by value_of (stale old l)) (next_drop more i p lt is)
      ∙ ap (λ (b : Bool). sum + sum_by value_of (cond b (p ∷ stale old (drop (i + 1) more)) (stale (p.id ∷ old) (drop (i + 1) more)))) new_one)
      ∙ so_far

  pub stale_same : has_id old p.id ≡ true → (sum all sum' : ℕ) → sum + sum_by value_of (stale old (drop i more)) ≡ all → sum' ≡ sum + p.value → sum' + sum_by value_of (stale new (drop (i + 1) more)) ≡ all
  stale_same was sum all sum' so_far is_sum =
      let before : sum + sum_by value_of (p ∷ stale old (drop (i + 1) more)) ≡ all =
      sym (ap (λ (l : List Part). sum + sum_by value_of (stale old l)) (next_drop more i p lt is)
      ∙ ap (λ (b : Bool). sum + sum_by value_of (cond b (p ∷ stale old (drop (i + 1) more)) (stale (p.id ∷ old) (drop (i + 1) more)))) was) ∙ so_far in
      let same : sum_by value_of (stale new (drop (i + 1) more)) ≡ sum_by value_of (stale old (drop (i + 1) more)) = ap (sum_by value_of) (stale_alike new old (still_seen was) (drop (i + 1) more)) in
      omega (arith, before, same, is_sum, sum_by-cons value_of p (stale old (drop (i + 1) more)))

  pub seen_next : (first : List ℕ) → ((id : ℕ) → has_id old id ≡ (has_id first id || list_any (is_id id) (take i more))) → (id : ℕ) → has_id new id ≡ (has_id first id || list_any (is_id id) (take (i + 1) more))
  seen_next first so_far id =
      now_seen id ∙ ap (λ (b : Bool). eqb id p.id || b) (so_far id)
      ∙ swap (eqb id p.id) (has_id first id) (list_any (is_id id) (take i more))
      ∙ ap (λ (b : Bool). has_id first id || b) (sym (any_more (is_id id) more i p lt is))
    where
      swap : (a b c : Bool) → (a || (b || c)) ≡ (b || (c || a))
      swap true true c = refl
      swap true false true = refl
      swap true false false = refl
      swap false true c = refl
      swap false false true = refl
      swap false false false = refl
