-- A sale can't stand with those before it exactly where what is kept of its identity bars it.
use Rattle.std.proofs.Common.{◌≡◌, ℕ, Bool, true, false, cond, not, ◌&&◌, ◌||◌, List, [], ◌∷◌, Option, Some, None, refl, sym, ap, ◌∙◌, arith, eqb}
use Rattle.std.specs.List.{list_any}
use Rattle.std.proofs.lemmas.Bool.{eqb-true}
use Rattle.std.proofs.lemmas.Bool.Decides.{nat_tests}
use Rattle.relayed_books.specs.Tree.{Sold, clash}
use Rattle.relayed_books.specs.Seen.{Mark, marked, is_of, mark_from, is_barred}

-- ---- tests

or_false : (a : Bool) → (a || false) ≡ a
or_false true = refl
or_false false = refl

or_true : (a : Bool) → (a || true) ≡ true
or_true true = refl
or_true false = refl

or_assoc : (a b c : Bool) → ((a || b) || c) ≡ (a || (b || c))
or_assoc true b c = refl
or_assoc false b c = refl

-- one more sale of the identity, whose value is that of the first or not
one_more : (mixed licensed other stock free : Bool) → (false || ((mixed || other) || ((licensed || stock) && free))) ≡ ((other || (stock && free)) || (false || (mixed || (licensed && free))))
one_more true licensed other stock free = sym (or_true (other || (stock && free)))
one_more false licensed true stock free = refl
one_more false true false stock true = sym (or_true (stock && true))
one_more false true false stock false = sym (or_both stock)
  where
    or_both : (s : Bool) → ((s && false) || false) ≡ false
    or_both true = refl
    or_both false = refl
one_more false false false stock free = sym (or_false (stock && free))

-- whether a sale of the identity clashes with another, and what was kept with this one
abbrev with_one : Option Mark → Sold → Sold → Bool
with_one o t s = (not (eqb t.piece.value s.piece.value) || (not t.stock && not s.stock)) || is_barred o s

marked_bars : (o : Option Mark) (t s : Sold) → is_barred (Some (marked o t)) s ≡ with_one o t s
marked_bars None t s = sym (or_false (not (eqb t.piece.value s.piece.value) || (not t.stock && not s.stock)))
marked_bars (Some m) t s = go (eqb m.value s.piece.value) refl
  where
    go : (b : Bool) → eqb m.value s.piece.value ≡ b
        → (not b || ((m.mixed || not (eqb m.value t.piece.value)) || ((m.licensed || not t.stock) && not s.stock)))
        ≡ ((not (eqb t.piece.value s.piece.value) || (not t.stock && not s.stock)) || (not b || (m.mixed || (m.licensed && not s.stock))))
    go false is = sym (or_true (not (eqb t.piece.value s.piece.value) || (not t.stock && not s.stock)))
    go true is =
        let same : eqb m.value t.piece.value ≡ eqb t.piece.value s.piece.value = ap (λ (n : ℕ). eqb n t.piece.value) (eqb-true m.value s.piece.value is) ∙ turned s.piece.value t.piece.value in
        ap (λ (x : Bool). false || ((m.mixed || not x) || ((m.licensed || not t.stock) && not s.stock))) same
        ∙ one_more m.mixed m.licensed (not (eqb t.piece.value s.piece.value)) (not t.stock) (not s.stock)
      where
        turned : (a b : ℕ) → eqb a b ≡ eqb b a
        turned a b = grind (arith, nat_tests)

-- ---- all sales

pub barred_by : (o : Option Mark) (s : Sold) (ts : List Sold) → is_barred (mark_from o s.vendor s.piece.id ts) s ≡ (list_any (clash s) ts || is_barred o s)
barred_by o s [] = refl
barred_by o s (t ∷ ts) = go (is_of s.vendor s.piece.id t) (λ x. barred_by x s ts)
  where
    go : (b : Bool) → ((x : Option Mark) → is_barred (mark_from x s.vendor s.piece.id ts) s ≡ (list_any (clash s) ts || is_barred x s))
        → is_barred (mark_from (cond b (Some (marked o t)) o) s.vendor s.piece.id ts) s
        ≡ (((b && (not (eqb t.piece.value s.piece.value) || (not t.stock && not s.stock))) || list_any (clash s) ts) || is_barred o s)
    go false rest = rest o
    go true rest =
        rest (Some (marked o t)) ∙ ap (λ (x : Bool). list_any (clash s) ts || x) (marked_bars o t s)
        ∙ swap (list_any (clash s) ts) (not (eqb t.piece.value s.piece.value) || (not t.stock && not s.stock)) (is_barred o s)
      where
        swap : (a b c : Bool) → (a || (b || c)) ≡ ((b || a) || c)
        swap true b c = ap (λ (x : Bool). x || c) (sym (or_true b))
        swap false b c = ap (λ (x : Bool). x || c) (sym (or_false b))

-- from the first sale on
pub seen_bars : (s : Sold) (earlier : List Sold) → is_barred (mark_from None s.vendor s.piece.id earlier) s ≡ list_any (clash s) earlier
seen_bars s earlier = barred_by None s earlier ∙ or_false (list_any (clash s) earlier)
