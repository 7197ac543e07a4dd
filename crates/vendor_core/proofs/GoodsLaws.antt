-- What one more entry changes of a vendor's goods.
use Rattle.std.proofs.Common.{◌≡◌, ℕ, ◌+◌, ◌≤◌, Bool, true, false, ◌||◌, cond, List, [], ◌∷◌, ◌++◌, length, filter, Option, Some, None, option_map, unwrap_or, refl, sym, ap, ap₂, ◌∙◌, arith}
use Rattle.std.specs.Prelude.{bytes_eq}
use Rattle.std.specs.List.{list_any, last_or}
use Rattle.std.proofs.lemmas.List.Folds.{list_any-append}
use Rattle.std.proofs.lemmas.Slice.Eq.{bytes_eq-Decides}
use Rattle.mc_records.specs.Entry.{Entry, Goods}
use Rattle.ledger_model.specs.Histories.{History}
use Rattle.ledger_model.specs.Goods.{is_goods_of, goods_in, goods_contents, bytes_in, in_force}
use Rattle.vendor_core.proofs.ListLemmas.{last_snoc, last_some}

-- the bytes that are compared are equal, either way round
pub bytes_eq_turned : (xs ys : List ℕ) → bytes_eq xs ys ≡ bytes_eq ys xs
bytes_eq_turned xs ys = go (bytes_eq xs ys) (bytes_eq ys xs) refl refl
  where
    go : (a b : Bool) → bytes_eq xs ys ≡ a → bytes_eq ys xs ≡ b → a ≡ b
    go true true p q = refl
    go false false p q = refl
    go true false p q = sym ((bytes_eq-Decides ys xs).1 (sym ((bytes_eq-Decides xs ys).0 p))) ∙ q
    go false true p q = sym p ∙ (bytes_eq-Decides xs ys).1 (sym ((bytes_eq-Decides ys xs).0 q))

pub bytes_same : (xs : List ℕ) → bytes_eq xs xs ≡ true
bytes_same xs = (bytes_eq-Decides xs xs).1 refl

-- ---- goods in force

pub goods_snoc : (h : History) (e : Entry) (target : List ℕ) → goods_in (h ++ e ∷ []) target ≡ cond (is_goods_of target e) (Some e) (goods_in h target)
goods_snoc h e target = last_snoc (is_goods_of target) None h e

-- ---- bytes in force

in_force_cons : (e : Entry) (h : History) → in_force (e ∷ h) ≡ bytes_in h e + in_force h
in_force_cons (Goods m target price kind contents) h = refl
in_force_cons _ h = omega arith

-- no goods come with an entry
abbrev pub BringsNoGoods : Entry → Type 0
BringsNoGoods e = (target : List ℕ) → is_goods_of target e ≡ false

bytes_quiet : (x e : Entry) (h : History) → BringsNoGoods e → bytes_in (h ++ e ∷ []) x ≡ bytes_in h x
bytes_quiet (Goods m target price kind contents) e h quiet =
    let more : list_any (is_goods_of target) (h ++ e ∷ []) ≡ list_any (is_goods_of target) h =
    list_any-append (is_goods_of target) h (e ∷ []) ∙ ap (λ (b : Bool). list_any (is_goods_of target) h || (b || false)) (quiet target) ∙ or_false (list_any (is_goods_of target) h) in
    ap (λ (b : Bool). cond b 0 (length contents)) more
  where
    or_false : (b : Bool) → (b || (false || false)) ≡ b
    or_false true = refl
    or_false false = refl
bytes_quiet _ e h quiet = refl

pub in_force_quiet : (h : History) (e : Entry) → BringsNoGoods e → bytes_in [] e ≡ 0 → in_force (h ++ e ∷ []) ≡ in_force h
in_force_quiet [] e quiet none = in_force_cons e [] ∙ ap (λ (n : ℕ). n + 0) none
in_force_quiet (x ∷ xs) e quiet none =
    in_force_cons x (xs ++ e ∷ []) ∙ ap₂ (λ (a b : ℕ). a + b) (bytes_quiet x e xs quiet) (in_force_quiet xs e quiet none) ∙ sym (in_force_cons x xs)

-- how many bytes of contents goods have, where there are some
abbrev pub bytes_of : Option Entry → ℕ
bytes_of o = length (unwrap_or (option_map goods_contents o) [])

-- of the first entry of a history, what is in force and what is not
at_target : (m price kind : ℕ) (target contents : List ℕ) (x : Entry) (xs : History) → is_goods_of target x ≡ true
    → (bytes_in (xs ++ Goods m target price kind contents ∷ []) x ≡ 0) × (bytes_in xs x ≡ cond (list_any (is_goods_of target) xs) 0 (bytes_of (Some x)))
at_target m price kind target contents (Goods mx at px kx cx) xs is =
    let same : at ≡ target = (bytes_eq-Decides at target).0 is in
    let more : list_any (is_goods_of at) (xs ++ Goods m target price kind contents ∷ []) ≡ true =
    list_any-append (is_goods_of at) xs (Goods m target price kind contents ∷ []) ∙ ap (λ (b : Bool). list_any (is_goods_of at) xs || (b || false)) (bytes_eq_turned target at ∙ is) ∙ or_true (list_any (is_goods_of at) xs) in
    (ap (λ (b : Bool). cond b 0 (length cx)) more, ap (λ (t : List ℕ). cond (list_any (is_goods_of t) xs) 0 (length cx)) same)
  where
    or_true : (b : Bool) → (b || (true || false)) ≡ true
    or_true true = refl
    or_true false = refl
at_target m price kind target contents _ xs is = absurd cc

elsewhere : (m price kind : ℕ) (target contents : List ℕ) (x : Entry) (xs : History) → is_goods_of target x ≡ false → bytes_in (xs ++ Goods m target price kind contents ∷ []) x ≡ bytes_in xs x
elsewhere m price kind target contents (Goods mx at px kx cx) xs is =
    let more : list_any (is_goods_of at) (xs ++ Goods m target price kind contents ∷ []) ≡ list_any (is_goods_of at) xs =
    list_any-append (is_goods_of at) xs (Goods m target price kind contents ∷ []) ∙ ap (λ (b : Bool). list_any (is_goods_of at) xs || (b || false)) (bytes_eq_turned target at ∙ is) ∙ or_false (list_any (is_goods_of at) xs) in
    ap (λ (b : Bool). cond b 0 (length cx)) more
  where
    or_false : (b : Bool) → (b || (false || false)) ≡ b
    or_false true = refl
    or_false false = refl
elsewhere m price kind target contents _ xs is = refl

-- What is in force after a Goods entry: its contents come in, and those that they replace go.
pub in_force_goods : (h : History) (m price kind : ℕ) (target contents : List ℕ)
    → in_force (h ++ Goods m target price kind contents ∷ []) + bytes_of (goods_in h target) ≡ in_force h + length contents
in_force_goods [] m price kind target contents = omega arith
in_force_goods (x ∷ xs) m price kind target contents = go (is_goods_of target x) refl (in_force_goods xs m price kind target contents)
  where
    now : History
    now = xs ++ Goods m target price kind contents ∷ []

    found : (b : Bool) → list_any (is_goods_of target) xs ≡ b → in_force now + bytes_of (goods_in xs target) ≡ in_force xs + length contents
        → in_force now + bytes_of (cond b (goods_in xs target) (Some x)) ≡ cond b 0 (bytes_of (Some x)) + in_force xs + length contents
    found true is ih = omega (arith, ih)
    found false is ih =
        let nothing : goods_in xs target ≡ None = last_some (is_goods_of target) None xs ∙ ap (λ (b : Bool). cond b (goods_in xs target) None) is in
        let none : bytes_of (goods_in xs target) ≡ 0 = ap bytes_of nothing in
        omega (arith, ih, none)

    go : (b : Bool) → is_goods_of target x ≡ b → in_force now + bytes_of (goods_in xs target) ≡ in_force xs + length contents
        → in_force ((x ∷ xs) ++ Goods m target price kind contents ∷ []) + bytes_of (last_or None (cond b (x ∷ filter (is_goods_of target) xs) (filter (is_goods_of target) xs))) ≡ in_force (x ∷ xs) + length contents
    go true is ih =
        let both = at_target m price kind target contents x xs is in
        let last : bytes_of (last_or (Some x) (filter (is_goods_of target) xs)) ≡ bytes_of (cond (list_any (is_goods_of target) xs) (goods_in xs target) (Some x)) = ap bytes_of (last_some (is_goods_of target) (Some x) xs) in
        omega (arith, in_force_cons x now, in_force_cons x xs, both.0, both.1, last, found (list_any (is_goods_of target) xs) refl ih)
    go false is ih = omega (arith, in_force_cons x now, in_force_cons x xs, elsewhere m price kind target contents x xs is, ih)

-- the contents in force of a target are among all that are in force
pub in_force_most : (h : History) (target : List ℕ) → bytes_of (goods_in h target) ≤ in_force h
in_force_most h target = omega (arith, in_force_goods h 0 0 0 target [])
