-- The targets on sale at one more entry.
use Rattle.std.proofs.Common.{◌≡◌, ℕ, Bool, true, false, cond, not, ◌||◌, List, [], ◌∷◌, ◌++◌, length, filter, filter_map, Option, Some, None, option_map, is_some, refl, sym, ap, ap₂, ◌∙◌, append-nil}
use Rattle.std.specs.Prelude.{bytes_eq}
use Rattle.std.specs.List.{list_any, last_or, cons_option}
use Rattle.std.proofs.lemmas.List.Elements.{filter-append, filter_map-append}
use Rattle.mc_records.specs.Entry.{Entry, Goods}
use Rattle.ledger_model.specs.Histories.{History}
use Rattle.ledger_model.specs.Goods.{is_goods_of, goods_in, goods_target, distinct, goods_targets}
use Rattle.vendor_core.specs.declared.edition.Article.{Article}
use Rattle.vendor_core.specs.declared.shelf.OnSale.{OnSale}
use Rattle.vendor_core.specs.Editions.{Sold, sold_by_entry, sold_by}
use Rattle.vendor_core.specs.Shelf.{on_sale_by, on_sale_of}
use Rattle.vendor_core.proofs.ListLemmas.{last_some}
use Rattle.vendor_core.proofs.GoodsLaws.{bytes_eq_turned}

-- ---- texts, each where it is found first, with one more

or_true : (b : Bool) → (b || true) ≡ true
or_true true = refl
or_true false = refl

or_false : (b : Bool) → (b || false) ≡ b
or_false true = refl
or_false false = refl

-- of one more text behind another one and those that differ from it
behind : (x y : List ℕ) (kept : List (List ℕ)) (b : Bool)
    → y ∷ filter (λ z. not (bytes_eq y z)) (cond b kept (kept ++ x ∷ []))
    ≡ cond (bytes_eq x y || b) (y ∷ filter (λ z. not (bytes_eq y z)) kept) ((y ∷ filter (λ z. not (bytes_eq y z)) kept) ++ x ∷ [])
behind x y kept true =
    sym (ap (λ (b : Bool). cond b (y ∷ filter (λ z. not (bytes_eq y z)) kept) ((y ∷ filter (λ z. not (bytes_eq y z)) kept) ++ x ∷ [])) (or_true (bytes_eq x y)))
behind x y kept false =
    ap (λ (zs : List (List ℕ)). y ∷ zs) (filter-append (λ z. not (bytes_eq y z)) kept (x ∷ []))
    ∙ ap (λ (b : Bool). y ∷ (filter (λ z. not (bytes_eq y z)) kept ++ cond (not b) (x ∷ []) [])) (bytes_eq_turned y x)
    ∙ last (bytes_eq x y)
    ∙ sym (ap (λ (b : Bool). cond b (y ∷ filter (λ z. not (bytes_eq y z)) kept) ((y ∷ filter (λ z. not (bytes_eq y z)) kept) ++ x ∷ [])) (or_false (bytes_eq x y)))
  where
    last : (b : Bool) → y ∷ (filter (λ z. not (bytes_eq y z)) kept ++ cond (not b) (x ∷ []) [])
        ≡ cond b (y ∷ filter (λ z. not (bytes_eq y z)) kept) ((y ∷ filter (λ z. not (bytes_eq y z)) kept) ++ x ∷ [])
    last true = ap (λ (zs : List (List ℕ)). y ∷ zs) (append-nil (filter (λ z. not (bytes_eq y z)) kept))
    last false = refl

pub distinct_snoc : (xs : List (List ℕ)) (x : List ℕ) → distinct (xs ++ x ∷ []) ≡ cond (list_any (bytes_eq x) xs) (distinct xs) (distinct xs ++ x ∷ [])
distinct_snoc [] x = refl
distinct_snoc (y ∷ ys) x =
    ap (λ (zs : List (List ℕ)). y ∷ filter (λ z. not (bytes_eq y z)) zs) (distinct_snoc ys x) ∙ behind x y (distinct ys) (list_any (bytes_eq x) ys)

-- ---- whether a target is among those of the goods

one_any : (target : List ℕ) (e : Entry) (xs : List (List ℕ)) (b : Bool) → list_any (bytes_eq target) xs ≡ b → list_any (bytes_eq target) (cons_option (goods_target e) xs) ≡ (is_goods_of target e || b)
one_any target (Goods m at price kind contents) xs b is = ap₂ (λ (a c : Bool). a || c) (bytes_eq_turned target at) is
one_any target e xs b is = is

any_goods : (target : List ℕ) (h : History) → list_any (bytes_eq target) (filter_map goods_target h) ≡ list_any (is_goods_of target) h
any_goods target [] = refl
any_goods target (e ∷ es) = one_any target e (filter_map goods_target es) (list_any (is_goods_of target) es) (any_goods target es)

last_any : {X : Type 0} (p : X → Bool) (xs : List X) → is_some (last_or None (filter p xs)) ≡ list_any p xs
last_any p [] = refl
last_any {X = X} p (y ∷ ys) = go (p y) (last_any p ys)
  where
    after : (b : Bool) (o : Option X) → is_some o ≡ b → is_some (cond b o (Some y)) ≡ true
    after true o is = is
    after false o is = refl

    go : (b : Bool) → is_some (last_or None (filter p ys)) ≡ list_any p ys → is_some (last_or None (cond b (y ∷ filter p ys) (filter p ys))) ≡ (b || list_any p ys)
    go true is = ap is_some (last_some p (Some y) ys) ∙ after (list_any p ys) (last_or None (filter p ys)) is
    go false is = is

sold_any : (x : Option Entry) (o : Option Article) → option_map sold_by_entry x ≡ option_map sold_by o → is_some x ≡ is_some o
sold_any None None e = refl
sold_any None (Some a) e = absurd cc
sold_any (Some x) None e = absurd cc
sold_any (Some x) (Some a) e = refl

-- ---- one more entry

targets_more : (h : History) (e : Entry) → goods_targets (h ++ e ∷ []) ≡ distinct (filter_map goods_target h ++ filter_map goods_target (e ∷ []))
targets_more h e = ap distinct (filter_map-append goods_target h (e ∷ []))

-- an entry that puts no goods on sale
pub targets_quiet : (h : History) (e : Entry) (listed : List (List ℕ)) → goods_target e ≡ None → goods_targets h ≡ listed → goods_targets (h ++ e ∷ []) ≡ listed
targets_quiet h e listed none is =
    targets_more h e ∙ ap (λ (o : Option (List ℕ)). distinct (filter_map goods_target h ++ cons_option o [])) none
    ∙ ap distinct (append-nil (filter_map goods_target h)) ∙ is

-- goods at a target, which is new exactly where it sells nothing
pub targets_listed : (h : History) (m price kind : ℕ) (target contents : List ℕ) (o : Option Article) (is_new : Bool) (old new : List (List ℕ))
    → option_map sold_by_entry (goods_in h target) ≡ option_map sold_by o → is_new ≡ not (is_some o) → goods_targets h ≡ old → new ≡ cond is_new (old ++ target ∷ []) old
    → goods_targets (h ++ Goods m target price kind contents ∷ []) ≡ new
targets_listed h m price kind target contents o is_new old new sells is was now =
    targets_more h (Goods m target price kind contents)
    ∙ distinct_snoc (filter_map goods_target h) target
    ∙ ap (λ (b : Bool). cond b (goods_targets h) (goods_targets h ++ target ∷ [])) (any_goods target h ∙ sym (last_any (is_goods_of target) h) ∙ sold_any (goods_in h target) o sells)
    ∙ ap (λ (ts : List (List ℕ)). cond (is_some o) ts (ts ++ target ∷ [])) was
    ∙ turned (is_some o)
    ∙ ap (λ (b : Bool). cond b (old ++ target ∷ []) old) (sym is)
    ∙ sym now
  where
    turned : (b : Bool) → cond b old (old ++ target ∷ []) ≡ cond (not b) (old ++ target ∷ []) old
    turned true = refl
    turned false = refl

-- whether a target is new, by what was looked for
pub is_new : {P : Type 0} (f : P → Article) (r : Option P) (o : Option Article) (none : Bool) → is_some r ≡ not none → option_map f r ≡ o → none ≡ not (is_some o)
is_new f None o true is same = ap (λ (x : Option Article). not (is_some x)) same
is_new f None o false is same = absurd cc
is_new f (Some p) o true is same = absurd cc
is_new f (Some p) o false is same = ap (λ (x : Option Article). not (is_some x)) same

-- ---- what a target sells

abbrev pub seen : Sold → OnSale
seen s = record { price = s.price; kind = s.brings.kind; length = length s.brings.bytes }

seen_of : (x : Option Entry) → option_map on_sale_of x ≡ option_map seen (option_map sold_by_entry x)
seen_of None = refl
seen_of (Some x) = refl

seen_by : (o : Option Article) → option_map seen (option_map sold_by o) ≡ option_map on_sale_by o
seen_by None = refl
seen_by (Some a) = refl

pub on_sale_is : (x : Option Entry) (o : Option Article) → option_map sold_by_entry x ≡ option_map sold_by o → option_map on_sale_by o ≡ option_map on_sale_of x
on_sale_is x o sells = sym (seen_by o) ∙ sym (ap (option_map seen) sells) ∙ sym (seen_of x)
