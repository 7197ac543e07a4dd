-- What loops over books keep, at one more book.
use Rattle.std.proofs.Common.{◌≡◌, ℕ, ◌+◌, ◌<◌, Bool, true, false, cond, not, List, [], ◌∷◌, ◌++◌, length, take, drop, get_or, map, filter, Option, Some, None, option_map, refl, sym, ap, ap₂, ◌∙◌, append-nil}
use Rattle.std.specs.Option.{option_or}
use Rattle.std.proofs.lemmas.List.{map-append, drop_more}
use Rattle.std.proofs.lemmas.List.Elements.{filter-append}
use Rattle.audit_model.specs.declared.sums.VendorSums.{VendorSums}
use Rattle.audit_sums.specs.declared.audit_sums.BookSums.{BookSums}
use Rattle.audit_search.specs.declared.shop.Shop.{Shop}
use Rattle.audit_search.specs.declared.spent.Left.{Left}
use Rattle.audit_search.specs.Shops.{IsShopOf}
use Rattle.audit_search.specs.Checks.{is_desk, left_in, stranger_in, row_with, row_of, first_over}
use Rattle.audit_search.specs.Findings.{vendors_among, AreShopsOf}
use Rattle.audit_search.proofs.Loops.{one_more}

-- the next element, and those behind it
pub next_drop : {X : Type 0} (xs : List X) (i : ℕ) (x : X) → i < length xs → x ≡ get_or xs i x → drop i xs ≡ x ∷ drop (i + 1) xs
next_drop {X = X} xs i x lt is = drop_more xs i x lt ∙ ap (λ (y : X). y ∷ drop (i + 1) xs) (sym is)

vendors_more : (books : List BookSums) (i : ℕ) (s : BookSums) → i < length books → s ≡ get_or books i s
    → vendors_among (take (i + 1) books) ≡ vendors_among (take i books) ++ cond (not (is_desk s)) (s ∷ []) []
vendors_more books i s lt is = ap vendors_among (one_more books i s lt is) ∙ filter-append (λ x. not (is_desk x)) (take i books) (s ∷ [])

-- a broker's book is no vendor's
pub vendors_same : (books : List BookSums) (i : ℕ) (s : BookSums) → i < length books → s ≡ get_or books i s → is_desk s ≡ true → vendors_among (take (i + 1) books) ≡ vendors_among (take i books)
vendors_same books i s lt is desk =
    vendors_more books i s lt is ∙ ap (λ (d : Bool). vendors_among (take i books) ++ cond (not d) (s ∷ []) []) desk ∙ append-nil (vendors_among (take i books))

pub vendors_next : (books : List BookSums) (i : ℕ) (s : BookSums) → i < length books → s ≡ get_or books i s → is_desk s ≡ false → vendors_among (take (i + 1) books) ≡ vendors_among (take i books) ++ s ∷ []
vendors_next books i s lt is desk = vendors_more books i s lt is ∙ ap (λ (d : Bool). vendors_among (take i books) ++ cond (not d) (s ∷ []) []) desk

-- ---- shops

pub shops_more : (b : BookSums) (vs : List BookSums) (shops : List Shop) (v : BookSums) (s : Shop) → AreShopsOf b vs shops → IsShopOf b v s → AreShopsOf b (vs ++ v ∷ []) (shops ++ s ∷ [])
shops_more b [] [] v s of one = (one, tt)
shops_more b (w ∷ ws) (x ∷ xs) v s of one = (of.0, shops_more b ws xs v s of.1 one)
shops_more b [] (x ∷ xs) v s of one = absurd of
shops_more b (w ∷ ws) [] v s of one = absurd of

-- ---- sums

-- without a stranger the search goes on
pub search_on : (shops : List Shop) (books : List BookSums) (i : ℕ) (s : BookSums) (whole : Option (ℕ × ℕ)) → i < length books → s ≡ get_or books i s → stranger_in shops s ≡ None
    → first_over i shops (drop i books) ≡ whole → first_over (i + 1) shops (drop (i + 1) books) ≡ whole
search_on shops books i s whole lt is none so_far =
    sym (ap (first_over i shops) (next_drop books i s lt is)
    ∙ ap (λ (o : Option ℕ). option_or (option_map (λ id. (i, id)) o) (first_over (i + 1) shops (drop (i + 1) books))) none) ∙ so_far

-- with one it ends
pub search_ends : (shops : List Shop) (books : List BookSums) (i : ℕ) (s : BookSums) (id : ℕ) (whole : Option (ℕ × ℕ)) → i < length books → s ≡ get_or books i s → stranger_in shops s ≡ Some id
    → first_over i shops (drop i books) ≡ whole → whole ≡ Some (i, id)
search_ends shops books i s id whole lt is some so_far =
    sym so_far ∙ ap (first_over i shops) (next_drop books i s lt is)
    ∙ ap (λ (o : Option ℕ). option_or (option_map (λ x. (i, x)) o) (first_over (i + 1) shops (drop (i + 1) books))) some

pub rows_more : (shops : List Shop) (books : List BookSums) (i : ℕ) (s : BookSums) (left : Left) (old new : List VendorSums) → i < length books → s ≡ get_or books i s → left ≡ left_in shops s
    → old ≡ map (row_of shops) (vendors_among (take i books)) → new ≡ cond (is_desk s) old (old ++ row_with s left ∷ [])
    → new ≡ map (row_of shops) (vendors_among (take (i + 1) books))
rows_more shops books i s left old new lt is left_is so_far upd = go (is_desk s) refl upd
  where
    go : (d : Bool) → is_desk s ≡ d → new ≡ cond d old (old ++ row_with s left ∷ []) → new ≡ map (row_of shops) (vendors_among (take (i + 1) books))
    go true e u = u ∙ so_far ∙ sym (ap (map (row_of shops)) (vendors_same books i s lt is e))
    go false e u =
        u ∙ ap₂ (λ (l : List VendorSums) (x : Left). l ++ row_with s x ∷ []) so_far left_is
        ∙ sym (ap (map (row_of shops)) (vendors_next books i s lt is e) ∙ map-append (row_of shops) (vendors_among (take i books)) (s ∷ []))

last_is : (xs : List BookSums) (s b : BookSums) → xs ++ s ∷ [] ≡ b ∷ [] → s ≡ b
last_is [] s b e = cc
last_is (x ∷ []) s b e = absurd cc
last_is (x ∷ y ∷ xs) s b e = absurd cc

pub desk_more : (shops : List Shop) (books : List BookSums) (i : ℕ) (s : BookSums) (left old new : Left) → i < length books → s ≡ get_or books i s → left ≡ left_in shops s
    → ((b : BookSums) → filter is_desk (take i books) ≡ b ∷ [] → old ≡ left_in shops b) → new ≡ cond (is_desk s) left old
    → (b : BookSums) → filter is_desk (take (i + 1) books) ≡ b ∷ [] → new ≡ left_in shops b
desk_more shops books i s left old new lt is left_is so_far upd b one = go (is_desk s) refl upd (sym more ∙ one)
  where
    more : filter is_desk (take (i + 1) books) ≡ filter is_desk (take i books) ++ cond (is_desk s) (s ∷ []) []
    more = ap (filter is_desk) (one_more books i s lt is) ∙ filter-append is_desk (take i books) (s ∷ [])

    go : (d : Bool) → is_desk s ≡ d → new ≡ cond d left old → filter is_desk (take i books) ++ cond (is_desk s) (s ∷ []) [] ≡ b ∷ [] → new ≡ left_in shops b
    go true e u f = u ∙ left_is ∙ ap (left_in shops) (last_is (filter is_desk (take i books)) s b (sym (ap (λ (d : Bool). filter is_desk (take i books) ++ cond d (s ∷ []) []) e) ∙ f))
    go false e u f = u ∙ so_far b (sym (ap (λ (d : Bool). filter is_desk (take i books) ++ cond d (s ∷ []) []) e ∙ append-nil (filter is_desk (take i books))) ∙ f)
