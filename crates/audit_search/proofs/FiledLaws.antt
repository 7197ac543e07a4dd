-- Shops that are found by their names, and a sale that is kept with one of them.
use Rattle.std.proofs.Common.{◌≡◌, ℕ, zero, suc, ◌+◌, ◌<◌, Bool, true, false, cond, eqb, eqb-true, ◌&&◌, List, [], ◌∷◌, ◌++◌, length, take, get_or, map, filter, filter_map, bytes_eq, Option, Some, None, option_map, refl, sym, ap, ap₂, ◌∙◌, subst, arith, append-nil, length-append}
use Rattle.std.specs.Prelude.{option_to_list, is_some}
use Rattle.std.specs.Option.{option_or}
use Rattle.std.specs.List.{AllZip, cons_option}
use Rattle.std.proofs.Math.ListN.{set}
use Rattle.std.proofs.lemmas.Bool.{false≢true}
use Rattle.std.proofs.lemmas.List.{map-append}
use Rattle.std.proofs.lemmas.List.Folds.{find-append}
use Rattle.std.proofs.lemmas.List.Elements.{filter-append, filter_map-append}
use Rattle.std.proofs.lemmas.Slice.Eq.{bytes_eq-Decides}
use Rattle.name_places.specs.NamePlaces.{NamePlacesView, place_of}
use Rattle.audit_model.specs.declared.part.Part.{Part}
use Rattle.audit_model.specs.declared.sold.Sold.{Sold}
use Rattle.audit_sums.specs.declared.rows.Stocked.{Stocked}
use Rattle.audit_sums.specs.declared.audit_sums.BookSums.{BookSums}
use Rattle.audit_sums.specs.Learned.{name_of}
use Rattle.audit_search.specs.declared.shop.Shop.{Shop}
use Rattle.audit_search.specs.Shops.{IsShopOf, IsAsBefore, stocked_row, in_stock, part_sold, parts_sold}
use Rattle.audit_search.specs.Strange.{is_shop, shop_in}
use Rattle.audit_search.specs.Filed.{place_in, AreFiled, EachFound, HaveStocked, HaveSold}
use Rattle.audit_search.specs.Checks.{is_desk}
use Rattle.audit_search.specs.Findings.{vendors_among, AreShopsOf}
use Rattle.audit_search.proofs.Ties.{turned}
use Rattle.audit_search.proofs.ShopLaws.{row_append}
use Rattle.audit_search.proofs.TotalLaws.{vendors_same, vendors_next}

abbrev pub shop_names : List Shop → List (List ℕ)
shop_names shops = map (λ (s : Shop). s.name) shops

-- ---- the place of a name

pub place_there : (shops : List Shop) (name : List ℕ) (n : ℕ) (x : Shop) → place_in (shop_names shops) name ≡ Some n → (n < length shops) × (shop_in shops name ≡ Some (get_or shops n x))
place_there [] name n x e = absurd cc
place_there (s ∷ ss) name n x e = go (bytes_eq s.name name) e (place_in (shop_names ss) name) refl (λ k. place_there ss name k x)
  where
    go : (t : Bool) → cond t (Some 0) (option_map (λ k. k + 1) (place_in (shop_names ss) name)) ≡ Some n → (o : Option ℕ) → place_in (shop_names ss) name ≡ o
        → ((k : ℕ) → place_in (shop_names ss) name ≡ Some k → (k < length ss) × (shop_in ss name ≡ Some (get_or ss k x)))
        → (n < length (s ∷ ss)) × (cond t (Some s) (shop_in ss name) ≡ Some (get_or (s ∷ ss) n x))
    go true f o g ih =
        let first : 0 ≡ n = cc in
        subst (λ (k : ℕ). (k < length (s ∷ ss)) × (Some s ≡ Some (get_or (s ∷ ss) k x))) first (omega arith, refl)
    go false f None g ih = absurd (cc (sym (ap (option_map (λ (k : ℕ). k + 1)) g) ∙ f))
    go false f (Some k) g ih =
        let at : Some (k + 1) ≡ Some n = sym (ap (option_map (λ (k : ℕ). k + 1)) g) ∙ f in
        let next : k + 1 ≡ n = cc in
        let is : suc k ≡ n = omega (arith, next) in
        let later = ih k g in
        subst (λ (m : ℕ). (m < length (s ∷ ss)) × (shop_in ss name ≡ Some (get_or (s ∷ ss) m x))) is (omega (arith, later.0), later.1)

pub place_within : (shops : List Shop) (name : List ℕ) (n : ℕ) → place_in (shop_names shops) name ≡ Some n → n < length shops
place_within [] name n e = absurd cc
place_within (s ∷ ss) name n e = (place_there (s ∷ ss) name n s e).0

-- the shop that stands in the place of a name is found
pub found_there : (shops : List Shop) (name : List ℕ) (n : ℕ) (x : Shop) → place_in (shop_names shops) name ≡ Some n → x ≡ get_or shops n x → Some x ≡ shop_in shops name
found_there shops name n x e is = sym ((place_there shops name n x e).1 ∙ ap (λ (z : Shop). Some z) (sym is))

pub place_lacks : (shops : List Shop) (name : List ℕ) → place_in (shop_names shops) name ≡ None → shop_in shops name ≡ None
place_lacks [] name e = refl
place_lacks (s ∷ ss) name e = go (bytes_eq s.name name) e (place_in (shop_names ss) name) refl (place_lacks ss name)
  where
    go : (t : Bool) → cond t (Some 0) (option_map (λ k. k + 1) (place_in (shop_names ss) name)) ≡ None → (o : Option ℕ) → place_in (shop_names ss) name ≡ o
        → (place_in (shop_names ss) name ≡ None → shop_in ss name ≡ None) → cond t (Some s) (shop_in ss name) ≡ None
    go true f o g ih = absurd (cc f)
    go false f None g ih = ih g
    go false f (Some k) g ih = absurd (cc (sym (ap (option_map (λ (k : ℕ). k + 1)) g) ∙ f))

-- one more name
place_more : (xs : List (List ℕ)) (x q : List ℕ) → place_in (xs ++ x ∷ []) q ≡ option_or (place_in xs q) (cond (bytes_eq x q) (Some (length xs)) None)
place_more [] x q = refl
place_more (y ∷ ys) x q = go (bytes_eq y q) (place_in ys q) refl (place_more ys x q)
  where
    later : (t : Bool) (n : ℕ) → option_map (λ (k : ℕ). k + 1) (cond t (Some n) None) ≡ cond t (Some (suc n)) None
    later true n = ap (λ (k : ℕ). Some k) (omega arith)
    later false n = refl

    go : (t : Bool) (o : Option ℕ) → place_in ys q ≡ o → place_in (ys ++ x ∷ []) q ≡ option_or (place_in ys q) (cond (bytes_eq x q) (Some (length ys)) None)
        → cond t (Some 0) (option_map (λ (k : ℕ). k + 1) (place_in (ys ++ x ∷ []) q))
        ≡ option_or (cond t (Some 0) (option_map (λ (k : ℕ). k + 1) (place_in ys q))) (cond (bytes_eq x q) (Some (length (y ∷ ys))) None)
    go true o e ih = refl
    go false None e ih =
        ap (option_map (λ (k : ℕ). k + 1)) (ih ∙ ap (λ (p : Option ℕ). option_or p (cond (bytes_eq x q) (Some (length ys)) None)) e)
        ∙ later (bytes_eq x q) (length ys) ∙ sym (ap (λ (p : Option ℕ). option_or (option_map (λ (k : ℕ). k + 1) p) (cond (bytes_eq x q) (Some (length (y ∷ ys))) None)) e)
    go false (Some n) e ih =
        ap (option_map (λ (k : ℕ). k + 1)) (ih ∙ ap (λ (p : Option ℕ). option_or p (cond (bytes_eq x q) (Some (length ys)) None)) e)
        ∙ sym (ap (λ (p : Option ℕ). option_or (option_map (λ (k : ℕ). k + 1) p) (cond (bytes_eq x q) (Some (length (y ∷ ys))) None)) e)

-- a new name has the place behind the others
pub placed_more : (xs : List (List ℕ)) (name q : List ℕ) (count : ℕ) (old new : Option ℕ) → count ≡ length xs → place_in xs name ≡ None → old ≡ place_in xs q
    → new ≡ cond (bytes_eq q name) (Some count) old → new ≡ place_in (xs ++ name ∷ []) q
placed_more xs name q count old new long lacks so_far upd = go (bytes_eq q name) refl
  where
    go : (t : Bool) → bytes_eq q name ≡ t → new ≡ place_in (xs ++ name ∷ []) q
    go true e =
        let same : q ≡ name = (bytes_eq-Decides q name).0 e in
        let turned : bytes_eq name q ≡ true = (bytes_eq-Decides name q).1 (sym same) in
        let none : place_in xs q ≡ None = ap (place_in xs) same ∙ lacks in
        upd ∙ ap (λ (b : Bool). cond b (Some count) old) e ∙ ap (λ (k : ℕ). Some k) long
        ∙ sym (place_more xs name q ∙ ap₂ (λ (o : Option ℕ) (b : Bool). option_or o (cond b (Some (length xs)) None)) none turned)
    go false e =
        let turned : bytes_eq name q ≡ false = other_way q name e in
        upd ∙ ap (λ (b : Bool). cond b (Some count) old) e ∙ so_far
        ∙ sym (place_more xs name q ∙ ap (λ (b : Bool). option_or (place_in xs q) (cond b (Some (length xs)) None)) turned ∙ or_none (place_in xs q))
      where
        or_none : (o : Option ℕ) → option_or o None ≡ o
        or_none None = refl
        or_none (Some n) = refl

        other_way : (a b : List ℕ) → bytes_eq a b ≡ false → bytes_eq b a ≡ false
        other_way a b f = on (bytes_eq b a) refl
          where
            on : (t : Bool) → bytes_eq b a ≡ t → t ≡ false
            on true is = absurd (false≢true (sym f ∙ (bytes_eq-Decides a b).1 (sym ((bytes_eq-Decides b a).0 is))))
            on false is = refl

-- ---- shops that are only before but for what was sold

pub as_then : (a b c : Shop) → IsAsBefore a b → IsAsBefore b c → IsAsBefore a c
as_then a b c e f = f ∙ ap (λ (s : Shop). record s { stock = c.stock; sold = c.sold }) e

-- where one part alone changed
pub as_sold : (x y : Shop) → y ≡ record x { sold = y.sold } → IsAsBefore x y
as_sold x y e = e ∙ ap (λ st. record x { stock = st; sold = y.sold }) (sym (ap (λ (z : Shop). z.stock) e))

pub as_stocked : (x y : Shop) → y ≡ record x { stock = y.stock } → IsAsBefore x y
as_stocked x y e = e ∙ ap (λ all. record x { stock = y.stock; sold = all }) (sym (ap (λ (z : Shop). z.sold) e))

pub all_same : (xs : List Shop) → AllZip IsAsBefore xs xs
all_same [] = tt
all_same (x ∷ xs) = (refl, all_same xs)

pub same_names : (xs ys : List Shop) → AllZip IsAsBefore xs ys → shop_names ys ≡ shop_names xs
same_names [] [] same = refl
same_names (x ∷ xs) (y ∷ ys) same = ap₂ (λ (n : List ℕ) (ns : List (List ℕ)). n ∷ ns) (ap (λ (s : Shop). s.name) same.0) (same_names xs ys same.1)
same_names [] (y ∷ ys) same = absurd same
same_names (x ∷ xs) [] same = absurd same

pub same_set : (xs ys : List Shop) (n : ℕ) (x y : Shop) → n < length ys → x ≡ get_or ys n x → IsAsBefore x y → AllZip IsAsBefore xs ys → AllZip IsAsBefore xs (set ys n y)
same_set [] [] n x y lt is only same = tt
same_set (a ∷ xs) (b ∷ ys) zero x y lt is only same = (as_then a b y same.0 (subst (λ (s : Shop). IsAsBefore s y) is only), same.1)
same_set (a ∷ xs) (b ∷ ys) (suc n) x y lt is only same = (same.0, same_set xs ys n x y (omega (arith, lt)) is only same.1)
same_set [] (b ∷ ys) n x y lt is only same = absurd same
same_set (a ∷ xs) [] n x y lt is only same = absurd same

pub same_shops : (b : BookSums) (vs : List BookSums) (xs ys : List Shop) → AreShopsOf b vs xs → AllZip IsAsBefore xs ys → AreShopsOf b vs ys
same_shops b [] [] [] of same = tt
same_shops b (v ∷ vs) (x ∷ xs) (y ∷ ys) of same = (
  subst (IsShopOf b v) (sym same.0) (record { name' = of.0.name'; licence' = of.0.licence'; minted' = of.0.minted' }),
  same_shops b vs xs ys of.1 same.1,
)
same_shops b vs [] (y ∷ ys) of same = absurd same
same_shops b vs (x ∷ xs) [] of same = absurd same
same_shops b [] (x ∷ xs) ys of same = absurd of
same_shops b (v ∷ vs) [] ys of same = absurd of

pub still_filed : (places : NamePlacesView) (xs ys : List Shop) → AreFiled places xs → AllZip IsAsBefore xs ys → AreFiled places ys
still_filed places xs ys filed same name = filed name ∙ ap (λ (l : List (List ℕ)). place_in l name) (sym (same_names xs ys same))

pub names_are : (b : BookSums) (vs : List BookSums) (shops : List Shop) → AreShopsOf b vs shops → shop_names shops ≡ map name_of vs
names_are b [] [] of = refl
names_are b (v ∷ vs) (s ∷ ss) of = ap₂ (λ (n : List ℕ) (ns : List (List ℕ)). n ∷ ns) of.0.name' (names_are b vs ss of.1)
names_are b [] (s ∷ ss) of = absurd of
names_are b (v ∷ vs) [] of = absurd of

pub filed_by : (places : NamePlacesView) (b : BookSums) (vs : List BookSums) (shops : List Shop) → ((name : List ℕ) → place_of places name ≡ place_in (map name_of vs) name) → AreShopsOf b vs shops → AreFiled places shops
filed_by places b vs shops placed of name = placed name ∙ ap (λ (l : List (List ℕ)). place_in l name) (sym (names_are b vs shops of))

-- ---- what was sold of a vendor, after one more sale

sold_step : (shop : Shop) (done : List Sold) (s : Sold) → parts_sold shop (done ++ s ∷ []) ≡ parts_sold shop done ++ filter_map (part_sold shop) (cond (bytes_eq s.vendor shop.name) (s ∷ []) [])
sold_step shop done s =
    ap (filter_map (part_sold shop)) (filter-append (λ x. bytes_eq x.vendor shop.name) done (s ∷ []))
    ∙ filter_map-append (part_sold shop) (filter (λ x. bytes_eq x.vendor shop.name) done) (filter (λ x. bytes_eq x.vendor shop.name) (s ∷ []))

sold_other : (shop : Shop) (done : List Sold) (s : Sold) → bytes_eq s.vendor shop.name ≡ false → parts_sold shop (done ++ s ∷ []) ≡ parts_sold shop done
sold_other shop done s other =
    sold_step shop done s ∙ ap (λ (b : Bool). parts_sold shop done ++ filter_map (part_sold shop) (cond b (s ∷ []) [])) other ∙ append-nil (parts_sold shop done)

sold_mine : (shop : Shop) (done : List Sold) (s : Sold) → bytes_eq s.vendor shop.name ≡ true → parts_sold shop (done ++ s ∷ []) ≡ parts_sold shop done ++ option_to_list (part_sold shop s)
sold_mine shop done s mine =
    sold_step shop done s ∙ ap (λ (b : Bool). parts_sold shop done ++ filter_map (part_sold shop) (cond b (s ∷ []) [])) mine ∙ ap (λ (l : List Part). parts_sold shop done ++ l) (one (part_sold shop s))
  where
    one : (o : Option Part) → cons_option o [] ≡ option_to_list o
    one None = refl
    one (Some p) = refl

-- a shop that is found has the name
pub name_found : (shops : List Shop) (name : List ℕ) (shop : Shop) → shop_in shops name ≡ Some shop → shop.name ≡ name
name_found [] name shop e = absurd cc
name_found (s ∷ ss) name shop e = go (bytes_eq s.name name) refl e (name_found ss name shop)
  where
    go : (t : Bool) → bytes_eq s.name name ≡ t → cond t (Some s) (shop_in ss name) ≡ Some shop → (shop_in ss name ≡ Some shop → shop.name ≡ name) → shop.name ≡ name
    go true f g ih = let same : s ≡ shop = cc in ap (λ (x : Shop). x.name) (sym same) ∙ (bytes_eq-Decides s.name name).0 f
    go false f g ih = ih g

set_here : (shops : List Shop) (n : ℕ) (x y : Shop) (name : List ℕ) → place_in (shop_names shops) name ≡ Some n → x ≡ get_or shops n x → y.name ≡ x.name → shop_in (set shops n y) name ≡ Some y
set_here [] n x y name e is same = absurd cc
set_here (s ∷ ss) n x y name e is same = go (bytes_eq s.name name) refl e (place_in (shop_names ss) name) refl (λ k f g. set_here ss k x y name f g same)
  where
    go : (t : Bool) → bytes_eq s.name name ≡ t → cond t (Some 0) (option_map (λ k. k + 1) (place_in (shop_names ss) name)) ≡ Some n → (o : Option ℕ) → place_in (shop_names ss) name ≡ o
        → ((k : ℕ) → place_in (shop_names ss) name ≡ Some k → x ≡ get_or ss k x → shop_in (set ss k y) name ≡ Some y) → shop_in (set (s ∷ ss) n y) name ≡ Some y
    go true f g o h ih =
        let first : n ≡ 0 = cc in
        let named : bytes_eq y.name name ≡ true = ap (λ (m : List ℕ). bytes_eq m name) (same ∙ ap (λ (z : Shop). z.name) (is ∙ ap (λ (k : ℕ). get_or (s ∷ ss) k x) first)) ∙ f in
        ap (λ (k : ℕ). shop_in (set (s ∷ ss) k y) name) first ∙ ap (λ (b : Bool). cond b (Some y) (shop_in ss name)) named
    go false f g None h ih = absurd (cc (sym (ap (option_map (λ (k : ℕ). k + 1)) h) ∙ g))
    go false f g (Some k) h ih =
        let at : Some (k + 1) ≡ Some n = sym (ap (option_map (λ (k : ℕ). k + 1)) h) ∙ g in
        let next : k + 1 ≡ n = cc in
        let is_next : n ≡ suc k = omega (arith, next) in
        ap (λ (m : ℕ). shop_in (set (s ∷ ss) m y) name) is_next ∙ ap (λ (b : Bool). cond b (Some s) (shop_in (set ss k y) name)) f
        ∙ ih k h (is ∙ ap (λ (m : ℕ). get_or (s ∷ ss) m x) is_next)

set_other : (shops : List Shop) (n : ℕ) (x y : Shop) (name : List ℕ) → x ≡ get_or shops n x → y.name ≡ x.name → bytes_eq x.name name ≡ false → shop_in (set shops n y) name ≡ shop_in shops name
set_other [] n x y name is same other = refl
set_other (s ∷ ss) zero x y name is same other =
    ap (λ (b : Bool). cond b (Some y) (shop_in ss name)) (ap (λ (m : List ℕ). bytes_eq m name) same ∙ other)
    ∙ sym (ap (λ (b : Bool). cond b (Some s) (shop_in ss name)) (ap (λ (z : Shop). bytes_eq z.name name) (sym is) ∙ other))
set_other (s ∷ ss) (suc n) x y name is same other = ap (λ (o : Option Shop). cond (bytes_eq s.name name) (Some s) o) (set_other ss n x y name is same other)

-- ---- one of the shops changes

-- where the shop that a vendor has is changed, and the others are of other vendors
pub each_next : (P Q : Shop → Type 0) (shops : List Shop) (n : ℕ) (x y : Shop) (vendor : List ℕ) → place_in (shop_names shops) vendor ≡ Some n → x ≡ get_or shops n x → y.name ≡ x.name
    → ((z : Shop) → bytes_eq vendor z.name ≡ false → P z → Q z) → (x.name ≡ vendor → P x → Q y) → EachFound P shops → EachFound Q (set shops n y)
each_next P Q shops n x y vendor place is same others one each name shop found = go (bytes_eq vendor name) refl
  where
    here : shop_in shops vendor ≡ Some x
    here = (place_there shops vendor n x place).1 ∙ ap (λ (z : Shop). Some z) (sym is)

    named : x.name ≡ vendor
    named = name_found shops vendor x here

    go : (t : Bool) → bytes_eq vendor name ≡ t → Q shop
    go true e =
        let both : vendor ≡ name = (bytes_eq-Decides vendor name).0 e in
        let at : Some y ≡ Some shop = sym (ap (shop_in (set shops n y)) (sym both) ∙ set_here shops n x y vendor place is same) ∙ found in
        let is_y : y ≡ shop = cc in
        subst Q is_y (one named (each vendor x here))
    go false e =
        let before : shop_in shops name ≡ Some shop = sym (set_other shops n x y name is same (ap (λ (m : List ℕ). bytes_eq m name) named ∙ e)) ∙ found in
        others shop (ap (bytes_eq vendor) (name_found shops name shop before) ∙ e) (each name shop before)

-- where a vendor has no shop
pub each_nowhere : (P Q : Shop → Type 0) (shops : List Shop) (vendor : List ℕ) → place_in (shop_names shops) vendor ≡ None → ((z : Shop) → bytes_eq vendor z.name ≡ false → P z → Q z) → EachFound P shops → EachFound Q shops
each_nowhere P Q shops vendor lacks others each name shop found = go (bytes_eq vendor name) refl
  where
    go : (t : Bool) → bytes_eq vendor name ≡ t → Q shop
    go true e =
        let both : vendor ≡ name = (bytes_eq-Decides vendor name).0 e in
        let none : shop_in shops name ≡ None = ap (shop_in shops) (sym both) ∙ place_lacks shops vendor lacks in
        absurd (cc (sym none ∙ found))
    go false e = others shop (ap (bytes_eq vendor) (name_found shops name shop found) ∙ e) (each name shop found)

-- ---- one more sale

sold_kept : (done : List Sold) (s : Sold) (z : Shop) → bytes_eq s.vendor z.name ≡ false → z.sold.items ≡ parts_sold z done → z.sold.items ≡ parts_sold z (done ++ s ∷ [])
sold_kept done s z other kept = kept ∙ sym (sold_other z done s other)

pub sold_next : (shops : List Shop) (n : ℕ) (x y : Shop) (done : List Sold) (s : Sold) → place_in (shop_names shops) s.vendor ≡ Some n → x ≡ get_or shops n x → y ≡ record x { sold = y.sold }
    → y.sold.items ≡ x.sold.items ++ option_to_list (part_sold x s) → HaveSold shops done → HaveSold (set shops n y) (done ++ s ∷ [])
sold_next shops n x y done s place is only more have =
    each_next (λ z. z.sold.items ≡ parts_sold z done) (λ z. z.sold.items ≡ parts_sold z (done ++ s ∷ [])) shops n x y s.vendor place is (ap (λ (z : Shop). z.name) only) (sold_kept done s)
    (λ named kept.
    more ∙ ap (λ (l : List Part). l ++ option_to_list (part_sold x s)) kept ∙ sym (sold_mine x done s ((bytes_eq-Decides s.vendor x.name).1 (sym named)))
    ∙ sym (ap (λ (z : Shop). parts_sold z (done ++ s ∷ [])) only))
    have

pub sold_nowhere : (shops : List Shop) (done : List Sold) (s : Sold) → place_in (shop_names shops) s.vendor ≡ None → HaveSold shops done → HaveSold shops (done ++ s ∷ [])
sold_nowhere shops done s lacks have =
    each_nowhere (λ z. z.sold.items ≡ parts_sold z done) (λ z. z.sold.items ≡ parts_sold z (done ++ s ∷ [])) shops s.vendor lacks (sold_kept done s) have

-- ---- one more piece of stock

or_none : (o : Option Part) → option_or o None ≡ o
or_none None = refl
or_none (Some p) = refl

-- a piece that is put where its identity is new
pub put_new : (stock : ℕ → Option Part) (p : Part) (n id : ℕ) (new : Option Part) → n ≡ p.id → is_some (stock n) ≡ false → new ≡ cond (eqb n id) (Some p) (stock id)
    → new ≡ option_or (stock id) (cond (eqb id p.id) (Some p) None)
put_new stock p n id new num lacks upd = upd ∙ go (eqb n id) refl
  where
    none : (o : Option Part) → is_some o ≡ false → o ≡ None
    none None e = refl
    none (Some x) e = absurd cc

    same : eqb n id ≡ eqb id p.id
    same = turned n id ∙ ap (eqb id) num

    go : (t : Bool) → eqb n id ≡ t → cond t (Some p) (stock id) ≡ option_or (stock id) (cond (eqb id p.id) (Some p) None)
    go true e =
        sym (ap₂ (λ (o : Option Part) (b : Bool). option_or o (cond b (Some p) None)) (ap stock (sym (eqb-true n id e)) ∙ none (stock n) lacks) (sym same ∙ e))
    go false e = sym (ap (λ (b : Bool). option_or (stock id) (cond b (Some p) None)) (sym same ∙ e) ∙ or_none (stock id))

module _ (done : List Stocked) (r : Stocked) where
  -- what it adds to the stock of a vendor
  row_is : (name : List ℕ) (id : ℕ) → stocked_row (done ++ r ∷ []) name id ≡ option_or (stocked_row done name id) (cond (bytes_eq r.vendor name && eqb id r.part.id) (Some r.part) None)
  row_is name id = row_append name id done (r ∷ []) ∙ ap (option_or (stocked_row done name id)) (go (bytes_eq r.vendor name && eqb id r.part.id))
    where
      go : (t : Bool) → option_map (λ (x : Stocked). x.part) (cond t (Some r) None) ≡ cond t (Some r.part) None
      go true = refl
      go false = refl

  stock_kept : (z : Shop) → bytes_eq r.vendor z.name ≡ false → ((id : ℕ) → in_stock z id ≡ stocked_row done z.name id) → (id : ℕ) → in_stock z id ≡ stocked_row (done ++ r ∷ []) z.name id
  stock_kept z other kept id =
      kept id ∙ sym (row_is z.name id ∙ ap (λ (b : Bool). option_or (stocked_row done z.name id) (cond (b && eqb id r.part.id) (Some r.part) None)) other ∙ or_none (stocked_row done z.name id))

  pub stocked_next : (shops : List Shop) (n : ℕ) (x y : Shop) → place_in (shop_names shops) r.vendor ≡ Some n → x ≡ get_or shops n x → y ≡ record x { stock = y.stock }
      → ((id : ℕ) → in_stock y id ≡ option_or (in_stock x id) (cond (eqb id r.part.id) (Some r.part) None)) → HaveStocked shops done → HaveStocked (set shops n y) (done ++ r ∷ [])
  stocked_next shops n x y place is only put have =
      each_next (λ z. (id : ℕ) → in_stock z id ≡ stocked_row done z.name id) (λ z. (id : ℕ) → in_stock z id ≡ stocked_row (done ++ r ∷ []) z.name id) shops n x y r.vendor place is same stock_kept
      (λ named kept id.
      put id ∙ ap (λ (o : Option Part). option_or o (cond (eqb id r.part.id) (Some r.part) None)) (kept id)
      ∙ sym (row_is x.name id ∙ ap (λ (b : Bool). option_or (stocked_row done x.name id) (cond (b && eqb id r.part.id) (Some r.part) None)) ((bytes_eq-Decides r.vendor x.name).1 (sym named)))
      ∙ ap (λ (name : List ℕ). stocked_row (done ++ r ∷ []) name id) (sym same))
      have
    where
      same : y.name ≡ x.name
      same = ap (λ (z : Shop). z.name) only

  pub stocked_nowhere : (shops : List Shop) → place_in (shop_names shops) r.vendor ≡ None → HaveStocked shops done → HaveStocked shops (done ++ r ∷ [])
  stocked_nowhere shops lacks have =
      each_nowhere (λ z. (id : ℕ) → in_stock z id ≡ stocked_row done z.name id) (λ z. (id : ℕ) → in_stock z id ≡ stocked_row (done ++ r ∷ []) z.name id) shops r.vendor lacks stock_kept have

-- ---- what the other pass leaves

pub unsold_next : (shops : List Shop) (n : ℕ) (x y : Shop) (vendor : List ℕ) → place_in (shop_names shops) vendor ≡ Some n → x ≡ get_or shops n x → y ≡ record x { stock = y.stock } → HaveSold shops [] → HaveSold (set shops n y) []
unsold_next shops n x y vendor place is only have =
    each_next (λ z. z.sold.items ≡ []) (λ z. z.sold.items ≡ []) shops n x y vendor place is (ap (λ (z : Shop). z.name) only) (λ z other kept. kept) (λ named kept. ap (λ (z : Shop). z.sold.items) only ∙ kept) have

pub stock_stays : (shops : List Shop) (n : ℕ) (x y : Shop) (vendor : List ℕ) (rows : List Stocked) → place_in (shop_names shops) vendor ≡ Some n → x ≡ get_or shops n x → y ≡ record x { sold = y.sold }
    → HaveStocked shops rows → HaveStocked (set shops n y) rows
stock_stays shops n x y vendor rows place is only have =
    each_next (λ z. (id : ℕ) → in_stock z id ≡ stocked_row rows z.name id) (λ z. (id : ℕ) → in_stock z id ≡ stocked_row rows z.name id) shops n x y vendor place is same (λ z other kept. kept)
    (λ named kept id. ap (λ (z : Shop). in_stock z id) only ∙ kept id ∙ ap (λ (name : List ℕ). stocked_row rows name id) (sym same)) have
  where
    same : y.name ≡ x.name
    same = ap (λ (z : Shop). z.name) only

-- ---- a shop with nothing in stock and nothing sold

each_new : (P : Shop → Type 0) (old new : List Shop) (shop : Shop) → new ≡ old ++ shop ∷ [] → P shop → EachFound P old → EachFound P new
each_new P old new shop is one each name found e = go (shop_in old name) refl (sym (find-append (is_shop name) old (shop ∷ [])) ∙ ap (λ (l : List Shop). shop_in l name) (sym is) ∙ e)
  where
    last : (t : Bool) → cond t (Some shop) None ≡ Some found → P found
    last true f = let same : shop ≡ found = cc in subst P same one
    last false f = absurd (cc f)

    go : (o : Option Shop) → shop_in old name ≡ o → option_or (shop_in old name) (shop_in (shop ∷ []) name) ≡ Some found → P found
    go None f g = last (bytes_eq shop.name name) (sym (ap (λ (o : Option Shop). option_or o (shop_in (shop ∷ []) name)) f) ∙ g)
    go (Some z) f g = each name found (f ∙ sym (ap (λ (o : Option Shop). option_or o (shop_in (shop ∷ []) name)) f) ∙ g)

pub none_sold : (old new : List Shop) (shop : Shop) → new ≡ old ++ shop ∷ [] → shop.sold.items ≡ [] → HaveSold old [] → HaveSold new []
none_sold old new shop is none have = each_new (λ z. z.sold.items ≡ []) old new shop is none have

pub none_stocked : (old new : List Shop) (shop : Shop) → new ≡ old ++ shop ∷ [] → ((id : ℕ) → in_stock shop id ≡ None) → HaveStocked old [] → HaveStocked new []
none_stocked old new shop is none have = each_new (λ z. (id : ℕ) → in_stock z id ≡ None) old new shop is none have

-- ---- the places of the vendors' names, at one more book

pub names_next : (books : List BookSums) (i : ℕ) (s : BookSums) → i < length books → s ≡ get_or books i s → is_desk s ≡ false
    → map name_of (vendors_among (take (i + 1) books)) ≡ map name_of (vendors_among (take i books)) ++ name_of s ∷ []
names_next books i s lt is vendor = ap (map name_of) (vendors_next books i s lt is vendor) ∙ map-append name_of (vendors_among (take i books)) (s ∷ [])

pub longer : (books : List BookSums) (i : ℕ) (s : BookSums) (count : ℕ) → i < length books → s ≡ get_or books i s → is_desk s ≡ false → count ≡ length (map name_of (vendors_among (take i books)))
    → count + 1 ≡ length (map name_of (vendors_among (take (i + 1) books)))
longer books i s count lt is vendor long =
    omega (arith, long, ap length (names_next books i s lt is vendor), length-append (map name_of (vendors_among (take i books))) (name_of s ∷ []))

pub names_stay : (books : List BookSums) (i : ℕ) (s : BookSums) → i < length books → s ≡ get_or books i s → is_desk s ≡ true → map name_of (vendors_among (take i books)) ≡ map name_of (vendors_among (take (i + 1) books))
names_stay books i s lt is desk = sym (ap (map name_of) (vendors_same books i s lt is desk))

none_is : (o : Option ℕ) → is_some o ≡ false → o ≡ None
none_is None e = refl
none_is (Some n) e = absurd cc

pub placed_next : (books : List BookSums) (i : ℕ) (s : BookSums) (q own : List ℕ) (count : ℕ) (here old new : Option ℕ) → i < length books → s ≡ get_or books i s → is_desk s ≡ false → own ≡ name_of s
    → count ≡ length (map name_of (vendors_among (take i books))) → here ≡ place_in (map name_of (vendors_among (take i books))) own → is_some here ≡ false
    → old ≡ place_in (map name_of (vendors_among (take i books))) q → new ≡ cond (bytes_eq q own) (Some count) old → new ≡ place_in (map name_of (vendors_among (take (i + 1) books))) q
placed_next books i s q own count here old new lt is vendor named long at lacks so_far upd =
    let xs = map name_of (vendors_among (take i books)) in
    placed_more xs (name_of s) q count old new long (ap (place_in xs) (sym named) ∙ sym at ∙ none_is here lacks) so_far (upd ∙ ap (λ (x : List ℕ). cond (bytes_eq q x) (Some count) old) named)
    ∙ ap (λ (l : List (List ℕ)). place_in l q) (sym (names_next books i s lt is vendor))
