-- What one more sale does to what is kept of licences.
use Rattle.std.proofs.Common.{◌≡◌, ℕ, Bool, true, false, cond, not, ◌&&◌, ◌||◌, List, [], ◌∷◌, ◌++◌, Option, Some, None, option_map, refl, sym, ap, ap₂, ◌∙◌, eqb, eqb-true, bytes_eq}
use Rattle.std.specs.List.{list_any}
use Rattle.std.proofs.lemmas.Slice.Eq.{bytes_eq-Decides}
use Rattle.name_places.specs.NamePlaces.{NamePlacesView, place_of}
use Rattle.audit_model.specs.declared.part.Part.{Part}
use Rattle.audit_search.proofs.Ties.{turned}
use Rattle.relayed_books.specs.Tree.{Sold}
use Rattle.relayed_books.specs.Beside.{is_beside}
use Rattle.tree_search.specs.declared.licences.Seller.{Seller}
use Rattle.tree_search.specs.declared.licences.Licences.{Licences}
use Rattle.tree_search.specs.Marks.{AreApart, IsSale, Sellers, is_licensed_as, sold_also, sellers_from, is_other, seller_view, seller_at, LicencesShow}
use Rattle.tree_search.proofs.MarkLaws.{same_place}

or_false : (a : Bool) → (a || false) ≡ a
or_false true = refl
or_false false = refl

-- ---- another broker

also_other : (o : Option Sellers) (b c : List ℕ) → is_other (Some (sold_also o b)) c ≡ (not (bytes_eq b c) || is_other o c)
also_other None b c = sym (or_false (not (bytes_eq b c)))
also_other (Some x) b c = go (bytes_eq x.first c) refl
  where
    swap : (o n : Bool) → ((o || n) || false) ≡ (n || (o || false))
    swap true true = refl
    swap true false = refl
    swap false true = refl
    swap false false = refl

    both : (o m n : Bool) → ((o || m) || true) ≡ (n || (o || true))
    both true m true = refl
    both true m false = refl
    both false true true = refl
    both false true false = refl
    both false false true = refl
    both false false false = refl

    go : (y : Bool) → bytes_eq x.first c ≡ y → ((x.other || not (bytes_eq b x.first)) || not y) ≡ (not (bytes_eq b c) || (x.other || not y))
    go true e =
        ap (λ (n : List ℕ). (x.other || not (bytes_eq b n)) || false) ((bytes_eq-Decides x.first c).0 e) ∙ swap x.other (not (bytes_eq b c))
    go false e = both x.other (not (bytes_eq b x.first)) (not (bytes_eq b c))

beside_by : (s : Sold) (o : Option Sellers) (ts : List Sold) → is_other (sellers_from o s.vendor s.piece.id s.piece.value ts) s.broker ≡ (list_any (is_beside s) ts || is_other o s.broker)
beside_by s o [] = refl
beside_by s o (t ∷ ts) = go (not t.stock && bytes_eq t.vendor s.vendor) (eqb t.piece.id s.piece.id && eqb t.piece.value s.piece.value) (λ x. beside_by s x ts)
  where
    later : Option Sellers → Option Sellers
    later x = sellers_from x s.vendor s.piece.id s.piece.value ts

    swap : (a n c : Bool) → (a || (n || c)) ≡ ((n || a) || c)
    swap true true c = refl
    swap true false c = refl
    swap false true c = refl
    swap false false c = refl

    go : (l m : Bool) → ((x : Option Sellers) → is_other (later x) s.broker ≡ (list_any (is_beside s) ts || is_other x s.broker))
        → is_other (later (cond (l && m) (Some (sold_also o t.broker)) o)) s.broker ≡ (((l && (m && not (bytes_eq t.broker s.broker))) || list_any (is_beside s) ts) || is_other o s.broker)
    go true true rest =
        rest (Some (sold_also o t.broker)) ∙ ap (λ (x : Bool). list_any (is_beside s) ts || x) (also_other o t.broker s.broker)
        ∙ swap (list_any (is_beside s) ts) (not (bytes_eq t.broker s.broker)) (is_other o s.broker)
    go true false rest = rest o
    go false m rest = rest o

-- whether another broker sold the piece of a sale is what is kept of it
pub beside_is : (l : Licences) (places : NamePlacesView) (place : ℕ) (part : Part) (stock : Bool) (sales : List Sold) (s : Sold) (broker : List ℕ) → LicencesShow l places sales → place_of places s.vendor ≡ Some place
    → IsSale part stock s → s.broker ≡ broker → is_other (option_map seller_view (seller_at l place part.id part.value)) broker ≡ list_any (is_beside s) sales
beside_is l places place part stock sales s broker show at is named =
    ap₂ (λ (id value : ℕ). is_other (option_map seller_view (seller_at l place id value)) broker) (sym is.id') (sym is.value')
    ∙ ap₂ (λ (o : Option Sellers) (b : List ℕ). is_other o b) (show s.vendor place s.piece.id s.piece.value at) (sym named)
    ∙ beside_by s None sales ∙ or_false (list_any (is_beside s) sales)

-- ---- one more sale

sellers_more : (o : Option Sellers) (name : List ℕ) (id value : ℕ) (ts : List Sold) (s : Sold)
    → sellers_from o name id value (ts ++ s ∷ []) ≡ cond (is_licensed_as name id value s) (Some (sold_also (sellers_from o name id value ts) s.broker)) (sellers_from o name id value ts)
sellers_more o name id value [] s = refl
sellers_more o name id value (t ∷ ts) s = sellers_more (cond (is_licensed_as name id value t) (Some (sold_also o t.broker)) o) name id value ts s

-- a sale out of stock leaves all as it is
pub stock_leaves : (l : Licences) (places : NamePlacesView) (sales : List Sold) (s : Sold) → s.stock ≡ true → LicencesShow l places sales → LicencesShow l places (sales ++ s ∷ [])
stock_leaves l places sales s stock show name p id value there =
    show name p id value there
    ∙ sym (sellers_more None name id value sales s
    ∙ ap (λ (b : Bool). cond ((not b && bytes_eq s.vendor name) && (eqb s.piece.id id && eqb s.piece.value value)) (Some (sold_also (sellers_from None name id value sales) s.broker)) (sellers_from None name id value sales)) stock)

pub with_licence : (old new : Licences) (places : NamePlacesView) (place : ℕ) (part : Part) (sales : List Sold) (s : Sold) (broker : List ℕ) (x : Seller) → AreApart places → LicencesShow old places sales → place_of places s.vendor ≡ Some place
    → IsSale part false s → s.broker ≡ broker → seller_view x ≡ sold_also (option_map seller_view (seller_at old place part.id part.value)) broker
    → ((p id value : ℕ) → seller_at new p id value ≡ cond ((eqb p place && eqb id part.id) && eqb value part.value) (Some x) (seller_at old p id value)) → LicencesShow new places (sales ++ s ∷ [])
with_licence old new places place part sales s broker x apart show at is named also put name p id value there =
    ap (option_map seller_view) (put p id value)
    ∙ ap (λ (b : Bool). option_map seller_view (cond ((b && eqb id part.id) && eqb value part.value) (Some x) (seller_at old p id value))) (same_place places s.vendor name place p apart at there)
    ∙ go (bytes_eq s.vendor name) refl (eqb id part.id) refl (eqb value part.value) refl
    ∙ sym (sellers_more None name id value sales s
    ∙ ap (λ (b : Bool). cond ((not b && bytes_eq s.vendor name) && (eqb s.piece.id id && eqb s.piece.value value)) (some (sold_also here s.broker)) here) is.stock'
    ∙ ap₂ (λ (a b : Bool). cond (bytes_eq s.vendor name && (a && b)) (some (sold_also here s.broker)) here) (turned s.piece.id id ∙ ap (eqb id) is.id') (turned s.piece.value value ∙ ap (eqb value) is.value'))
  where
    here : Option Sellers
    here = sellers_from None name id value sales

    some : Sellers → Option Sellers
    some y = Some y

    go : (a : Bool) → bytes_eq s.vendor name ≡ a → (b : Bool) → eqb id part.id ≡ b → (c : Bool) → eqb value part.value ≡ c
        → option_map seller_view (cond ((a && b) && c) (Some x) (seller_at old p id value)) ≡ cond (a && (b && c)) (some (sold_also here s.broker)) here
    go false e b f c g = show name p id value there
    go true e false f c g = show name p id value there
    go true e true f false g = show name p id value there
    go true e true f true g =
        ap some also
        ∙ ap₂ (λ (o : Option Sellers) (b : List ℕ). some (sold_also o b)) (show s.vendor place part.id part.value at) (sym named)
        ∙ ap (λ (n : List ℕ). some (sold_also (sellers_from None n part.id part.value sales) s.broker)) ((bytes_eq-Decides s.vendor name).0 e)
        ∙ ap₂ (λ (i v : ℕ). some (sold_also (sellers_from None name i v sales) s.broker)) (sym (eqb-true id part.id f)) (sym (eqb-true value part.value g))

-- a map where a seller was put, by the number of its identity
pub put_seller : (old new : Licences) (place id number worth p q v : ℕ) (x : Seller) → number ≡ id → seller_at new p q v ≡ cond ((eqb place p && eqb number q) && eqb worth v) (Some x) (seller_at old p q v)
    → seller_at new p q v ≡ cond ((eqb p place && eqb q id) && eqb v worth) (Some x) (seller_at old p q v)
put_seller old new place id number worth p q v x same put =
    put
    ∙ ap₂ (λ (a b : Bool). cond ((a && b) && eqb worth v) (Some x) (seller_at old p q v)) (turned place p) (turned number q ∙ ap (eqb q) same)
    ∙ ap (λ (c : Bool). cond ((eqb p place && eqb q id) && c) (Some x) (seller_at old p q v)) (turned worth v)
