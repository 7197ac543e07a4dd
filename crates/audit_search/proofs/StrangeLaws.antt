-- The first stranger of a book, by what was kept of it and by its history.
use Rattle.std.proofs.Common.{◌≡◌, ℕ, Bool, true, false, cond, ◌&&◌, ◌||◌, List, [], ◌∷◌, ◌++◌, map, filter_map, flat_map, find, eqb, bytes_eq, Option, Some, None, option_map, refl, sym, ap, ap₂, ◌∙◌}
use Rattle.std.specs.Prelude.{option_and_then, is_some}
use Rattle.std.specs.Option.{option_or}
use Rattle.std.specs.List.{list_any, cons_option, AllByRecursion}
use Rattle.scrip_form.specs.Scrip.{Scrip}
use Rattle.mc_records.specs.Entry.{Accept}
use Rattle.ledger_model.specs.Histories.{History}
use Rattle.ledger_model.specs.Houses.{site_name}
use Rattle.ledger_model.specs.Pieces.{piece_of, minted}
use Rattle.ledger_model.specs.Stock.{Sale, sale_of, sales, sold_piece, stock_pieces}
use Rattle.ledger_model.proofs.AccountLaws as names
use Rattle.audit_model.specs.Meets.{is_among}
use Rattle.audit_model.specs.Books.{HaveOwnNames}
use Rattle.audit_model.specs.Strangers.{handed_of, is_minted, stranger, sold_stranger, entry_strangers, first_of}
use Rattle.audit_model.specs.Parts.{part_of}
use Rattle.audit_model.proofs.Balanced.{no_other}
use Rattle.audit_model.proofs.Strange.{none_minted}
use Rattle.audit_model.specs.declared.sold.Sold.{Sold}
use Rattle.audit_sums.specs.Rows.{acceptance_of}
use Rattle.audit_model.specs.Sales.{sale_by}
use Rattle.audit_search.specs.declared.shop.Shop.{Shop}
use Rattle.audit_search.specs.Known.{knows}
use Rattle.audit_search.specs.Shops.{in_stock, part_sold}
use Rattle.audit_search.specs.Filed.{EachFound}
use Rattle.audit_search.specs.Strange.{not_in, shop_in, not_minted, next_sale, later_sales, strange_of, first_in}
use Rattle.audit_search.proofs.ShopLaws.{IsShopOn, IsShopAt, part_is}

pub first_append : (xs ys : List ℕ) → first_of (xs ++ ys) ≡ option_or (first_of xs) (first_of ys)
first_append [] ys = refl
first_append (x ∷ xs) ys = refl

-- a piece is a stranger where it fails a test
pub tells : (has : ℕ → ℕ → Bool) (test : Scrip → Bool) → ((p : Scrip) → has p.id p.value ≡ test p) → (o : Option Scrip) → not_in has (option_map part_of o) ≡ first_of (stranger test o)
tells has test same None = refl
tells has test same (Some p) = go (has p.id p.value) (same p)
  where
    go : (b : Bool) → b ≡ test p → cond b None (Some p.id) ≡ first_of (cond (test p) [] (p.id ∷ []))
    go true e = ap (λ (t : Bool). first_of (cond t [] (p.id ∷ []))) e
    go false e = ap (λ (t : Bool). first_of (cond t [] (p.id ∷ []))) e

-- ---- the shop of a vendor

-- the shops are those of the vendors at a broker, in their order
abbrev pub AreShopsAt : History → List History → List Shop → Type 0
AreShopsAt b [] [] = Unit {0}
AreShopsAt b (v ∷ vs) (s ∷ ss) = IsShopOn b v s × AreShopsAt b vs ss
AreShopsAt b _ _ = ⊥

-- the one vendor of a name, with his shop
pub record HasShop (b : History) (vs : List History) (shops : List Shop) (name : List ℕ) : Type 0 where
  pub vendor : History
  pub shop : Shop
  pub found : shop_in shops name ≡ Some shop
  pub stands : IsShopOn b vendor shop
  pub named : bytes_eq name shop.name ≡ true
  pub only : (p : Scrip) → is_minted vs name p ≡ is_among (minted vendor) p

pub has_shop : (b : History) (vs : List History) (shops : List Shop) (name : List ℕ) → AreShopsAt b vs shops → HaveOwnNames vs → list_any (λ v. bytes_eq name (site_name v)) vs ≡ true → HasShop b vs shops name
has_shop b [] [] name at own any = absurd cc
has_shop b (v ∷ vs) (s ∷ ss) name at own any = go (bytes_eq name (site_name v)) refl any (has_shop b vs ss name at.1 own.1)
  where
    same : bytes_eq s.name name ≡ bytes_eq name (site_name v)
    same = names.turned s.name name ∙ ap (bytes_eq name) at.0.name'

    go : (t : Bool) → bytes_eq name (site_name v) ≡ t → (t || list_any (λ w. bytes_eq name (site_name w)) vs) ≡ true
        → (list_any (λ w. bytes_eq name (site_name w)) vs ≡ true → HasShop b vs ss name) → HasShop b (v ∷ vs) (s ∷ ss) name
    go true e f ih = record {
      vendor = v;
      shop = s;
      found = ap (λ (c : Bool). cond c (Some s) (shop_in ss name)) (same ∙ e);
      stands = at.0;
      named = ap (bytes_eq name) at.0.name' ∙ e;
      only = λ p. ap (λ (c : Bool). (c && is_among (minted v) p) || is_minted vs name p) e ∙ ap (λ (c : Bool). is_among (minted v) p || c) (none_minted name p vs (no_other name (site_name v) vs e own.0)) ∙ or_none (is_among (minted v) p);
    }
      where
        or_none : (c : Bool) → (c || false) ≡ c
        or_none true = refl
        or_none false = refl
    go false e f ih =
        let r = ih f in
        record {
          vendor = r.vendor;
          shop = r.shop;
          found = ap (λ (c : Bool). cond c (Some s) (shop_in ss name)) (same ∙ e) ∙ r.found;
          stands = r.stands;
          named = r.named;
          only = λ p. ap (λ (c : Bool). (c && is_among (minted v) p) || is_minted vs name p) e ∙ r.only p;
        }
has_shop b [] (s ∷ ss) name at own any = absurd at
has_shop b (v ∷ vs) [] name at own any = absurd at

-- the stock of each shop is what the broker's history says
abbrev pub HaveStock : History → List Shop → Type 0
HaveStock b shops = EachFound (λ shop. (id : ℕ) → in_stock shop id ≡ option_map part_of (find (λ p. eqb p.id id) (stock_pieces b shop.name))) shops

pub with_stock : (b : History) (vs : List History) (shops : List Shop) (name : List ℕ) (r : HasShop b vs shops name) → HaveStock b shops → IsShopAt b r.vendor r.shop
with_stock b vs shops name r stocked = record {
  on = r.stands;
  stock' = λ id. stocked name r.shop r.found id ∙ ap (λ (n : List ℕ). option_map part_of (find (λ p. eqb p.id id) (stock_pieces b n))) r.stands.name';
}

-- ---- a sale

pub sale_tells : (b : History) (vs : List History) (shops : List Shop) (s : Sold) → AreShopsAt b vs shops → HaveStock b shops → HaveOwnNames vs → list_any (λ v. bytes_eq s.vendor (site_name v)) vs ≡ true
    → not_minted shops s ≡ first_of (sold_stranger vs b (Some (sale_by s)))
sale_tells b vs shops s at stocked own any = go s.stock
  where
    r : HasShop b vs shops s.vendor
    r = has_shop b vs shops s.vendor at own any

    go : (t : Bool) → cond t (option_and_then (λ shop. not_in (knows shop.minted) (part_sold shop s)) (shop_in shops s.vendor)) None
        ≡ first_of (cond t (stranger (is_minted vs s.vendor) (sold_piece b (sale_by s))) [])
    go false = refl
    go true =
        ap (option_and_then (λ (shop : Shop). not_in (knows shop.minted) (part_sold shop s))) r.found
        ∙ ap (not_in (knows r.shop.minted)) (part_is b r.vendor r.shop s (with_stock b vs shops s.vendor r stocked) r.named)
        ∙ tells (knows r.shop.minted) (is_minted vs s.vendor) (λ p. r.stands.minted' p.id p.value ∙ sym (r.only p)) (sold_piece b (sale_by s))

-- ---- the entries of a book

module _ (b : History) (vs : List History) (h : History) (has : ℕ → ℕ → Bool) (by_sale : Sold → Option ℕ)
    (same : (p : Scrip) → has p.id p.value ≡ is_among (handed_of b h) p) where
  -- what is said of a sale is what the ledger says
  abbrev pub Tells : Sold → Type 0
  Tells s = by_sale s ≡ first_of (sold_stranger vs h (Some (sale_by s)))

  one : (o : Option Scrip) (x : Option ℕ) (ids rest : List ℕ) → x ≡ first_of ids
      → (y : Option ℕ) → y ≡ first_of rest
      → option_or (option_or (not_in has (option_map part_of o)) x) y ≡ first_of ((stranger (is_among (handed_of b h)) o ++ ids) ++ rest)
  one o x ids rest e y f =
      ap₂ (λ (p q : Option ℕ). option_or p q) (ap₂ (λ (p q : Option ℕ). option_or p q) (tells has (is_among (handed_of b h)) same o) e ∙ sym (first_append (stranger (is_among (handed_of b h)) o) ids)) f
      ∙ sym (first_append (stranger (is_among (handed_of b h)) o ++ ids) rest)

  pub first_is : (es : History) (ss : List Sold) → map sale_by ss ≡ sales es → AllByRecursion Tells ss
      → first_in (not_in has) by_sale (filter_map acceptance_of es) ss ≡ first_of (flat_map (entry_strangers b vs h) es)
  first_is [] ss is all = refl
  first_is (Accept m scrip target sign price change deed ∷ es) ss is all = go (first_is es) (sale_of (Accept m scrip target sign price change deed)) ss is all
    where
      rest : List ℕ
      rest = flat_map (entry_strangers b vs h) es

      go : ((xs : List Sold) → map sale_by xs ≡ sales es → AllByRecursion Tells xs → first_in (not_in has) by_sale (filter_map acceptance_of es) xs ≡ first_of rest)
          → (o : Option Sale) (xs : List Sold) → map sale_by xs ≡ cons_option o (sales es) → AllByRecursion Tells xs
          → option_or (strange_of (not_in has) by_sale (record { piece = option_map part_of (piece_of scrip); sale = is_some o }) (next_sale (is_some o) xs)) (first_in (not_in has) by_sale (filter_map acceptance_of es) (later_sales (is_some o) xs))
          ≡ first_of ((stranger (is_among (handed_of b h)) (piece_of scrip) ++ sold_stranger vs h o) ++ rest)
      go later None xs f every = one (piece_of scrip) None [] rest refl (first_in (not_in has) by_sale (filter_map acceptance_of es) xs) (later xs f every)
      go later (Some x) [] f every = absurd cc
      go later (Some x) (s ∷ xs) f every =
          let head : sale_by s ≡ x = cc in
          let tail : map sale_by xs ≡ sales es = cc in
          one (piece_of scrip) (by_sale s) (sold_stranger vs h (Some x)) rest (every.0 ∙ ap (λ (y : Sale). first_of (sold_stranger vs h (Some y))) head)
          (first_in (not_in has) by_sale (filter_map acceptance_of es) xs) (later xs tail every.1)
  first_is (e ∷ es) ss is all = first_is es ss is all
