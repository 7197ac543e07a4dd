-- The shops at a broker stand for what the histories say.
use Rattle.std.proofs.Common.{◌≡◌, ℕ, true, false, List, [], map, filter_map, filter, bytes_eq, Option, option_map, unwrap_or, sym, ap, ap₂, ◌∙◌}
use Rattle.std.specs.Prelude.{option_and_then}
use Rattle.std.proofs.lemmas.Slice.Eq.{bytes_eq-Decides}
use Rattle.scrip_form.specs.Scrip.{Scrip}
use Rattle.mc_requests.specs.declared.limits.Limits.{Limits}
use Rattle.ledger_model.specs.Histories.{History}
use Rattle.ledger_model.specs.Houses.{site_name}
use Rattle.ledger_model.specs.Stock.{Sale, sold, sold_piece}
use Rattle.audit_model.specs.Books.{HaveOwnNames}
use Rattle.audit_model.specs.Parts.{part_of}
use Rattle.audit_model.specs.Strangers.{is_minted}
use Rattle.audit_model.specs.declared.sold.Sold.{Sold}
use Rattle.audit_sums.specs.declared.rows.Stocked.{Stocked}
use Rattle.audit_sums.specs.declared.audit_sums.BookSums.{BookSums}
use Rattle.audit_model.specs.Sales.{sale_by}
use Rattle.audit_sums.specs.Learned.{SumsRepresent, stock_rows_of, sales_of}
use Rattle.audit_search.specs.declared.shop.Shop.{Shop}
use Rattle.audit_search.specs.declared.shops.Shops.{Shops}
use Rattle.audit_search.specs.Known.{knows}
use Rattle.audit_search.specs.Shops.{stocked_row, part_sold}
use Rattle.audit_search.specs.Filed.{HaveStocked, HaveSold}
use Rattle.audit_search.specs.Strange.{sold_at, piece_at, minted_at}
use Rattle.audit_search.specs.Markets.{own_names}
use Rattle.audit_search.specs.Findings.{vendors_among, AreShopsOf}
use Rattle.audit_search.specs.Audit.{IsLearned, AreLearned, has_book}
use Rattle.audit_search.specs.Standing.{StandFor}
use Rattle.audit_search.proofs.ShopLaws.{stocked_is, sold_are, part_is}
use Rattle.audit_search.proofs.StrangeLaws.{AreShopsAt, HaveStock, has_shop, with_stock}
use Rattle.audit_search.proofs.MarketLaws.{shops_among, vendors, own_are, shops_at}

module _ (broker : BookSums) (b : History) (vs : List History) (shops : List Shop) (is_b : SumsRepresent broker b)
    (at : AreShopsAt b vs shops) (stocked : HaveStocked shops (stock_rows_of broker)) (own : HaveOwnNames vs) where
  pub stock : HaveStock b shops
  stock name shop found id = stocked name shop found id ∙ ap (λ (rows : List Stocked). stocked_row rows shop.name id) is_b.market'.stock' ∙ stocked_is shop.name id b

  pub sold_is : HaveSold shops (sales_of broker) → (name : List ℕ) → has_book vs name ≡ true → sold_at shops name ≡ map part_of (sold b name)
  sold_is have name any =
      let r = has_shop b vs shops name at own any in
      let same : name ≡ site_name r.vendor = (bytes_eq-Decides name r.shop.name).0 r.named ∙ r.stands.name' in
      ap (λ (o : Option Shop). unwrap_or (option_map (λ shop. shop.sold.items) o) []) r.found
      ∙ have name r.shop r.found
      ∙ sold_are b r.vendor r.shop (sales_of broker) (with_stock b vs shops name r stock)
      ∙ ap₂ (λ (n : List ℕ) (ss : List Sale). map part_of (filter_map (sold_piece b) (filter (λ x. bytes_eq x.vendor n) ss))) (sym same) is_b.market'.sales'

  pub piece_is : (s : Sold) → has_book vs s.vendor ≡ true → piece_at shops s ≡ option_map part_of (sold_piece b (sale_by s))
  piece_is s any =
      let r = has_shop b vs shops s.vendor at own any in
      ap (option_and_then (λ (shop : Shop). part_sold shop s)) r.found ∙ part_is b r.vendor r.shop s (with_stock b vs shops s.vendor r stock) r.named

  pub minted_is : (name : List ℕ) (p : Scrip) → has_book vs name ≡ true → minted_at shops name p.id p.value ≡ is_minted vs name p
  minted_is name p any =
      let r = has_shop b vs shops name at own any in
      ap (λ (o : Option Shop). unwrap_or (option_map (λ shop. knows shop.minted p.id p.value) o) false) r.found ∙ r.stands.minted' p.id p.value ∙ sym (r.only p)

-- the shops of the vendors among some books
pub stand_for : (limits : Limits) (broker : BookSums) (b : History) (books : List BookSums) (hs : List History) (shops : Shops) → IsLearned limits broker b → AreLearned limits books hs → own_names books ≡ true
    → AreShopsOf broker (vendors_among books) shops.list.items → HaveStocked shops.list.items (stock_rows_of broker) → HaveSold shops.list.items (sales_of broker) → StandFor b (shops_among hs) shops
stand_for limits broker b books hs shops is all names of stocked have =
    let list = shops.list.items in
    let vs = shops_among hs in
    let own = own_are limits books hs all names in
    let at = shops_at limits broker b is.sums (vendors_among books) vs list (vendors limits books hs all) of in
    record {
      sold' = sold_is broker b vs list is.sums at stocked own have;
      piece' = piece_is broker b vs list is.sums at stocked own;
      minted' = minted_is broker b vs list is.sums at stocked own;
    }
