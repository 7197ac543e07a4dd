-- What a broker's entries say that an answer took.
use Rattle.std.specs.Prelude.{◌≡◌, ℕ, ◌+◌, ◌<◌, ◌≤◌, codes, Bool, true, false, IsSome, List, Option, Some, None}
use Rattle.scrip_form.specs.Identities.{numbered}
use Rattle.scrip_form.specs.Issuing.{Issuing, series_at}
use Rattle.scrip_form.specs.Scrip.{Scrip}
use Rattle.scrip_certs.specs.Digests.{request_signature}
use Rattle.mc_records.specs.declared.ranges.TheConstants.{MOST_IN_ACCOUNT}
use Rattle.mc_requests.specs.Errands.{buy, pay_in, errand_of}
use Rattle.ledger_model.specs.Histories.{History}
use Rattle.ledger_model.specs.Houses.{fee, is_vendor, is_broker, own_series}
use Rattle.ledger_model.specs.Goods.{price_in}
use Rattle.ledger_model.specs.Orders.{Order, order_of}
use Rattle.ledger_model.specs.Pieces.{piece_of, own_count, next_identity}
use Rattle.ledger_model.specs.Accounts.{account_in, key_in, balance, last_order}
use Rattle.ledger_model.specs.Stock.{licence_in, licensed_count, for_sale}

-- a piece that is made under a licence has the next identity of the licence's series of a moment, which is not full
pub record IsMade (most : ℕ) (h : History) (m : ℕ) (vendor : List ℕ) (id : ℕ) : Type 0 where
  pub terms : Issuing
  pub licence : licence_in h vendor ≡ Some terms
  pub next : id ≡ numbered (series_at terms m) (licensed_count h vendor (series_at terms m))
  pub room : licensed_count h vendor (series_at terms m) < most

-- a piece out of stock is the first of its value that is for sale, and there is no licence
pub record IsFromStock (h : History) (m : ℕ) (vendor : List ℕ) (value id : ℕ) : Type 0 where
  pub no_licence : licence_in h vendor ≡ None
  pub piece : Scrip
  pub first : for_sale h m vendor value ≡ Some piece
  pub is : piece.id ≡ id

-- where a sold piece comes from: the flag says that it is out of stock
abbrev pub IsSupplied : ℕ → History → ℕ → List ℕ → ℕ → Bool → ℕ → Type 0
IsSupplied most h m vendor value false id = IsMade most h m vendor id
IsSupplied most h m vendor value true id = IsFromStock h m vendor value id

-- a sale: of a piece of the vendor and the value that the target names, for the value and the fee
pub record IsSale (most : ℕ) (h : History) (m : ℕ) (target : List ℕ) (price : ℕ) (stock : Bool) (id : ℕ) : Type 0 where
  pub vendor : List ℕ
  pub value : ℕ
  pub no_vendor : is_vendor h ≡ false
  pub asks : errand_of target ≡ Some (buy vendor value)
  pub price_is : price ≡ value + fee h
  pub supplied : IsSupplied most h m vendor value stock id

-- goods that were bought at a vendor: for the price in force of the target
pub record IsBought (h : History) (target : List ℕ) (price : ℕ) : Type 0 where
  pub at_vendor : is_vendor h ≡ true
  pub price_is : price_in h target ≡ Some price

-- a credit: of the whole value of the piece in the account that the target names, and without change
pub record IsCredit (h : History) (scrip target : List ℕ) (price : ℕ) (change : Option ℕ) (after : ℕ) : Type 0 where
  pub account : List ℕ
  pub piece : Scrip
  pub no_vendor : is_vendor h ≡ false
  pub asks : errand_of target ≡ Some (pay_in account)
  pub stands : IsSome (account_in h account)
  pub is_piece : piece_of scrip ≡ Some piece
  pub price_is : price ≡ piece.value
  pub change_is : change ≡ None
  pub after_is : after ≡ balance h account + price
  pub fits : after ≤ MOST_IN_ACCOUNT

-- a draw: signed under the key of the account that the target names, under an order above its last one, for an amount
-- that it has; the drawn piece has the next identity of the house's own series, which is not full
pub record IsDraw (most : ℕ) (h : History) (m : ℕ) (target sign : List ℕ) (id : ℕ) : Type 0 where
  pub order : Order
  pub key : List ℕ
  pub at_broker : is_broker h ≡ true
  pub asks : order_of target ≡ Some order
  pub stands : key_in h order.account ≡ Some key
  pub signed : sign ≡ request_signature (codes "-") target key
  pub rises : last_order h order.account < order.order
  pub covered : order.amount ≤ balance h order.account
  pub next : id ≡ next_identity h (own_series h m)
  pub room : own_count h (own_series h m) < most
