-- What the slow evaluators speak of where a piece is chosen and a request is made.
use Rattle.std.specs.Prelude.{◌≡◌, ℕ, nat_lt, nat_le, max, if◌then◌else◌, List, Option, Some, None, option_map, option_and_then, filter, filter_map, fold}
use Rattle.std.specs.List.{reduce}
use Rattle.mc_requests.specs.Errands as errands
use Rattle.mc_requests.specs.Errands.{errand_text}
use Rattle.mc_records.specs.Entry.{Held}
use Rattle.ledger_model.specs.Histories.{History}
use Rattle.wallet_model.specs.Holdings.{Holding, holding, pieces_came}
use Rattle.wallet_model.specs.Asks as model
use Rattle.wallet_model.specs.Asks.{Offered, offered_at, is_fit}
use Rattle.slow_wallet.specs.declared.choice.Offer.{Offer}
use Rattle.slow_wallet.specs.declared.choice.Choice.{Choice}
use Rattle.slow_wallet.specs.declared.asks.Asking.{Asking}
use Rattle.slow_wallet.specs.declared.asks.Asking.TheVariants as asks
use Rattle.slow_wallet.specs.Slow.{holding_view}

-- ---- choosing

-- a holding that is offered, without its place among the holdings: its text says which it is
pub record Fitting : Type 0 where
  pub holding : Holding
  pub value : ℕ

abbrev pub fitting_of : Offered → Fitting
fitting_of o = record { holding = o.holding; value = o.piece.value }

abbrev pub offer_view : Offer → Fitting
offer_view o = record { holding = holding_view o.holding; value = o.value }

-- a piece that came, where it is fit
abbrev pub if_fit : ℕ → List ℕ → Offered → Option Fitting
if_fit t vendor o = if is_fit t vendor o then Some (fitting_of o) else None

abbrev pub fit_at : History → ℕ → List ℕ → Held → Option Fitting
fit_at h t vendor p = option_and_then (if_fit t vendor) (offered_at (0, holding h p))

-- all pieces that are fit
abbrev pub fits : History → ℕ → List ℕ → List Fitting
fits h t vendor = filter_map (fit_at h t vendor) (pieces_came h)

abbrev pub lesser_fit : Fitting → Fitting → Fitting
lesser_fit a b = if nat_lt b.value a.value then b else a

abbrev pub better : Option Fitting → Fitting → Fitting
better None x = x
better (Some b) x = lesser_fit b x

abbrev pub cheapest : ℕ → List Fitting → Option Fitting
cheapest limit xs = reduce lesser_fit (filter (λ x. nat_le limit x.value) xs)

abbrev pub greatest : List Fitting → ℕ
greatest xs = fold (λ m x. max m x.value) 0 xs

-- the choice among some pieces
pub record IsChoice (limit : ℕ) (xs : List Fitting) (c : Choice) : Type 0 where
  pub best : option_map offer_view c.best ≡ cheapest limit xs
  pub most : c.greatest ≡ greatest xs

-- ---- asking

abbrev pub asking_view : Asking → model.Asking
asking_view (asks.Get vendor target limit) = model.get vendor.now target.now limit
asking_view (asks.Buy broker vendor amount limit) = model.buy broker.now vendor.now amount limit
asking_view (asks.Draw broker account key order amount) = model.draw broker.now account.now key order amount

-- the target of what is asked
abbrev pub target_of : model.Asking → List ℕ
target_of (model.get vendor target limit) = target
target_of (model.buy broker vendor amount limit) = errand_text (errands.buy vendor amount)
target_of (model.draw broker account key order amount) = errand_text (errands.draw account order amount)
