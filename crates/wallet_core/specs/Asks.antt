-- What is asked of a wallet, as the definitions have it.
use Rattle.std.specs.Prelude.{◌≡◌, ℕ, ◌<◌, ◌≤◌, List, Option, Some, None, Result, Ok, Err, slice_get}
use Rattle.mc_requests.specs.declared.refusal.Refusal.{Refusal}
use Rattle.mc_records.specs.Entry.{Entry, Pend}
use Rattle.mc_requests.specs.Errands as errands
use Rattle.mc_requests.specs.Errands.{errand_text}
use Rattle.mc_base.specs.declared.amount.TheConstants.Amount.{MOST}
use Rattle.ledger_model.specs.Histories.{History}
use Rattle.wallet_model.specs.Holdings as model
use Rattle.wallet_model.specs.Holdings.{holdings}
use Rattle.wallet_model.specs.Asks.{Asking, get, buy, draw}
use Rattle.wallet_book.specs.declared.holding.Holding.{Holding}
use Rattle.wallet_book.specs.declared.holding.State.TheVariants.{Held}
use Rattle.wallet_book.specs.Book.{BookView}
use Rattle.wallet_core.specs.declared.ask.Ask.{Ask}
use Rattle.wallet_core.specs.declared.ask.Ask.TheVariants as asks
use Rattle.wallet_core.specs.declared.request.WalletRequest.{WalletRequest}
use Rattle.wallet_core.specs.Requests.{pending_view, pend_of}

abbrev pub asking_of : Ask → Asking
asking_of (asks.Get vendor target limit) = get vendor target limit
asking_of (asks.Buy broker vendor amount limit) = buy broker vendor amount limit
asking_of (asks.Draw broker account key order amount) = draw broker account key order amount

-- the amounts of what is asked are at least 1, and so is an order, which is at most the greatest amount
abbrev pub HasAmounts : Ask → Type 0
HasAmounts (asks.Get vendor target limit) = Unit {0}
HasAmounts (asks.Buy broker vendor amount limit) = 1 ≤ amount
HasAmounts (asks.Draw broker account key order amount) = (1 ≤ order) × (order ≤ MOST) × (1 ≤ amount)

-- what is answered to what is asked at a time: the request of the entry that is to be made, or the refusal
abbrev pub Answers : ℕ → Result Entry Refusal → Result WalletRequest Refusal → Type 0
Answers t (Ok e) (Ok p) = e ≡ pend_of t (pending_view p)
Answers t (Err f) (Err g) = g ≡ f
Answers t _ _ = ⊥

-- ---- with a piece that is given

-- a get or a buy with a piece at a time; a draw has none
abbrev pub paid_by : ℕ → model.Holding → Asking → Option Entry
paid_by t x (get vendor target limit) = Some (Pend t 0 vendor target (Some x.text) x.secret)
paid_by t x (buy broker vendor amount limit) = Some (Pend t 1 broker (errand_text (errands.buy vendor amount)) (Some x.text) x.secret)
paid_by t x (draw broker account key order amount) = None

abbrev pub paid_by_one : ℕ → Option model.Holding → Asking → Option Entry
paid_by_one t (Some x) asking = paid_by t x asking
paid_by_one t None asking = None

-- the entry of a get or a buy that pays with the piece of a place
abbrev pub pend_with_entry : History → ℕ → ℕ → Asking → Option Entry
pend_with_entry h t place asking = paid_by_one t (slice_get (holdings h) place) asking

-- of whom it is asked
abbrev pub peer_of : Ask → List ℕ
peer_of (asks.Get vendor target limit) = vendor
peer_of (asks.Buy broker vendor amount limit) = broker
peer_of (asks.Draw broker account key order amount) = broker

-- it pays with a piece
abbrev pub IsPaid : Ask → Type 0
IsPaid (asks.Draw broker account key order amount) = ⊥
IsPaid _ = Unit {0}

-- the piece of a place is held, not expired, and of the house that is asked
pub record PaysAt (b : BookView) (place : ℕ) (ask : Ask) : Type 0 where
  pub holding : Holding
  pub here : slice_get b.holdings place ≡ Some holding
  pub held' : holding.state ≡ Held
  pub vendor' : holding.piece.vendor ≡ peer_of ask
  pub in_time : b.time < holding.piece.expires
  pub paid : IsPaid ask
