-- What a wallet of a world does, by its history.
use Rattle.std.specs.Prelude.{◌≡◌, ℕ, Bool, true, false, List, [], ◌∷◌, ◌++◌, Option, Some, None, Ok}
use Rattle.mc_requests.specs.declared.limits.Limits.{Limits}
use Rattle.mc_records.specs.Entry.{Entry}
use Rattle.ledger_model.specs.Histories.{History, time}
use Rattle.ledger_model.specs.Answer.{fitted}
use Rattle.millicent_http.specs.Received.{Received}
use Rattle.reply_reader.specs.Replies.{IsReply}
use Rattle.wallet_model.specs.Requests.{Pending, pending_of, pending_in, is_kept, oldest_kept}
use Rattle.wallet_model.specs.Asks.{Asking, pend_entry, request_bytes}
use Rattle.wallet_model.specs.Settling.{check_of, settlement}
use Rattle.wallet_book.specs.Book.{BookView, WalletRepresents}
use Rattle.world_model.specs.Worlds.{CanBeAsked, wallet_time}

-- what a wallet keeps of its book, opened by a history
pub record IsOpened (limits : Limits) (h : History) (b : BookView) : Type 0 where
  pub represents : WalletRepresents b h
  pub time' : b.time ≡ time h
  pub bounds : b.limits ≡ limits

-- ---- asking

-- what is asked at a reading is entered by this entry, of this request
pub record MayAsk (limits : Limits) (h : History) (asking : Asking) (reading : ℕ) (e : Entry) (p : Pending) : Type 0 where
  pub can : CanBeAsked asking
  pub pends : pend_entry h (wallet_time h reading) asking ≡ Ok e
  pub room : fitted h limits e ≡ Ok e
  pub asked : pending_of e ≡ Some p

pub record HasAsked (limits : Limits) (h : History) (asking : Asking) (reading : ℕ) (g : History) (bytes : List ℕ) : Type 0 where
  pub e : Entry
  pub p : Pending
  pub may : MayAsk limits h asking reading e p
  pub after : g ≡ h ++ e ∷ []
  pub sent : bytes ≡ request_bytes p

-- the bytes of the request are sent, and the history is this then; or it can't be asked, and the history stays
abbrev pub AsksFor : Limits → History → Asking → ℕ → History → Option (List ℕ) → Type 0
AsksFor limits h asking reading g (Some bytes) = HasAsked limits h asking reading g bytes
AsksFor limits h asking reading g None = ((e : Entry) (p : Pending) → MayAsk limits h asking reading e p → ⊥) × (g ≡ h)

-- ---- asking again

pub record HasSent (h : History) (peer bytes : List ℕ) : Type 0 where
  pub n : ℕ
  pub p : Pending
  pub oldest : oldest_kept h peer ≡ Some (n, p)
  pub sent : bytes ≡ request_bytes p

abbrev pub SendsAgainFor : History → List ℕ → Option (List ℕ) → Type 0
SendsAgainFor h peer (Some bytes) = HasSent h peer bytes
SendsAgainFor h peer None = oldest_kept h peer ≡ None

-- ---- replies

-- a reply settles the request of a number at a reading
pub record MaySettle (limits : Limits) (h : History) (bytes : List ℕ) (n reading : ℕ) (p : Pending) (r : Received) : Type 0 where
  pub reads : IsReply bytes r
  pub kept : is_kept h n ≡ true
  pub request : pending_in h n ≡ Some p
  pub checked : check_of p r ≡ None
  pub room : fitted h limits (settlement h (wallet_time h reading) n p r) ≡ Ok (settlement h (wallet_time h reading) n p r)

pub record HasSettled (limits : Limits) (h : History) (bytes : List ℕ) (n reading : ℕ) (g : History) : Type 0 where
  pub p : Pending
  pub r : Received
  pub may : MaySettle limits h bytes n reading p r
  pub after : g ≡ h ++ settlement h (wallet_time h reading) n p r ∷ []

abbrev pub SettlesBy : Limits → History → List ℕ → ℕ → ℕ → History → Bool → Type 0
SettlesBy limits h bytes n reading g true = HasSettled limits h bytes n reading g
SettlesBy limits h bytes n reading g false = ((p : Pending) (r : Received) → MaySettle limits h bytes n reading p r → ⊥) × (g ≡ h)
