-- Requests of a wallet in memory, as the definitions have them.
use Rattle.std.specs.Prelude.{ℕ}
use Rattle.mc_records.specs.Entry.{Entry, Pend}
use Rattle.ledger_model.specs.Histories.{History}
use Rattle.wallet_model.specs.Requests.{Pending}
use Rattle.wallet_model.specs.Follows.{WalletFollows}
use Rattle.mc_records.specs.Entry.{Fits}
use Rattle.mc_requests.specs.Requests.{seen}
use Rattle.wallet_core.specs.declared.request.WalletRequest.{WalletRequest}
use Rattle.wallet_core.specs.declared.request.RequestRef.{RequestRef}

-- what a request says
abbrev pub pending_view : WalletRequest → Pending
pending_view p = record { ask = p.ask; peer = p.peer; target = p.target; scrip = p.scrip; secret = p.secret }

-- likewise of one whose texts lie elsewhere
abbrev pub request_view : RequestRef → Pending
request_view p = record { ask = p.ask; peer = p.peer.now; target = p.target.now; scrip = seen p.scrip; secret = p.secret }

-- the entry by which a request is made at a time
abbrev pub pend_of : ℕ → Pending → Entry
pend_of t p = Pend t p.ask p.peer p.target p.scrip p.secret

-- an entry may follow a history, and has a payload
pub record CanEnter (h : History) (e : Entry) : Type 0 where
  pub follows : WalletFollows h e
  pub fits : Fits e
