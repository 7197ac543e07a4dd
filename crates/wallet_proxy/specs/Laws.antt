-- What the steps of a proxy promise, in its user's words.
use Rattle.std.specs.Prelude.{◌≡◌, ◌⊎◌, ◌≤◌, ℕ, ◌+◌, ◌==◌, ◌||◌, Bool, true, false, IsTrue, List, [], ◌∷◌, ◌++◌, length, sum_by, count_by, Some, None, Result, Ok}
use Rattle.std.specs.List.{AllByRecursion}
use Rattle.mc_outside.specs.LinkView.{LinkView}
use Rattle.mc_requests.specs.declared.refusal.Refusal.{Refusal}
use Rattle.mc_requests.specs.declared.refusal.Refusal.TheVariants.{NoLink, NoReply, BadReply, Unproved, UpstreamFault}
use Rattle.mc_records.specs.Entry.{Entry, Pend, Done, Refused}
use Rattle.ledger_model.specs.Histories.{History, time}
use Rattle.millicent_http.specs.Received.{Received}
use Rattle.wallet_model.specs.Requests.{Pending, pending_in, kept_get}
use Rattle.wallet_model.specs.Asks.{request_bytes}
use Rattle.wallet_model.specs.Settling.{check_of, settlement, price_of}
use Rattle.wallet_model.specs.Follows.{IsWalletBook}
use Rattle.wallet_book.specs.Kept.{kept_in}
use Rattle.wallet_proxy.specs.Upstream.{Fetches}
use Rattle.wallet_proxy.specs.Proxy.{ProxyState, Bounds}

-- ---- what an item adds

abbrev pub is_request : Entry → Bool
is_request (Pend m ask peer target scrip secret) = true
is_request _ = false

abbrev pub is_settling : Entry → Bool
is_settling (Done m n price change got) = true
is_settling (Refused m n refusal) = true
is_settling _ = false

-- a request, or a settlement, or the one and then the other, or nothing
abbrev pub IsOneGet : List Entry → Type 0
IsOneGet [] = Unit {0}
IsOneGet (e ∷ []) = IsTrue (is_request e || is_settling e)
IsOneGet (e ∷ f ∷ []) = IsTrue (is_request e) × IsTrue (is_settling f)
IsOneGet _ = ⊥

-- the history went on by such entries
pub record Grows (s t : ProxyState) : Type 0 where
  pub added : List Entry
  pub grown : t.history ≡ s.history ++ added
  pub one : IsOneGet added

-- ---- what is told as paid for

-- The contents are those of a reply that settles its request, rightly signed, and the last entry is its settlement.
pub record IsPaidFor (price : ℕ) (bytes : List ℕ) (t : ProxyState) : Type 0 where
  pub before : History
  pub n : ℕ
  pub p : Pending
  pub r : Received
  pub passes : check_of p r ≡ None
  pub status : (r.status == 200) ≡ true
  pub price' : price_of r ≡ Some price
  pub contents' : r.contents ≡ bytes
  pub done : t.history ≡ before ++ settlement before t.time n p r ∷ []

-- ---- what is sent to the vendor

-- Nothing is done to his links; or one is used for a request whose Pend entry stands.
pub record AsksFor (s t : ProxyState) : Type 0 where
  pub n : ℕ
  pub p : Pending
  pub came : Result Received Refusal
  pub fetches : Fetches (request_bytes p) came s.up t.up
  pub stands : pending_in t.history n ≡ Some p

abbrev pub MovesUp : ProxyState → ProxyState → Type 0
MovesUp s t = (t.up ≡ s.up) ⊎ AsksFor s t

-- ---- for what it is

-- a get of a target at the vendor
pub record IsGetOf (b : Bounds) (target : List ℕ) (p : Pending) : Type 0 where
  pub get : p.ask ≡ 0
  pub peer' : p.peer ≡ b.vendor
  pub target' : p.target ≡ target

-- The vendor's links were used for the get of a target, whose Pend entry stands.
pub record AsksOnlyFor (b : Bounds) (target : List ℕ) (s t : ProxyState) : Type 0 where
  pub n : ℕ
  pub p : Pending
  pub of : IsGetOf b target p
  pub stands : pending_in t.history n ≡ Some p
  pub came : Result Received Refusal
  pub fetches : Fetches (request_bytes p) came s.up t.up

-- Contents with their price came on the vendor's next link as the reply to the get of a target, which stands in the book
-- and which that reply settles.
pub record IsBroughtFor (b : Bounds) (target : List ℕ) (price : ℕ) (bytes : List ℕ) (s t : ProxyState) : Type 0 where
  pub n : ℕ
  pub p : Pending
  pub of : IsGetOf b target p
  pub stands : pending_in t.history n ≡ Some p
  pub r : Received
  pub fetches : Fetches (request_bytes p) (Ok r) s.up t.up
  pub passes : check_of p r ≡ None
  pub status : (r.status == 200) ≡ true
  pub price' : price_of r ≡ Some price
  pub contents' : r.contents ≡ bytes

-- ---- what is paid

-- what a Done entry says was paid
abbrev pub price_told : Entry → ℕ
price_told (Done m n price change got) = price
price_told _ = 0

-- what the Done entries of a history say was paid in all
abbrev pub spent : History → ℕ
spent h = sum_by price_told h

-- What was paid rose by what the Done entries that came say.
abbrev pub PaysAsBooked : ProxyState → ProxyState → Type 0
PaysAsBooked s t = t.paid + spent s.history ≡ s.paid + spent t.history

-- ---- what is kept

-- A request stays kept where this is told of it: no link came, or no reply, or none that settles it, or a call of the
-- links failed.
abbrev pub StaysKept : Refusal → Type 0
StaysKept NoLink = Unit {0}
StaysKept NoReply = Unit {0}
StaysKept BadReply = Unit {0}
StaysKept Unproved = Unit {0}
StaysKept UpstreamFault = Unit {0}
StaysKept _ = ⊥

-- the get of a target is kept, and as much is paid as before
pub record IsKept (b : Bounds) (target : List ℕ) (s t : ProxyState) : Type 0 where
  pub request : ℕ × Pending
  pub kept : kept_get t.history b.vendor target ≡ Some request
  pub paid' : t.paid ≡ s.paid

-- The history is the same, or has one entry more: the settlement of this request.
abbrev pub SettlesAtMost : ℕ → Pending → ProxyState → ProxyState → Type 0
SettlesAtMost n p s t = (t.history ≡ s.history) ⊎ ((r : Received) × (check_of p r ≡ None) × (t.history ≡ s.history ++ settlement s.history s.time n p r ∷ []))

-- ---- whole runs

-- After some items the history has at most one request and one settlement more for each of them.
pub record Keeps (items : ℕ) (s t : ProxyState) : Type 0 where
  pub added : List Entry
  pub grown : t.history ≡ s.history ++ added
  pub requests : count_by is_request added ≤ items
  pub settlements : count_by is_settling added ≤ items
  pub others : length added ≤ count_by is_request added + count_by is_settling added

-- The book is lawful, the time is not before its entries, and what was paid is within the budget.
pub record IsSound (b : Bounds) (s : ProxyState) : Type 0 where
  pub lawful : IsWalletBook s.history
  pub in_time : time s.history ≤ s.time
  pub within : s.paid ≤ b.budget

-- one use of the vendor's links: for the request of the entry of this number, and what came of it
pub record Use : Type 0 where
  pub n : ℕ
  pub request : Pending
  pub came : Result Received Refusal

-- From some links to the vendor to others by these uses, a link for each, one after another, and by nothing else.
abbrev pub AreUsed : List Use → LinkView → LinkView → Type 0
AreUsed [] before after = after ≡ before
AreUsed (u ∷ us) before after = (between : LinkView) × Fetches (request_bytes u.request) u.came before between × AreUsed us between after

-- What was sent is a get at the vendor by an entry of the book, which was made or was found there: it stood there, and was not
-- settled, when it was sent.
pub record IsOfBook (b : Bounds) (h : History) (u : Use) : Type 0 where
  pub get : u.request.ask ≡ 0
  pub peer' : u.request.peer ≡ b.vendor
  pub before : History
  pub rest : History
  pub book : h ≡ before ++ rest
  pub kept : kept_in before u.n ≡ Some u.request

-- Nothing was done to the vendor's links but to send him such requests, at most so many, one link for each.
pub record AsksNoMore (b : Bounds) (most : ℕ) (s t : ProxyState) : Type 0 where
  pub uses : List Use
  pub used : AreUsed uses s.up t.up
  pub few : length uses ≤ most
  pub entries : AllByRecursion (IsOfBook b t.history) uses

-- the state of a proxy whose disk failed: so many entries were added, and the links to the vendor are these
abbrev pub stopped_at : ProxyState → History → LinkView → ProxyState
stopped_at s added up = record s { history = s.history ++ added; up = up }
