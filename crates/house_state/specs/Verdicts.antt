-- What a house says of a request, as the ledger's answer to it.
use Rattle.std.specs.Prelude.{◌≡◌, ℕ, ◌<◌, ◌≤◌, List, Option, Some, None, length, IsTrue, Result, Ok, Err}
use Rattle.mc_requests.specs.declared.limits.TheConstants.Limits.{MOST_JOURNAL}
use Rattle.mc_requests.specs.declared.refusal.Refusal.{Refusal}
use Rattle.mc_records.specs.Entry.{Deed, Entry, Accept, Draw, payload}
use Rattle.mc_requests.specs.Requests.{Asked}
use Rattle.kept_replies.specs.declared.deed.Deed as kept
use Rattle.kept_replies.specs.Kept.{has_number, found}
use Rattle.ledger_model.specs.Histories.{History}
use Rattle.ledger_model.specs.Orders.{Order}
use Rattle.ledger_model.specs.Accounts.{key_in}
use Rattle.ledger_model.specs.Lines.{Stop, Refuse, Repeat}
use Rattle.ledger_model.specs.Stages.{read_by, genuine_by, Known}
use Rattle.ledger_model.specs.Answer as answers
use Rattle.ledger_model.specs.Answer.{draw_in, without_scrip}
use Rattle.house_state.specs.declared.offer.DrawAsk.{DrawAsk}
use Rattle.house_state.specs.declared.verdict.Verdict.{Verdict}
use Rattle.house_state.specs.declared.verdict.Verdict.TheVariants as verdicts
use Rattle.house_state.specs.declared.verdict.NotAuthorized.{NotAuthorized}
use Rattle.house_state.specs.declared.verdict.NotAuthorized.TheVariants as stops
use Rattle.house_state.specs.declared.verdict.Authorization.{Authorization}
use Rattle.house_state.specs.declared.verdict.DrawAuthorization.{DrawAuthorization}
use Rattle.house_state.specs.declared.verdict.Authorized.{Authorized}
use Rattle.house_state.specs.declared.verdict.Authorized.TheVariants as by
use Rattle.house_state.specs.Views.{entry_deed}
use Rattle.house_state.specs.Trade.{BringsFor}
use Rattle.house_state.specs.HouseState.{HouseStateView, version_of, size_with, series_now, HasChange, HasRoomToEnter, HasRoomToDraw, IsEntered, IsDrawn, change_worth}
use Rattle.house_state.specs.LiveWindows.{AreUsed, AreUsedBut}
use Rattle.house_state.specs.Replying.{IsOfSite}
use Rattle.change_issue.specs.Registers.{count_in, next_in}
use Rattle.spent_windows.specs.Windows.{WindowView, window_of, is_marked}
use Rattle.spent_windows.specs.Fresh.{FreshView}

-- ---- verdicts

-- an answer without its entry
pub data Judged : Type 0 where
  IsRefused : Refusal → Judged
  IsAgain : (number : ℕ) → Judged
  IsTaken : Judged

abbrev pub judged : answers.Answer → Judged
judged (answers.Refused refusal) = IsRefused refusal
judged (answers.Again number) = IsAgain number
judged (answers.Take e) = IsTaken

abbrev pub judged_of : Verdict → Judged
judged_of (verdicts.Refused refusal) = IsRefused refusal
judged_of (verdicts.Again number) = IsAgain number
judged_of verdicts.Take = IsTaken

-- ---- entries

-- the entry of an authorization
abbrev pub accept_entry : ℕ → List ℕ → Authorization → Entry
accept_entry moment target a = Accept moment a.scrip.now.text target a.sign a.price a.change (entry_deed a.deed)

-- the windows were asked for this identity, as they stand in this state
pub record WasAsked (b : HouseStateView) (id : ℕ) (f : FreshView) : Type 0 where
  pub its : f.id ≡ id
  pub seen : (k : ℕ) → is_marked f.seen k ≡ is_marked b.spent k

-- An authorization that may be entered: the secret is that of the customer of a genuine piece, which has not
-- expired and for which the windows were asked, there is change where there has to be, the length is that of
-- the payload of its entry, and the entry fits the greatest journal.
pub record IsReady (b : HouseStateView) (target : List ℕ) (a : Authorization) : Type 0 where
  pub secret : genuine_by b.name (version_of b) b.terms a.scrip.now ≡ Ok a.secret
  pub live : b.time < a.scrip.now.piece.expires
  pub fresh : WasAsked b a.scrip.now.piece.id a.fresh
  pub change : HasChange b a.price a.scrip.now.piece.value a.change
  pub payload : a.payload ≡ length (payload (accept_entry b.time target a))
  pub fits : size_with b a.payload ≤ MOST_JOURNAL

-- ---- a draw

-- the order of an ask, and what it tells of the account
abbrev pub order_in : DrawAsk → Order
order_in ask = record { account = ask.account; order = ask.order; amount = ask.amount }

abbrev pub known_by : DrawAsk → Known
known_by ask = record { last = ask.last; balance = ask.balance }

-- the entry of a draw
abbrev pub draw_entry : ℕ → List ℕ → DrawAuthorization → Entry
draw_entry moment target d = Draw moment target d.sign d.id

-- A draw that may be entered: it is worth something, its piece is the next one of a series that is not full, the
-- length is that of the payload of its entry, and the entry fits the greatest journal.
pub record IsDrawReady (b : HouseStateView) (target : List ℕ) (d : DrawAuthorization) : Type 0 where
  pub some : 0 < d.amount
  pub below : count_in b.own (series_now b) < b.own.most
  pub next : d.id ≡ next_in b.own (series_now b)
  pub payload : d.payload ≡ length (payload (draw_entry b.time target d))
  pub fits : size_with b d.payload ≤ MOST_JOURNAL

-- the order of a target, under the key of its account and of its amount
pub record IsOrdered (h : History) (target : List ℕ) (d : DrawAuthorization) : Type 0 where
  pub order : Order
  pub asks : draw_in h target ≡ Some order
  pub key : key_in h order.account ≡ Some d.key
  pub amount : order.amount ≡ d.amount

-- ---- what was authorized

-- the entry of what was authorized
abbrev pub authorized_entry : ℕ → List ℕ → Authorized → Entry
authorized_entry moment target (by.Scrip a) = accept_entry moment target a
authorized_entry moment target (by.Draw d) = draw_entry moment target d

-- how many bytes its payload has
abbrev pub payload_of : Authorized → ℕ
payload_of (by.Scrip a) = a.payload
payload_of (by.Draw d) = d.payload

-- what its entry takes, and the worth of the change: a draw takes nothing
abbrev pub price_of : Authorized → ℕ
price_of (by.Scrip a) = a.price
price_of (by.Draw d) = 0

abbrev pub change_of : Authorized → ℕ
change_of (by.Scrip a) = change_worth a.price a.scrip.now.piece.value a.change
change_of (by.Draw d) = 0

-- the windows as they were asked for its piece; for a draw there was none to ask for
abbrev pub fresh_of : Authorized → Option FreshView
fresh_of (by.Scrip a) = Some a.fresh
fresh_of (by.Draw d) = None

-- it may be entered
abbrev pub MayCommit : HouseStateView → List ℕ → Authorized → Type 0
MayCommit b target (by.Scrip a) = IsReady b target a
MayCommit b target (by.Draw d) = IsDrawReady b target d

-- It is of this request, which is new: the piece is that of its scrip text; the scrip text of a draw does not count.
abbrev pub IsOfNew : HouseStateView → Asked → Authorized → Type 0
IsOfNew b q (by.Scrip a) = (Ok a.scrip.now ≡ read_by q.scrip) × (found b.kept b.time q ≡ None)
IsOfNew b q (by.Draw d) = found b.kept b.time (without_scrip q) ≡ None

-- of the deed that is kept for a piece; that of a draw names no goods
abbrev pub OfDeed : (kept.Deed → Type 0) → Authorized → Type 0
OfDeed P (by.Scrip a) = P a.deed
OfDeed P (by.Draw d) = Unit {0}

-- what its reply brings is what the history says
abbrev pub BringsAs : History → List ℕ → Authorized → Type 0
BringsAs h target (by.Scrip a) = BringsFor h target a.deed
BringsAs h target (by.Draw d) = IsOrdered h target d

-- there is room to enter it
abbrev pub HasRoomToCommit : HouseStateView → Asked → Authorized → Type 0
HasRoomToCommit b q (by.Scrip a) = HasRoomToEnter b q a
HasRoomToCommit b q (by.Draw d) = HasRoomToDraw b (without_scrip q)

-- each window that stands is used, but that of its piece, for which room was made
abbrev pub AreUsedFor : Authorized → List WindowView → Type 0
AreUsedFor (by.Scrip a) ws = AreUsedBut (window_of a.scrip.now.piece.id) ws
AreUsedFor (by.Draw d) ws = AreUsed ws

-- the state before and after it was entered
abbrev pub IsCommitted : HouseStateView → HouseStateView → Asked → Authorized → Type 0
IsCommitted old new q (by.Scrip a) = IsEntered old new q a.scrip.now.piece a
IsCommitted old new q (by.Draw d) = IsDrawn old new (without_scrip q) d

-- an Accept entry says what an authorization says: this signature, price, change and deed
pub record SaysAccept (a : Authorization) (signed : Option (List ℕ)) (asked : ℕ) (handed : Option ℕ) (sold : Deed) : Type 0 where
  pub sign : a.sign ≡ signed
  pub price : a.price ≡ asked
  pub change : a.change ≡ handed
  pub deed : entry_deed a.deed ≡ sold

abbrev pub IsSaid : Authorized → Option (List ℕ) → ℕ → Option ℕ → Deed → Type 0
IsSaid (by.Scrip a) signed asked handed sold = SaysAccept a signed asked handed sold
IsSaid (by.Draw d) signed asked handed sold = ⊥

-- a Draw entry says what was authorized: this signature and identity
abbrev pub SaysDraw : Authorized → List ℕ → ℕ → Type 0
SaysDraw (by.Scrip a) signed drawn = ⊥
SaysDraw (by.Draw d) signed drawn = (d.sign ≡ signed) × (d.id ≡ drawn)

abbrev pub stop_of : NotAuthorized → Stop
stop_of (stops.Refused refusal) = Refuse refusal
stop_of (stops.Again number) = Repeat number

-- the reply of an entry that a request repeats is kept
abbrev pub RepeatsKept : HouseStateView → NotAuthorized → Type 0
RepeatsKept b (stops.Refused refusal) = Unit {0}
RepeatsKept b (stops.Again number) = IsTrue (has_number b.kept.replies number)

-- a refusal is one that a site replies with
abbrev pub StopIsOfSite : NotAuthorized → Type 0
StopIsOfSite (stops.Refused refusal) = IsOfSite refusal
StopIsOfSite (stops.Again number) = Unit {0}

-- what was evaluated, as a table that ran through or stopped
abbrev pub evaluated : {A : Type 0} → (A → Entry) → Result A NotAuthorized → Result Entry Stop
evaluated view (Ok a) = Ok (view a)
evaluated view (Err stopped) = Err (stop_of stopped)
