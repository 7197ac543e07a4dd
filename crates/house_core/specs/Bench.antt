-- A house without a journal, and its history.
use Rattle.std.specs.Prelude.{◌≡◌, ℕ, ◌<◌, List, [], ◌∷◌, ◌++◌, length, All, IsTrue, Some, Result, Ok, Err}
use Rattle.mc_base.specs.declared.no_memory.NoMemory.{NoMemory}
use Rattle.mc_records.specs.Entry.{Entry, moment_of}
use Rattle.mc_requests.specs.declared.limits.Limits.{Limits}
use Rattle.spent_windows.specs.Windows.{WindowView}
use Rattle.kept_replies.specs.Kept.{KeptReply, has_number}
use Rattle.ledger_model.specs.Histories.{History}
use Rattle.ledger_model.specs.Houses.{site_kind, keeping}
use Rattle.ledger_model.specs.Lines.{Refuse}
use Rattle.ledger_model.specs.Answer.{fitted, Answer, Refused, Again, Take}
use Rattle.house_core.specs.BenchView.{BenchView}
use Rattle.house_core.specs.declared.tally.Tally.{Tally}
use Rattle.house_state.specs.declared.verdict.NotAuthorized.{NotAuthorized}
use Rattle.house_state.specs.declared.verdict.NotAuthorized.TheVariants as stops
use Rattle.house_core.specs.declared.fault.EnterFault.{EnterFault}
use Rattle.house_core.specs.declared.fault.EnterFault.TheVariants as enters
use Rattle.scrip_journal.specs.declared.fault.LearnFault.{LearnFault}
use Rattle.scrip_journal.specs.declared.fault.LearnFault.TheVariants as ends
use Rattle.house_core.specs.declared.fault.BenchFault.{BenchFault}
use Rattle.house_core.specs.declared.fault.BenchFault.TheVariants as faults
use Rattle.house_state.specs.Learning.{MayEnter}
use Rattle.house_state.specs.Representation.{StateRepresents}
use Rattle.house_state.specs.HouseState.{IsAsBefore}
use Rattle.house_state.specs.Trade.{OfGoods, Replaces, TradeView}
use Rattle.house_state.specs.Replying.{IsOfSite}
use Rattle.house_core.specs.Session.{State}
use Rattle.house_core.specs.Tallies.{IsWithin}

abbrev pub house_time : {T : Type 0} → BenchView T → ℕ
house_time b = b.state.time

abbrev pub limits_of : {T : Type 0} → BenchView T → Limits
limits_of b = b.state.limits

abbrev pub windows_of : {T : Type 0} → BenchView T → List WindowView
windows_of b = b.state.spent

abbrev pub tally_of : {T : Type 0} → BenchView T → Tally
tally_of b = b.tally

-- its tally has no more than its entries allow: that of a new house has, and every call keeps it so
abbrev pub IsTallied : {T : Type 0} → BenchView T → Type 0
IsTallied b = IsWithin b.state.count b.tally

-- Entries that replace the goods which a reply brings come after the entry of the reply.
abbrev pub IsInForceFor : History → KeptReply → Type 0
IsInForceFor h r = OfGoods (λ n. (m : ℕ) → Replaces h n m → r.entry.number < m) r.entry.deed

-- The state and the trade represent the history, which is of the trade's kind of site.
pub record Represents {T : Type 0} (trade : T → TradeView) (b : BenchView T) (h : History) : Type 0 where
  pub state : StateRepresents b.state h
  pub learned : (trade b.trade).represents h
  pub of_kind : site_kind h ≡ Some (trade b.trade).site

-- It keeps replies for the keeping time of the history, which is some, the trade has what they bring, and no earlier entry
-- replaces it.
pub record HasContents {T : Type 0} (trade : T → TradeView) (b : BenchView T) (h : History) : Type 0 where
  pub keep : keeping h ≡ b.state.kept.keep
  pub some : 0 < b.state.kept.keep
  pub in_force : All (IsInForceFor h) b.state.kept.replies
  pub held : All (λ r. OfGoods (trade b.trade).holds r.entry.deed) b.state.kept.replies

-- the house represents the history, and can reply as it says
pub record IsHouse {T : Type 0} (trade : T → TradeView) (b : BenchView T) (h : History) : Type 0 where
  pub represents : Represents trade b h
  pub contents : HasContents trade b h

-- the reply of the entry of this number is kept
abbrev pub KeepsReply : {T : Type 0} → BenchView T → ℕ → Type 0
KeepsReply b n = IsTrue (has_number b.state.kept.replies n)

-- Room was made in the state and in the trade: the house represents what it represented, and has what it
-- had.
pub record IsRoomed {T : Type 0} (trade : T → TradeView) (old new : BenchView T) : Type 0 where
  pub state : IsAsBefore old.state new.state
  pub tally : tally_of new ≡ tally_of old
  pub site' : (trade new.trade).site ≡ (trade old.trade).site
  pub represents : (h : History) → (trade old.trade).represents h → (trade new.trade).represents h
  pub held : (n : ℕ) → (trade old.trade).holds n → (trade new.trade).holds n

-- ---- from state to state

abbrev pub state_of : {T : Type 0} → History → BenchView T → State
state_of h b = record { history = h; time = house_time b }

-- the house represents a history now, to whose state the relation leads
pub record Reaches {T : Type 0} (trade : T → TradeView) (Relates : State → Type 0) (b : BenchView T) : Type 0 where
  pub history : History
  pub house : IsHouse trade b history
  pub related : Relates (state_of history b)

-- from the state of each history that the house represented, to that of one that it represents now
abbrev pub Refines : {T : Type 0} → (T → TradeView) → (State → State → Type 0) → BenchView T → BenchView T → Type 0
Refines trade Relates a b = (h : History) → IsHouse trade a h → Reaches trade (Relates (state_of h a)) b

-- ---- what comes of a request

-- of a request that the answer takes: its entry is entered under the next number, or want of memory
-- leaves the house as it was
abbrev pub Takes : {T : Type 0} → (T → TradeView) → BenchView T → History → Entry → Result ℕ NoMemory → Type 0
Takes trade b h e (Ok n) = (n ≡ length h) × Represents trade b (h ++ e ∷ [])
Takes trade b h e (Err fault) = Represents trade b h

-- Of a request with this answer: its entry is entered under the next number, or there is no memory for
-- it; a refusal and the number of a request that comes again are those of the answer, and leave the house
-- as it was.
abbrev pub Accepts : {T : Type 0} → (T → TradeView) → BenchView T → History → Answer → Result ℕ BenchFault → Type 0
Accepts trade b h (Take e) (Ok n) = (n ≡ length h) × Represents trade b (h ++ e ∷ [])
Accepts trade b h (Take e) (Err faults.NoMemory) = Represents trade b h
Accepts trade b h (Refused f) (Err (faults.Refused g)) = (g ≡ f) × Represents trade b h
Accepts trade b h (Again m) (Ok n) = (n ≡ m) × Represents trade b h
Accepts trade b h _ _ = ⊥

-- the contents that kept replies bring are there, after a request with this answer too
abbrev pub KeepsContents : {T : Type 0} → (T → TradeView) → BenchView T → History → Answer → Result ℕ BenchFault → Type 0
KeepsContents trade b h (Take e) (Ok n) = HasContents trade b (h ++ e ∷ [])
KeepsContents trade b h _ _ = HasContents trade b h

-- a refusal of a request is one that a site replies with
abbrev pub FaultIsOfSite : BenchFault → Type 0
FaultIsOfSite (faults.Refused f) = IsOfSite f
FaultIsOfSite faults.NoMemory = Unit {0}

-- what is answered to a request that makes no entry
abbrev pub stopped_with : NotAuthorized → Result ℕ BenchFault
stopped_with (stops.Refused f) = Err (faults.Refused f)
stopped_with (stops.Again n) = Ok n

-- Of an entry by a command: it may follow and passes the trade's own test, fits, and is entered under the next number;
-- or it may not, does not fit, or there is no memory for it, and the house stays as it was.
abbrev pub Enters : {T : Type 0} → (T → TradeView) → (History → Entry → Type 0) → BenchView T → Limits → History → Entry → Result ℕ EnterFault → Type 0
Enters trade passes b limits h e (Ok n) = MayEnter passes limits h e × (n ≡ length h) × Represents trade b (h ++ e ∷ []) × (fitted h limits e ≡ Ok e)
Enters trade passes b limits h e (Err enters.Unlawful) = (MayEnter passes limits h e → ⊥) × Represents trade b h
Enters trade passes b limits h e (Err (enters.Refused f)) = (fitted h limits e ≡ Err (Refuse f)) × Represents trade b h
Enters trade passes b limits h e (Err enters.NoMemory) = Represents trade b h

-- Of an entry that accepts nothing and fits: it may follow and passes that test, and is entered under the next
-- number; or it may not, or there is no memory for it, and the house stays as it was.
abbrev pub Follows : {T : Type 0} → (T → TradeView) → (History → Entry → Type 0) → BenchView T → Limits → History → Entry → Result ℕ LearnFault → Type 0
Follows trade passes b limits h e (Ok n) = MayEnter passes limits h e × (n ≡ length h) × Represents trade b (h ++ e ∷ [])
Follows trade passes b limits h e (Err ends.Unlawful) = (MayEnter passes limits h e → ⊥) × Represents trade b h
Follows trade passes b limits h e (Err ends.NoMemory) = Represents trade b h

-- Of the next entry of a history: it may follow, and the house represents the history with it, at its
-- moment; or it may not follow; or there is no memory for it.
abbrev pub Replays : {T X : Type 0} → (T → TradeView) → (History → Entry → Type 0) → BenchView T → Limits → History → Entry → Result X LearnFault → Type 0
Replays trade passes b limits h e (Ok x) = MayEnter passes limits h e × Represents trade b (h ++ e ∷ []) × (house_time b ≡ moment_of e)
Replays trade passes b limits h e (Err ends.Unlawful) = MayEnter passes limits h e → ⊥
Replays trade passes b limits h e (Err ends.NoMemory) = Unit {0}
