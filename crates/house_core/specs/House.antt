-- A house over a journal.
use Rattle.std.proofs.Common.{◌∙◌}
use Rattle.std.specs.Prelude.{◌≡◌, refl, ℕ, ◌+◌, ◌<◌, ◌≤◌, false, max, List, [], ◌∷◌, ◌++◌, length, Option, option_map, IfSome, Result, Ok, Err}
use Rattle.mc_outside.specs.Bytes.{Rose, BeginsWith}
use Rattle.mc_outside.specs.DiskView.{DiskView}
use Rattle.mc_requests.specs.declared.limits.Limits.{Limits}
use Rattle.mc_records.specs.Entry.{Entry}
use Rattle.mc_requests.specs.declared.refusal.Refusal.{Refusal}
use Rattle.mc_requests.specs.declared.refusal.Refusal.TheVariants.{SeriesFull, Spent}
use Rattle.ledger_model.specs.Histories.{History}
use Rattle.ledger_model.specs.Houses.{own_series}
use Rattle.ledger_model.specs.Lawful.{MayFollow}
use Rattle.ledger_model.specs.Lines.{Refuse}
use Rattle.ledger_model.specs.Pieces.{accepted_piece, is_spent, own_count, next_identity}
use Rattle.ledger_model.specs.Answer as answers
use Rattle.ledger_model.specs.Answer.{Answer, fitted}
use Rattle.spent_windows.specs.Windows.{is_marked}
use Rattle.spent_windows.specs.Fresh.{FreshView}
use Rattle.scrip_journal.specs.Layout.{Encodes}
use Rattle.scrip_journal.specs.States.{IsJournal}
use Rattle.scrip_journal.specs.Rests.{RestsAs, rests_none, rests_then}
use Rattle.scrip_journal.specs.Exits.{EncodesNoOutput, EitherNoOutput}
use Rattle.house_core.specs.HouseView.{HouseView}
use Rattle.house_core.specs.SettledView.{SettledView}
use Rattle.house_core.specs.declared.outcome.Outcome.{Outcome}
use Rattle.house_core.specs.declared.outcome.Response.{Response}
use Rattle.house_core.specs.declared.outcome.Response.TheVariants.{New, Again}
use Rattle.house_core.specs.declared.outcome.Outcome.TheVariants.{Done, Refused, NoMemory, Halted}
use Rattle.house_core.specs.Bench.{IsHouse, house_time, limits_of}
use Rattle.house_state.specs.Representation.{has_ended}
use Rattle.house_state.specs.Trade.{TradeView}

-- The journal and the bench represent the history, and the journal has the house's limit.
pub record HouseRepresents {D T : Type 0} (view : D → DiskView) (trade : T → TradeView) (x : HouseView D T) (h : History) : Type 0 where
  pub journal : IsJournal view x.journal h
  pub house : IsHouse trade x.bench h
  pub limit : x.journal.limit ≡ (limits_of x.bench).journal

-- ---- what it can mint

-- The next pieces of the house's own series of a time, so many of them, fit the limit of a series, and the
-- first has this identity; or they don't, and the refusal tells the series.
abbrev pub HasRun : History → ℕ → Limits → ℕ → Result ℕ Refusal → Type 0
HasRun h t limits count (Ok first) = (first ≡ next_identity h (own_series h t)) × (own_count h (own_series h t) + count ≤ limits.series)
HasRun h t limits count (Err f) = (f ≡ SeriesFull (own_series h t)) × (limits.series < own_count h (own_series h t) + count)

-- ---- what an entry that was written left

-- ---- what comes of a call

-- the disk that comes back, whatever the outcome
abbrev pub outcome_disk : {D T A : Type 0} → Outcome D T A → D
outcome_disk (Done x a) = x.journal.disk
outcome_disk (Refused x f) = x.journal.disk
outcome_disk (NoMemory x) = x.journal.disk
outcome_disk (Halted d) = d

-- P of the house that comes back, where one does
abbrev pub OfHouse : {D T A : Type 0} → (HouseView D T → Type 0) → Outcome D T A → Type 0
OfHouse P (Done x a) = P x
OfHouse P (Refused x f) = P x
OfHouse P (NoMemory x) = P x
OfHouse P (Halted d) = Unit {0}

-- P of the refusal, where there is one
abbrev pub IfRefused : {D T A : Type 0} → (Refusal → Type 0) → Outcome D T A → Type 0
IfRefused P (Done x a) = Unit {0}
IfRefused P (Refused x f) = P f
IfRefused P (NoMemory x) = Unit {0}
IfRefused P (Halted d) = Unit {0}

-- P of the house and of what was answered, where it is done
abbrev pub IfDone : {D T A : Type 0} → (HouseView D T → A → Type 0) → Outcome D T A → Type 0
IfDone P (Done x a) = P x a
IfDone P (Refused x f) = Unit {0}
IfDone P (NoMemory x) = Unit {0}
IfDone P (Halted d) = Unit {0}

-- the count of the disk's faults rose where the house halted, and stayed else
abbrev pub CountsFaults : {D T A : Type 0} → Outcome D T A → ℕ → ℕ → Type 0
CountsFaults (Halted d) before after = Rose before after
CountsFaults _ before after = after ≡ before

-- What each call that may write an entry hands back: the house, which keeps what this says, or the disk where that failed.
-- Calls of Disk alone led there, and the count of faults rose exactly where the house halted.
pub record HandsBack {D T A : Type 0} (view : D → DiskView) (moved : D → D → Type 0) (Keeps : HouseView D T → Type 0) (disk : D) (result : Outcome D T A) : Type 0 where
  pub moved' : moved disk (outcome_disk result)
  pub keeps : OfHouse Keeps result
  pub counts : CountsFaults result (view disk).faults (view (outcome_disk result)).faults

-- the house has the time and the limits of this one
pub record KeepsTime {D T : Type 0} (old new : HouseView D T) : Type 0 where
  pub time : house_time new.bench ≡ house_time old.bench
  pub limits : limits_of new.bench ≡ limits_of old.bench

-- the same, but for the house time, which was raised to this moment where that is later
pub record RaisedTo {D T : Type 0} (moment : ℕ) (old new : HouseView D T) : Type 0 where
  pub time : house_time new.bench ≡ max (house_time old.bench) moment
  pub limits : limits_of new.bench ≡ limits_of old.bench

-- the house represents the history, and its disk was not touched
pub record IsAsItWas {D T : Type 0} (view : D → DiskView) (trade : T → TradeView) (disk : D) (x : HouseView D T) (h : History) : Type 0 where
  pub represents : HouseRepresents view trade x h
  pub disk' : x.journal.disk ≡ disk

-- The entry is on the disk and is entered under the next number.
pub record HasEntered {D T : Type 0} (view : D → DiskView) (trade : T → TradeView) (x : HouseView D T) (h : History) (e : Entry) (number : ℕ) : Type 0 where
  pub represents : HouseRepresents view trade x (h ++ e ∷ [])
  pub number' : number ≡ length h

-- The windows were asked for the identity of the piece that an entry accepts, where it accepts one. Of the
-- identities whose series has not ended at a time, those that were marked then are those that the history before
-- the entry accepted.
pub record AskedFor (h : History) (t : ℕ) (e : Entry) (fresh : Option FreshView) : Type 0 where
  pub its : option_map (λ p. p.id) (accepted_piece e) ≡ option_map (λ f. f.id) fresh
  pub seen : IfSome fresh (λ f. (id : ℕ) → has_ended h t id ≡ false → is_marked f.seen id ≡ is_spent h id)

-- the number of the entry whose first reply a request gets
abbrev pub number_in : Response → ℕ
number_in (New s) = s.number
number_in (Again n) = n

-- Of a request with this answer: its entry is on the disk and entered, and the windows were asked for its
-- piece before; or memory was refused for it, or
-- the disk failed. A refusal, and the number of a request that comes again, are those of the answer, and
-- the house stays as it was.
abbrev pub Responds : {D T : Type 0} → (D → DiskView) → (T → TradeView) → D → History → Answer → Outcome D T Response → Type 0
Responds view trade disk h (answers.Take e) (Done x (New s)) = HasEntered view trade x h e s.number × AskedFor h (house_time x.bench) e s.fresh
Responds view trade disk h (answers.Take e) (NoMemory x) = IsAsItWas view trade disk x h
Responds view trade disk h (answers.Take e) (Halted d) = Rose (view disk).faults (view d).faults
Responds view trade disk h (answers.Refused f) (Refused x g) = (g ≡ f) × IsAsItWas view trade disk x h
Responds view trade disk h (answers.Again n) (Done x (Again m)) = (m ≡ n) × IsAsItWas view trade disk x h
Responds view trade disk h _ _ = ⊥

-- The same, where a request that comes again is not for the call: it is refused as one whose piece is
-- spent, and the house stays as it was.
abbrev pub Accepted : {D T : Type 0} → (D → DiskView) → (T → TradeView) → D → History → Answer → Outcome D T SettledView → Type 0
Accepted view trade disk h (answers.Take e) (Done x s) = HasEntered view trade x h e s.number × AskedFor h (house_time x.bench) e s.fresh
Accepted view trade disk h (answers.Take e) (NoMemory x) = IsAsItWas view trade disk x h
Accepted view trade disk h (answers.Take e) (Halted d) = Rose (view disk).faults (view d).faults
Accepted view trade disk h (answers.Refused f) (Refused x g) = (g ≡ f) × IsAsItWas view trade disk x h
Accepted view trade disk h (answers.Again n) (Refused x g) = (g ≡ Spent) × IsAsItWas view trade disk x h
Accepted view trade disk h _ _ = ⊥

-- Of an entry by a command, likewise. It is refused where it does not fit the journal; one that is entered fits, and one
-- that is in doubt since the disk failed may follow, and fits.
abbrev pub Entered : {D T : Type 0} → (D → DiskView) → (T → TradeView) → Limits → D → History → Entry → Outcome D T ℕ → Type 0
Entered view trade limits disk h e (Done x n) = HasEntered view trade x h e n × (fitted h limits e ≡ Ok e)
Entered view trade limits disk h e (Refused x f) = (fitted h limits e ≡ Err (Refuse f)) × IsAsItWas view trade disk x h
Entered view trade limits disk h e (NoMemory x) = IsAsItWas view trade disk x h
Entered view trade limits disk h e (Halted d) = MayFollow limits h e × Rose (view disk).faults (view d).faults × (fitted h limits e ≡ Ok e)

-- The crash pairs of a call: with the new entry or without it where one was written, else with the
-- entries as they were; and nothing was sent.
abbrev pub Leaves : {D T A : Type 0} → Answer → Outcome D T A → History → List ℕ → List ℕ → List ℕ → Type 0
Leaves (answers.Take e) (Done x a) h aside c s = EitherNoOutput h e aside c s
Leaves (answers.Take e) (Halted d) h aside c s = EitherNoOutput h e aside c s
Leaves _ _ h aside c s = EncodesNoOutput h aside c s

-- A crash pair while the house sends: the image encodes its entries, and by then the bytes sent went on
-- from those sent before to those sent after, so that nothing is said of an entry that is not there.
abbrev pub SendsOn : History → List ℕ → List ℕ → List ℕ → List ℕ → Type 0
SendsOn h before after c s = Encodes h c × (BeginsWith before s × BeginsWith s after)

-- ---- while links work

-- only the disk of the journal may have changed
pub record HouseRests {D T : Type 0} (old new : HouseView D T) : Type 0 where
  pub journal : RestsAs old.journal new.journal
  pub bench : new.bench ≡ old.bench

pub house_rests_none : {D T : Type 0} (a : HouseView D T) → HouseRests a a
house_rests_none a = record { journal = rests_none a.journal; bench = refl }

pub house_rests_then : {D T : Type 0} (a b c : HouseView D T) → HouseRests a b → HouseRests b c → HouseRests a c
house_rests_then a b c m n = record { journal = rests_then a.journal b.journal c.journal m.journal n.journal; bench = n.bench ∙ m.bench }
