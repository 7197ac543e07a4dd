-- What comes of a command of a site's operator: what there is to do, and what was done.
use Rattle.std.specs.Prelude.{◌≡◌, ℕ, ◌+◌, List, [], ◌∷◌, ◌++◌, length, Option, None, Ok, Err, MatchOption, if◌then◌else◌}
use Rattle.mc_outside.specs.Bytes.{Rose}
use Rattle.mc_outside.specs.DiskView.{DiskView, Ran}
use Rattle.mc_requests.specs.declared.limits.Limits.{Limits}
use Rattle.mc_requests.specs.declared.refusal.Refusal.{Refusal}
use Rattle.mc_records.specs.Entry.{Entry, Switch}
use Rattle.mc_records.specs.Chains.{chain, has_switch}
use Rattle.ledger_model.specs.Histories.{History}
use Rattle.ledger_model.specs.Lawful.{MayFollow}
use Rattle.ledger_model.specs.Lines as lines
use Rattle.ledger_model.specs.Answer.{fitted}
use Rattle.scrip_journal.specs.Exits.{EncodesNoOutput, EitherNoOutput}
use Rattle.house_core.specs.declared.outcome.Outcome.{Outcome}
use Rattle.house_core.specs.declared.outcome.Outcome.TheVariants as outcomes
use Rattle.house_core.specs.House.{HouseRepresents, IsAsItWas, outcome_disk}
use Rattle.house_state.specs.Trade.{TradeView}

-- ---- what there is to do

-- to add an entry; nothing, since the same stands; or to refuse
pub data Task : Type 0 where
  Add : Entry → Task
  Stays : Task
  Refuse : Refusal → Task

-- a task that was done is none that is refused
abbrev pub IsDoable : Task → Type 0
IsDoable (Refuse f) = ⊥
IsDoable _ = Unit {0}

-- the history that stands where a task was done
abbrev pub after : Task → History → History
after (Add e) h = h ++ e ∷ []
after _ h = h

-- why a task was refused: by its own rule, or since its entry does not fit the journal
abbrev pub IsRefused : Limits → Task → History → Refusal → Type 0
IsRefused limits (Add e) h f = fitted h limits e ≡ Err (lines.Refuse f)
IsRefused limits Stays h f = ⊥
IsRefused limits (Refuse g) h f = f ≡ g

-- to switch a book, at this moment: nothing, where it is switched
abbrev pub switch_task : History → ℕ → Task
switch_task h moment = if has_switch h then Stays else Add (Switch moment (chain h))

-- ---- what was done

-- What comes of a task over a history: an entry, which fits the journal, is on the disk and is entered; nothing was
-- changed, where the same stands, where it is refused or does not fit the journal (33), or where memory was refused; or the
-- disk failed, and then the entry may follow, and fits. `Told` holds of the task, of the history that stands then, and of
-- what is answered.
abbrev pub Does : {D T A : Type 0} → (D → DiskView) → (T → TradeView) → (Task → History → A → Type 0) → Limits → D → History → Task → Outcome D T A → Type 0
Does view trade Told limits disk h (Add e) (outcomes.Done x a) = HouseRepresents view trade x (h ++ e ∷ []) × Told (Add e) (h ++ e ∷ []) a × (fitted h limits e ≡ Ok e)
Does view trade Told limits disk h (Add e) (outcomes.Refused x f) = (fitted h limits e ≡ Err (lines.Refuse f)) × IsAsItWas view trade disk x h
Does view trade Told limits disk h (Add e) (outcomes.NoMemory x) = IsAsItWas view trade disk x h
Does view trade Told limits disk h (Add e) (outcomes.Halted d) = MayFollow limits h e × Rose (view disk).faults (view d).faults × (fitted h limits e ≡ Ok e)
Does view trade Told limits disk h Stays (outcomes.Done x a) = IsAsItWas view trade disk x h × Told Stays h a
Does view trade Told limits disk h Stays (outcomes.NoMemory x) = IsAsItWas view trade disk x h
Does view trade Told limits disk h (Refuse f) (outcomes.Refused x g) = (g ≡ f) × IsAsItWas view trade disk x h
Does view trade Told limits disk h _ _ = ⊥

-- The crash pairs of it: with the entry or without it where one was written, else with the entries as they
-- were; and nothing was sent.
abbrev pub LeavesBy : {D T A : Type 0} → Task → Outcome D T A → History → List ℕ → List ℕ → List ℕ → Type 0
LeavesBy (Add e) (outcomes.Done x a) h aside c s = EitherNoOutput h e aside c s
LeavesBy (Add e) (outcomes.Halted d) h aside c s = EitherNoOutput h e aside c s
LeavesBy _ _ h aside c s = EncodesNoOutput h aside c s

-- a task that this history asks for was done
pub record Performs {D T A : Type 0} (view : D → DiskView) (trade : T → TradeView) (Asks : Task → Type 0) (Told : Task → History → A → Type 0) (limits : Limits) (disk : D) (h : History) (result : Outcome D T A) : Type 0 where
  pub task : Task
  pub asks : Asks task
  pub does : Does view trade Told limits disk h task result
  pub ran : Ran (view disk) (view (outcome_disk result)) (LeavesBy task result h (view disk).aside)

-- ---- what is answered

-- the number of the last entry
abbrev pub TellsLast : Task → History → ℕ → Type 0
TellsLast task g number = number + 1 ≡ length g

-- the number of the last entry where one was added
abbrev pub TellsAdded : Task → History → Option ℕ → Type 0
TellsAdded (Add e) g answer = MatchOption answer ⊥ (λ number. number + 1 ≡ length g)
TellsAdded _ g answer = answer ≡ None

-- no lines where it is not done
abbrev pub NoLines : {D T A : Type 0} → List ℕ → Outcome D T A → Type 0
NoLines out (outcomes.Done x a) = Unit {0}
NoLines out _ = out ≡ []
