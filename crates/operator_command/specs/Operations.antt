-- What the operations of a site's operator mean.
use Rattle.std.specs.Prelude.{◌≡◌, ℕ, List, [], ◌∷◌, length, Option, None, Result, Ok, Err}
use Rattle.mc_base.specs.declared.no_memory.NoMemory.{NoMemory}
use Rattle.mc_requests.specs.declared.limits.Limits.{Limits}
use Rattle.mc_requests.specs.declared.limits.TheConstants.Limits.{MOST_JOURNAL, MOST_SERIES}
use Rattle.mc_records.specs.Chains.{chain}
use Rattle.ledger_model.specs.Histories.{History}
use Rattle.ledger_model.specs.Houses.{site_name}
use Rattle.house_core.specs.HouseView.{HouseView}
use Rattle.house_core.specs.declared.outcome.Outcome.{Outcome}
use Rattle.house_core.specs.declared.outcome.Outcome.TheVariants as outcomes
use Rattle.house_core.specs.Bench.{house_time, limits_of}
use Rattle.house_core.specs.Tasks.{Task, Performs, switch_task, after}
use Rattle.house_state.specs.Trade.{TradeView}
use Rattle.mc_outside.specs.DiskView.{DiskView}
use Rattle.said_lines.specs.Lines.{chain_line}

-- the greatest limits, under which the program runs
abbrev pub full : Limits
full = record { journal = MOST_JOURNAL; series = MOST_SERIES }

-- What an operation means to the book that it is for.
pub record OperationView : Type 1 where
  -- the next link brings its input, of at most so many bytes; or it takes none
  pub input : Option ℕ
  -- with this input it sets a task over a history, at a time
  pub asks : List ℕ → History → ℕ → Task → Type 0
  -- what is said where it was done, by the input, the history that it was set over and its task
  pub says : List ℕ → History → Task → List ℕ → Type 0
  -- the numbers of the refusals that it may end with, whatever the book is
  pub refusals : List ℕ

-- what an operation asks of a history was done with this input over a house, and this line says so
abbrev pub CarriesOut : {D T : Type 0} → (D → DiskView) → (T → TradeView) → OperationView → HouseView D T → List ℕ → List ℕ → History → Outcome D T (Unit {0}) → Type 0
CarriesOut disk trade operation house input line h result = Performs disk trade (operation.asks input h (house_time house.bench)) (λ task g answer. operation.says input h task line) (limits_of house.bench) house.journal.disk h result

-- the outcome of an operation, without what was answered
abbrev pub without_answer : {D T A : Type 0} → Outcome D T A → Outcome D T (Unit {0})
without_answer (outcomes.Done x a) = outcomes.Done x tt
without_answer (outcomes.Refused x f) = outcomes.Refused x f
without_answer (outcomes.NoMemory x) = outcomes.NoMemory x
without_answer (outcomes.Halted d) = outcomes.Halted d

-- what comes of a command that looks at a house, whose lines were made, or memory was refused
abbrev pub looked : {D T : Type 0} → HouseView D T → Result (Unit {0}) NoMemory → Outcome D T (Unit {0})
looked x (Ok a) = outcomes.Done x tt
looked x (Err f) = outcomes.NoMemory x

-- what holds of the house that goes on, where the task was done
abbrev pub IfDone : {D T A : Type 0} → Outcome D T A → (HouseView D T → Type 0) → Type 0
IfDone (outcomes.Done x a) P = P x
IfDone _ P = Unit {0}

-- ---- what operators of both sites do

-- the book is switched, where it is not, and its chain is said as it then stands
abbrev pub chain_operation : OperationView
chain_operation = record {
  input = None;
  asks = λ input h t task. task ≡ switch_task h t;
  says = λ input h task line. line ≡ chain_line (site_name h) (length (after task h)) (chain (after task h));
  refusals = 33 ∷ [];
}
