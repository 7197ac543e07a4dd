-- Which refusals a call may end with, whatever its house represents.
use Rattle.std.specs.Prelude.{ℕ, ◌==◌, List, IsTrue}
use Rattle.std.specs.List.{list_any}
use Rattle.mc_requests.specs.declared.refusal.Refusal.{Refusal}
use Rattle.mc_requests.specs.Refusals.{number_of}
use Rattle.house_core.specs.declared.fault.EnterFault.{EnterFault}
use Rattle.house_core.specs.declared.fault.EnterFault.TheVariants as faults

-- the refusal has one of these numbers
abbrev pub IsAmong : List ℕ → Refusal → Type 0
IsAmong numbers f = IsTrue (list_any (λ n. n == number_of f) numbers)

-- likewise why an entry was not entered, where that is a refusal
abbrev pub FaultIsAmong : List ℕ → EnterFault → Type 0
FaultIsAmong numbers (faults.Refused f) = IsAmong numbers f
FaultIsAmong numbers _ = Unit {0}
