-- What is answered where something is done.
use Rattle.std.specs.Prelude.{Option, Some, None}
use Rattle.house_core.specs.declared.outcome.Outcome.{Outcome}
use Rattle.house_core.specs.declared.outcome.Outcome.TheVariants as outcomes

-- the answer, where it was done
abbrev pub answer_in : {D T A : Type 0} → Outcome D T A → Option A
answer_in (outcomes.Done x a) = Some a
answer_in _ = None
