-- What a reader of the code gives, beside what reading gives on lists.
use Rattle.std.specs.Prelude.{◌≡◌, ℕ, List, Result, Ok, Err}
use Rattle.mc_fields.specs.declared.stuck.Stuck.{Stuck}
use Rattle.mc_fields.specs.Reading.{Read}

-- what a function returned, seen by view, is what reading gives
abbrev pub Gives : {X A : Type 0} → (X → A × List ℕ) → Result X Stuck → Read A → Type 0
Gives view (Ok x) read = read ≡ Ok (view x)
Gives view (Err e) read = read ≡ Err e.left
