-- What is read of an operator's input.
use Rattle.std.specs.Prelude.{◌≡◌, ◌⊎◌, ℕ, ◌+◌, ◌<◌, ◌≤◌, List, [], length, Option, Some, None}
use Rattle.mc_outside.specs.LinkView.{LinkView, next_taken, none_left, after_recv, after_eof, Failed}
use Rattle.millicent_http.specs.Courses.{NoLink}
use Rattle.millicent_http.specs.declared.input.InputFault.{InputFault}
use Rattle.millicent_http.specs.declared.input.InputFault.TheVariants as faults

-- The input is what was received on the next link up to its end, or, where more than so many bytes come, one
-- byte more than these. Where no link comes it is empty.
abbrev pub IsInput : ℕ → LinkView → List ℕ → LinkView → Type 0
IsInput most before input after =
    ((input ≡ []) × (after ≡ none_left before))
    ⊎ (((length input ≤ most) × (after ≡ after_eof (after_recv input (next_taken before))))
    ⊎ ((length input ≡ most + 1) × (after ≡ after_recv input (next_taken before))))

-- the input of a command that takes so many bytes of one link, or takes no link
abbrev pub TakesInput : Option ℕ → LinkView → List ℕ → LinkView → Type 0
TakesInput (Some most) before input after = IsInput most before input after
TakesInput None before input after = (input ≡ []) × (after ≡ before)

-- so many bytes were received into a buffer of a size: it is full, or the link was read to its end
abbrev pub Receives : ℕ → LinkView → ℕ → List ℕ → LinkView → Type 0
Receives size before n got after = ((n ≡ size) × (after ≡ after_recv got before)) ⊎ ((n < size) × (after ≡ after_eof (after_recv got before)))

-- the link could not be taken, or receiving failed after some bytes
abbrev pub LostInput : LinkView → LinkView → Type 0
LostInput before after = NoLink before after ⊎ ((got : List ℕ) × Failed (after_recv got (next_taken before)) after)

-- the input of such a command was lost by its link
abbrev pub LosesInput : Option ℕ → LinkView → LinkView → Type 0
LosesInput (Some most) before after = LostInput before after
LosesInput None before after = ⊥

-- why no input was read: memory was refused before the link was taken, or the link failed
abbrev pub InputFailed : InputFault → Option ℕ → LinkView → LinkView → Type 0
InputFailed faults.NoMemory most before after = after ≡ before
InputFailed faults.Link most before after = LosesInput most before after
