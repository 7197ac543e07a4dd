-- What a journal that is read answers.
use Rattle.std.specs.Prelude.{ℕ, Option, None, Result, Ok, Err}
use Rattle.scrip_journal.specs.declared.ending.Ending.{Ending}
use Rattle.scrip_journal.specs.declared.ending.Ending.TheVariants.{Closed, Spoiled, Unchained, Failed}
use Rattle.scrip_journal.specs.declared.ending.ReplayFault.{ReplayFault}
use Rattle.scrip_journal.specs.declared.ending.ReplayFault.TheVariants.{BadRecord, BadChain, Disk}

-- the place of the gate of the next entry, or none, or a fault
abbrev pub Given : Type 0
Given = Result (Option ℕ) ReplayFault

-- the answer of a reading that has ended
abbrev pub answer_of : Ending → Given
answer_of Closed = Ok None
answer_of (Spoiled place) = Err (BadRecord place)
answer_of (Unchained place stood computed) = Err (BadChain place stood computed)
answer_of Failed = Err Disk

-- the bytes can't stand from this place on, unless the disk failed
abbrev pub unless_failed : Ending → ℕ → Ending
unless_failed Failed place = Failed
unless_failed _ place = Spoiled place
