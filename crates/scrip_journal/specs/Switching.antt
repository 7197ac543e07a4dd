-- What writing a Switch answers.
use Rattle.std.specs.Prelude.{ℕ, List, Result, Ok, Err}
use Rattle.scrip_journal.specs.States.{AtRest}
use Rattle.scrip_journal.specs.declared.journal.StageFault.{StageFault}
use Rattle.scrip_journal.specs.declared.journal.StageFault.TheVariants.{Full, Disk}

-- the disk that comes back, whatever is answered
abbrev pub switched_disk : {D : Type 0} → Result (AtRest D × ℕ × List ℕ) (StageFault D) → D
switched_disk (Ok w) = w.0.disk
switched_disk (Err (Full j)) = j.disk
switched_disk (Err (Disk d)) = d
