-- The statuses of books that are not opened or founded.
use Rattle.scrip_journal.specs.declared.fault.HouseFault.{HouseFault}
use Rattle.scrip_journal.specs.declared.fault.HouseFault.TheVariants as faults
use Rattle.mc_requests.specs.declared.refusal.Refusal.TheVariants as refusals
use Rattle.command_status.specs.declared.status.Status.{Status}
use Rattle.command_status.specs.declared.status.Status.TheVariants as ends

abbrev pub fault_status : {D : Type 0} → HouseFault D → Status
fault_status (faults.NotJournal d) = ends.NotJournal
fault_status (faults.BadRecord d place) = ends.BadEntry place
fault_status (faults.BadChain d place stood computed) = ends.BadChain place
fault_status (faults.Unlawful d place) = ends.UnlawfulEntry place
fault_status (faults.WrongKind d) = ends.Refused refusals.WrongKind
fault_status (faults.NotEmpty d size) = ends.Refused (refusals.NotEmpty size)
fault_status (faults.Disk d) = ends.DiskFault
fault_status (faults.NoMemory d) = ends.NoMemory
