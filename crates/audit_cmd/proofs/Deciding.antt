-- Which book decides what is found.
use Rattle.std.proofs.Common.{ℕ, List, Result, Ok, Err}
use Rattle.std.specs.Prelude.{◌<◌, IfSome}
use Rattle.mc_outside.specs.DiskView.{DiskView}
use Rattle.audit_cmd.specs.declared.fault.AuditFault.{AuditFault}
use Rattle.audit_cmd.specs.declared.fault.AuditFault.TheVariants as faults
use Rattle.audit_cmd.specs.OneBook.{Causes}
use Rattle.audit_cmd.specs.Books.{EachRead, FirstDecides, EndsReading, IsOfAll, told_book}

-- where all are read none is told not to be
pub all_decide : {D A : Type 0} (view : D → DiskView) (causes : Causes) (IsRead : List ℕ → Type 0) (disks : List D) (found : Result A AuditFault) → IsOfAll found → EachRead view IsRead disks → FirstDecides view causes IsRead disks found
all_decide view causes IsRead disks (Ok a) of_all each = each
all_decide view causes IsRead disks (Err (faults.NotJournal book)) of_all each = absurd of_all
all_decide view causes IsRead disks (Err (faults.BadRecord book place)) of_all each = absurd of_all
all_decide view causes IsRead disks (Err (faults.BadChain book place stood computed)) of_all each = absurd of_all
all_decide view causes IsRead disks (Err (faults.Unlawful book place)) of_all each = absurd of_all
all_decide view causes IsRead disks (Err (faults.Disk book)) of_all each = absurd of_all
all_decide view causes IsRead disks (Err faults.BadBooks) of_all each = each
all_decide view causes IsRead disks (Err (faults.MissingBook name)) of_all each = each
all_decide view causes IsRead disks (Err (faults.Stranger book name id)) of_all each = each
all_decide view causes IsRead disks (Err faults.NoMemory) of_all each = tt

-- ---- what ends the reading

pub ends_so : (P Q : ℕ → Type 0) → ((book : ℕ) → P book → Q book) → (fault : AuditFault) → EndsReading P fault → EndsReading Q fault
ends_so P Q f (faults.NotJournal book) ended = f book ended
ends_so P Q f (faults.BadRecord book place) ended = f book ended
ends_so P Q f (faults.BadChain book place stood computed) ended = f book ended
ends_so P Q f (faults.Unlawful book place) ended = f book ended
ends_so P Q f (faults.Disk book) ended = f book ended
ends_so P Q f faults.BadBooks ended = absurd ended
ends_so P Q f (faults.MissingBook name) ended = absurd ended
ends_so P Q f (faults.Stranger book name id) ended = absurd ended
ends_so P Q f faults.NoMemory ended = tt

pub told_so : (R : Type 0) (count : ℕ) (fault : AuditFault) → EndsReading (λ book. book < count) fault → IfSome (told_book {A = R} (Err fault)) (λ book. book < count)
told_so R count (faults.NotJournal book) ended = ended
told_so R count (faults.BadRecord book place) ended = ended
told_so R count (faults.BadChain book place stood computed) ended = ended
told_so R count (faults.Unlawful book place) ended = ended
told_so R count (faults.Disk book) ended = ended
told_so R count faults.BadBooks ended = absurd ended
told_so R count (faults.MissingBook name) ended = absurd ended
told_so R count (faults.Stranger book name id) ended = absurd ended
told_so R count faults.NoMemory ended = tt
