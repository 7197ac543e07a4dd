use Rattle.std.proofs.Common.{[], arith}
use Rattle.mc_records.specs.Views.{entry}
use Rattle.scrip_journal.specs.Exits.{EitherNoOutput}
use Rattle.scrip_journal.proofs.FoundLemmas.{ran_at}
use Rattle.scrip_journal.proofs.Uncut.{uncut_at}
use Rattle.scrip_journal.proofs.book.enter_first.Goals as goal

pub returns-in-Ok-clause-exact : goal.returns-in-Ok-clause-exact
returns-in-Ok-clause-exact g c j = (c.in-Ok.ensures.written [] j).0

pub returns-in-Ok-clause-ran : goal.returns-in-Ok-clause-ran
returns-in-Ok-clause-ran g c j = c.in-Ok.ensures.ran [] j

pub returns-in-Err-Disk-clause-ran : goal.returns-in-Err-Disk-clause-ran
returns-in-Err-Disk-clause-ran g c j =
    let ran = rw c.in-Err-Disk.field-0-is at c.in-Err-Disk.ensures.ran [] j in
    ran_at g.D.Disk.disk (g.D.Disk.disk c.args.journal.disk) c.in-Err-Disk.halted c.close.result (EitherNoOutput [] (entry c.args.first.now) (g.D.Disk.disk c.args.journal.disk).aside) c.close.ensures ran

-- the journal has room for its first entry
pub unreachable-requires : goal.unreachable-requires
unreachable-requires g c =
    let full = rw c.in-Err-Full.field-0-is at c.in-Err-Full.ensures.full [] c.requires.empty.0 c.requires.empty.1 in
    omega (arith, full, c.requires.room)

pub returns-in-Err-Disk-clause-uncut : goal.returns-in-Err-Disk-clause-uncut
returns-in-Err-Disk-clause-uncut g c = uncut_at g.D.Disk.disk _ c.in-Err-Disk.halted c.close.result c.close.ensures (rw c.in-Err-Disk.field-0-is at c.in-Err-Disk.ensures.uncut)
