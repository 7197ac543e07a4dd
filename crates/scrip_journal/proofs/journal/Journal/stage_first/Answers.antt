use Rattle.scrip_journal.proofs.Appending.{ran_read_then}
use Rattle.scrip_journal.proofs.journal.Journal.stage_first.Goals as goal

pub returns-in-Ok-stage_next-clause-ran : goal.returns-in-Ok-stage_next-clause-ran
returns-in-Ok-stage_next-clause-ran g c h is =
    ran_read_then g.D.Disk.disk c.args.self h (g.D.Disk.disk c.in-Ok.journal.disk) (g.D.Disk.disk c.in-Ok-stage_next.staged.disk) is c.in-Ok.ensures.read (c.in-Ok-stage_next.ensures.ran h (c.in-Ok.ensures.stands h is))

pub returns-in-Err-Disk-clause-ran : goal.returns-in-Err-Disk-clause-ran
returns-in-Err-Disk-clause-ran g c h is =
    let ran = rw c.in-Err-Disk.field-0-is at c.in-Err-Disk.ensures.ran h (c.in-Ok.ensures.stands h is) in
    ran_read_then g.D.Disk.disk c.args.self h (g.D.Disk.disk c.in-Ok.journal.disk) (g.D.Disk.disk c.in-Err-Disk.halted) is c.in-Ok.ensures.read ran
