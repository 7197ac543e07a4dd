use Rattle.std.proofs.Common.{◌≤◌, length, arith}
use Rattle.mc_outside.proofs.Runs.{read_call}
use Rattle.scrip_journal.proofs.FoundLemmas.{founded_short}
use Rattle.scrip_journal.proofs.book.empty_small.Goals as goal

pub returns-in-Ok-found_journal-clause-ran : goal.returns-in-Ok-found_journal-clause-ran
returns-in-Ok-found_journal-clause-ran g c x told other synced =
    let read = read_call _ _ (g.met.D.Disk.disk_goes _ _ c.size.ensures.moved) c.size.ensures.pairs c.size.ensures.same c.size.ensures.crash in
    let small : length x ≤ 9 = omega (arith, c.in-Ok.ensures.length x told, c.if-size-gt-EMPTY_JOURNAL.false) in
    founded_short (g.D.Disk.disk c.args.disk) (g.D.Disk.disk c.size.new.self) (g.D.Disk.disk c.in-Ok-found_journal.journal.disk) x read told synced small other c.in-Ok-found_journal.ensures.ran

pub returns-in-Err-Disk-clause-ran : goal.returns-in-Err-Disk-clause-ran
returns-in-Err-Disk-clause-ran g c x told other synced =
    let read = read_call _ _ (g.met.D.Disk.disk_goes _ _ c.size.ensures.moved) c.size.ensures.pairs c.size.ensures.same c.size.ensures.crash in
    let small : length x ≤ 9 = omega (arith, c.in-Ok.ensures.length x told, c.if-size-gt-EMPTY_JOURNAL.false) in
    let ran = rw c.in-Err-Disk.field-0-is at c.in-Err-Disk.ensures.ran in
    founded_short (g.D.Disk.disk c.args.disk) (g.D.Disk.disk c.size.new.self) (g.D.Disk.disk c.in-Err-Disk.disk) x read told synced small other ran
