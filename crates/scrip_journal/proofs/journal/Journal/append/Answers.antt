use Rattle.mc_records.specs.Views.{entry}
use Rattle.scrip_journal.proofs.Appending.{ran_written, ran_unstaged}
use Rattle.scrip_journal.proofs.Uncut.{uncut_then, uncut_unstaged}
use Rattle.scrip_journal.proofs.journal.Journal.append.Goals as goal

pub returns-in-Ok-open_gate-clause-ran : goal.returns-in-Ok-open_gate-clause-ran
returns-in-Ok-open_gate-clause-ran g c h is =
    ran_written _ _ _ h _ (g.met.D.Disk.disk_goes _ _ c.in-Ok.ensures.moved) (c.in-Ok.ensures.ran h is) (c.in-Ok-open_gate.ensures.ran h _ (c.in-Ok.ensures.staged h is))

pub returns-in-Err-open_gate-clause-ran : goal.returns-in-Err-open_gate-clause-ran
returns-in-Err-open_gate-clause-ran g c h is =
    ran_written _ _ _ h _ (g.met.D.Disk.disk_goes _ _ c.in-Ok.ensures.moved) (c.in-Ok.ensures.ran h is) (c.in-Err-open_gate.ensures.ran h _ (c.in-Ok.ensures.staged h is))

pub returns-in-Err-clause-ran : goal.returns-in-Err-clause-ran
returns-in-Err-clause-ran g c h is = ran_unstaged g.D.Disk.disk _ h (entry c.args.r.now) _ c.in-Err.fault (c.in-Err.ensures.ran h is)

pub returns-in-Ok-open_gate-clause-uncut : goal.returns-in-Ok-open_gate-clause-uncut
returns-in-Ok-open_gate-clause-uncut g c = uncut_then _ _ _ c.in-Ok.ensures.uncut c.in-Ok-open_gate.ensures.uncut

pub returns-in-Err-open_gate-clause-uncut : goal.returns-in-Err-open_gate-clause-uncut
returns-in-Err-open_gate-clause-uncut g c = uncut_then _ _ _ c.in-Ok.ensures.uncut c.in-Err-open_gate.ensures.uncut

pub returns-in-Err-clause-uncut : goal.returns-in-Err-clause-uncut
returns-in-Err-clause-uncut g c = uncut_unstaged g.D.Disk.disk _ c.in-Err.fault c.in-Err.ensures.uncut
