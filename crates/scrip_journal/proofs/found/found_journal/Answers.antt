use Rattle.std.proofs.Common.{refl, sym, ◌∙◌}
use Rattle.mc_outside.proofs.Counts.{on_ok}
use Rattle.scrip_journal.proofs.Founding.{write_ran, sync_ran, is_founded}
use Rattle.scrip_journal.proofs.found.found_journal.Goals as goal

pub returns-then-is_err-2-clause-ran : goal.returns-then-is_err-2-clause-ran
returns-then-is_err-2-clause-ran g c =
    write_ran _ _ (g.met.D.Disk.disk_goes _ _ c.cut.ensures.moved) c.cut.ensures.pairs c.cut.ensures.crash _ (g.met.D.Disk.disk_goes _ _ c.write_at.ensures.moved) c.write_at.ensures.pairs c.write_at.ensures.crash

pub returns-then-is_err-3-clause-ran : goal.returns-then-is_err-3-clause-ran
returns-then-is_err-3-clause-ran g c =
    sync_ran _ _ (g.met.D.Disk.disk_goes _ _ c.cut.ensures.moved) c.cut.ensures.pairs c.cut.ensures.crash _ (g.met.D.Disk.disk_goes _ _ c.write_at.ensures.moved) c.write_at.ensures.pairs c.write_at.ensures.crash
    _ (g.met.D.Disk.disk_goes _ _ c.sync.ensures.moved) c.sync.ensures.pairs c.sync.ensures.crash

pub returns-clause-ran : goal.returns-clause-ran
returns-clause-ran g c =
    sync_ran _ _ (g.met.D.Disk.disk_goes _ _ c.cut.ensures.moved) c.cut.ensures.pairs c.cut.ensures.crash _ (g.met.D.Disk.disk_goes _ _ c.write_at.ensures.moved) c.write_at.ensures.pairs c.write_at.ensures.crash
    _ (g.met.D.Disk.disk_goes _ _ c.sync.ensures.moved) c.sync.ensures.pairs c.sync.ensures.crash

pub returns-clause-founded : goal.returns-clause-founded
returns-clause-founded g c x told =
    let cut = on_ok c.cut.result _ (sym c.is_err.ensures.value ∙ c.if-is_err.false) c.cut.ensures.cut in
    let written = on_ok c.write_at.result _ (sym c.is_err-2.ensures.value ∙ c.if-is_err-2.false) c.write_at.ensures.written in
    let synced = on_ok c.sync.result _ (sym c.is_err-3.ensures.value ∙ c.if-is_err-3.false) c.sync.ensures.synced in
    is_founded g.D.Disk.disk (g.D.Disk.disk c.args.disk) (g.D.Disk.disk c.cut.new.self) (g.D.Disk.disk c.write_at.new.self) c.sync.new.self x _ told cut written c.sync.ensures.same synced refl refl refl refl refl
