use Rattle.std.proofs.Common.{◌≡◌, refl, sym, subst, ◌∙◌, List, [], ◌∷◌, ◌++◌, ℕ, ◌+◌, ◌<◌, ap, take, length}
use Rattle.std.specs.Prelude.{slice_range}
use Rattle.mc_outside.specs.DiskView.{DiskView, Ran}
use Rattle.mc_outside.proofs.Counts.{on_ok}
use Rattle.mc_records.specs.Entry.{Entry}
use Rattle.scrip_journal.specs.Batches.{InBatch, IsBatch}
use Rattle.scrip_journal.specs.Exits.{EncodesNoOutput}
use Rattle.scrip_journal.proofs.BatchSteps.{block_behind, write_ran, write_sync_ran, is_written}
use Rattle.scrip_journal.proofs.batch.Batch.write.Goals as goal

-- from what the parts of the batch were to what it was
of_parts : {D : Type 0} (view : D → DiskView) (x : DiskView) (h es : List Entry) (v b : InBatch D) → v ≡ b → (IsBatch view v h es → Ran (view v.disk) x (EncodesNoOutput h (view v.disk).aside))
    → IsBatch view b h es → Ran (view b.disk) x (EncodesNoOutput h (view b.disk).aside)
of_parts {D = D} view x h es v b is ran = subst (λ (k : InBatch D). IsBatch view k h es → Ran (view k.disk) x (EncodesNoOutput h (view k.disk).aside)) is ran

pub returns-then-is_err-clause-ran : goal.returns-then-is_err-clause-ran
returns-then-is_err-clause-ran g c h es =
    of_parts g.D.Disk.disk (g.D.Disk.disk c.write_at.new.self) h es _ _ c.self.view_is (λ k.
    write_ran g.D.Disk.disk _ h es k _ _ (g.met.D.Disk.disk_goes _ _ c.write_at.ensures.moved) c.write_at.ensures.pairs c.write_at.ensures.crash)

pub returns-then-is_err-2-clause-ran : goal.returns-then-is_err-2-clause-ran
returns-then-is_err-2-clause-ran g c h es =
    of_parts g.D.Disk.disk (g.D.Disk.disk c.sync.new.self) h es _ _ c.self.view_is (λ k.
    write_sync_ran g.D.Disk.disk _ h es k _ _ _ (g.met.D.Disk.disk_goes _ _ c.write_at.ensures.moved) c.write_at.ensures.pairs c.write_at.ensures.crash
    (g.met.D.Disk.disk_goes _ _ c.sync.ensures.moved) c.sync.ensures.pairs c.sync.ensures.crash)

pub returns-clause-ran : goal.returns-clause-ran
returns-clause-ran g c h es =
    of_parts g.D.Disk.disk (g.D.Disk.disk c.sync.new.self) h es _ _ c.self.view_is (λ k.
    write_sync_ran g.D.Disk.disk _ h es k _ _ _ (g.met.D.Disk.disk_goes _ _ c.write_at.ensures.moved) c.write_at.ensures.pairs c.write_at.ensures.crash
    (g.met.D.Disk.disk_goes _ _ c.sync.ensures.moved) c.sync.ensures.pairs c.sync.ensures.crash)

pub returns-clause-written : goal.returns-clause-written
returns-clause-written g c h es k =
    let written = on_ok c.write_at.result _ (sym c.is_err.ensures.value ∙ c.if-is_err.false) c.write_at.ensures.written in
    let synced = on_ok c.sync.result _ (sym c.is_err-2.ensures.value ∙ c.if-is_err-2.false) c.sync.ensures.synced in
    let was = subst (λ (v : InBatch g.row.D.Denot). IsBatch g.D.Disk.disk v h es) (sym c.self.view_is) k in
    let buf = c.self.inside.at.buf.items in
    let n = c.self.inside.bytes in
    let some : 0 < length (take n buf) = subst (λ (v : InBatch g.row.D.Denot). 0 < length v.block) (sym c.self.view_is) c.requires.some in
    let block = ap (λ (l : List ℕ). slice_range l 1 (n + 1)) c.deref.ensures.value ∙ block_behind buf n c.self.invariant.1.0 some in
    is_written g.D.Disk.disk _ h es was (g.D.Disk.disk c.write_at.new.self) c.sync.new.self _ _ written c.sync.ensures.same synced block refl
