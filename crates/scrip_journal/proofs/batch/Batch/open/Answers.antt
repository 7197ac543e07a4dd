use Rattle.std.proofs.Common.{◌≡◌, refl, sym, subst, ◌∙◌, List, [], ◌∷◌, ◌++◌, ℕ, ◌+◌, ◌<◌, ◌≤◌, ap, take, drop, length, Option, arith}
use Rattle.std.proofs.lemmas.List.{length-take}
use Rattle.mc_outside.specs.DiskView.{DiskView, Ran}
use Rattle.mc_outside.proofs.Counts.{on_ok}
use Rattle.mc_records.specs.Entry.{Entry}
use Rattle.scrip_journal.specs.Batches.{InBatch, IsBatchWritten, AllOrNone}
use Rattle.scrip_journal.proofs.BatchSteps.{open_ran, open_sync_ran, is_committed}
use Rattle.scrip_journal.proofs.batch.Batch.open.Goals as goal

-- from what the parts of the batch were to what it was
of_parts : {D : Type 0} (view : D → DiskView) (x : DiskView) (h es : List Entry) (v b : InBatch D) → v ≡ b → (IsBatchWritten view v h es → Ran (view v.disk) x (AllOrNone h es (view v.disk).aside))
    → IsBatchWritten view b h es → Ran (view b.disk) x (AllOrNone h es (view b.disk).aside)
of_parts {D = D} view x h es v b is ran = subst (λ (k : InBatch D). IsBatchWritten view k h es → Ran (view k.disk) x (AllOrNone h es (view k.disk).aside)) is ran

-- likewise
some_parts : {D : Type 0} (v b : InBatch D) → v ≡ b → 0 < length b.block → 0 < length v.block
some_parts {D = D} v b is some = subst (λ (k : InBatch D). 0 < length k.block) (sym is) some

pub returns-then-is_err-clause-ran : goal.returns-then-is_err-clause-ran
returns-then-is_err-clause-ran g c h es =
    of_parts g.D.Disk.disk (g.D.Disk.disk c.write_at.new.self) h es _ _ c.self.view_is (λ k.
    open_ran g.D.Disk.disk _ h es k (some_parts _ _ c.self.view_is c.requires.some) (omega (arith, c.self.invariant.0, length-take c.self.inside.bytes c.self.inside.at.buf.items))
    _ (g.met.D.Disk.disk_goes _ _ c.write_at.ensures.moved) c.write_at.ensures.pairs c.write_at.ensures.crash)

pub returns-then-is_err-2-clause-ran : goal.returns-then-is_err-2-clause-ran
returns-then-is_err-2-clause-ran g c h es =
    of_parts g.D.Disk.disk (g.D.Disk.disk c.sync.new.self) h es _ _ c.self.view_is (λ k.
    open_sync_ran g.D.Disk.disk _ h es k (some_parts _ _ c.self.view_is c.requires.some) (omega (arith, c.self.invariant.0, length-take c.self.inside.bytes c.self.inside.at.buf.items))
    _ _ (g.met.D.Disk.disk_goes _ _ c.write_at.ensures.moved) c.write_at.ensures.pairs c.write_at.ensures.crash
    (g.met.D.Disk.disk_goes _ _ c.sync.ensures.moved) c.sync.ensures.pairs c.sync.ensures.crash)

pub returns-clause-ran : goal.returns-clause-ran
returns-clause-ran g c h es =
    of_parts g.D.Disk.disk (g.D.Disk.disk c.sync.new.self) h es _ _ c.self.view_is (λ k.
    open_sync_ran g.D.Disk.disk _ h es k (some_parts _ _ c.self.view_is c.requires.some) (omega (arith, c.self.invariant.0, length-take c.self.inside.bytes c.self.inside.at.buf.items))
    _ _ (g.met.D.Disk.disk_goes _ _ c.write_at.ensures.moved) c.write_at.ensures.pairs c.write_at.ensures.crash
    (g.met.D.Disk.disk_goes _ _ c.sync.ensures.moved) c.sync.ensures.pairs c.sync.ensures.crash)

pub returns-clause-opened : goal.returns-clause-opened
returns-clause-opened g c h es k =
    let written = on_ok c.write_at.result _ (sym c.is_err.ensures.value ∙ c.if-is_err.false) c.write_at.ensures.written in
    let synced = on_ok c.sync.result _ (sym c.is_err-2.ensures.value ∙ c.if-is_err-2.false) c.sync.ensures.synced in
    let was = subst (λ (v : InBatch g.row.D.Denot). IsBatchWritten g.D.Disk.disk v h es) (sym c.self.view_is) k in
    let long : length (take c.self.inside.bytes c.self.inside.at.buf.items) ≡ c.self.inside.bytes = omega (arith, c.self.invariant.0, length-take c.self.inside.bytes c.self.inside.at.buf.items) in
    is_committed g.D.Disk.disk _ h es was (some_parts _ _ c.self.view_is c.requires.some) (omega (arith, c.self.invariant.0, long))
    (g.D.Disk.disk c.write_at.new.self) c.sync.new.self _ written c.sync.ensures.same synced
    (ap (λ (n : ℕ). record { disk = c.sync.new.self; gate = c.self.inside.at.gate + n; block = []; first = c.self.inside.at.entries; entries = c.self.inside.at.entries; limit = c.self.inside.at.limit; switched = c.self.inside.at.switched; chain = c.self.inside.at.chain }) (sym long))
