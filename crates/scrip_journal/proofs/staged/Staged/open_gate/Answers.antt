use Rattle.std.proofs.Common.{◌≡◌, refl, sym, subst, ◌∙◌, List, ℕ, Option, arith}
use Rattle.mc_outside.specs.DiskView.{DiskView, Ran}
use Rattle.mc_outside.proofs.Counts.{on_ok}
use Rattle.mc_records.specs.Entry.{Entry}
use Rattle.scrip_journal.specs.States.{WithNext, IsStaged}
use Rattle.scrip_journal.specs.Exits.{EitherNoOutput}
use Rattle.scrip_journal.proofs.Steps.{open_ran, open_sync_ran, is_opened}
use Rattle.scrip_journal.proofs.Uncut.{NoFewer, uncut_same, uncut_then, uncut_write}
use Rattle.scrip_journal.proofs.staged.Staged.open_gate.Goals as goal

-- from what the parts of the staged journal were to what it was
of_parts : {D : Type 0} (view : D → DiskView) (b : DiskView) (h : List Entry) (e : Entry) (v s : WithNext D) → v ≡ s → (IsStaged view v h e → Ran (view v.disk) b (EitherNoOutput h e (view v.disk).aside))
    → IsStaged view s h e → Ran (view s.disk) b (EitherNoOutput h e (view s.disk).aside)
of_parts {D = D} view b h e v s is ran = subst (λ (k : WithNext D). IsStaged view k h e → Ran (view k.disk) b (EitherNoOutput h e (view k.disk).aside)) is ran

pub returns-then-is_err-clause-ran : goal.returns-then-is_err-clause-ran
returns-then-is_err-clause-ran g c h e =
    of_parts g.D.Disk.disk (g.D.Disk.disk c.write_at.new.self) h e _ _ c.self.view_is (λ k.
    open_ran g.D.Disk.disk _ h e k (omega (arith, c.self.invariant.0.1)) _ (g.met.D.Disk.disk_goes _ _ c.write_at.ensures.moved) c.write_at.ensures.pairs c.write_at.ensures.crash)

pub returns-then-is_err-2-clause-ran : goal.returns-then-is_err-2-clause-ran
returns-then-is_err-2-clause-ran g c h e =
    of_parts g.D.Disk.disk (g.D.Disk.disk c.sync.new.self) h e _ _ c.self.view_is (λ k.
    open_sync_ran g.D.Disk.disk _ h e k (omega (arith, c.self.invariant.0.1)) _ _ (g.met.D.Disk.disk_goes _ _ c.write_at.ensures.moved) c.write_at.ensures.pairs c.write_at.ensures.crash
    (g.met.D.Disk.disk_goes _ _ c.sync.ensures.moved) c.sync.ensures.pairs c.sync.ensures.crash)

pub returns-clause-ran : goal.returns-clause-ran
returns-clause-ran g c h e =
    of_parts g.D.Disk.disk (g.D.Disk.disk c.sync.new.self) h e _ _ c.self.view_is (λ k.
    open_sync_ran g.D.Disk.disk _ h e k (omega (arith, c.self.invariant.0.1)) _ _ (g.met.D.Disk.disk_goes _ _ c.write_at.ensures.moved) c.write_at.ensures.pairs c.write_at.ensures.crash
    (g.met.D.Disk.disk_goes _ _ c.sync.ensures.moved) c.sync.ensures.pairs c.sync.ensures.crash)

pub returns-clause-opened : goal.returns-clause-opened
returns-clause-opened g c h e k =
    let written = on_ok c.write_at.result _ (sym c.is_err.ensures.value ∙ c.if-is_err.false) c.write_at.ensures.written in
    let synced = on_ok c.sync.result _ (sym c.is_err-2.ensures.value ∙ c.if-is_err-2.false) c.sync.ensures.synced in
    is_opened g.D.Disk.disk _ h e (subst (λ (v : WithNext g.row.D.Denot). IsStaged g.D.Disk.disk v h e) (sym c.self.view_is) k) (omega (arith, c.self.invariant.0.1)) (g.D.Disk.disk c.write_at.new.self) c.sync.new.self _ written c.sync.ensures.same synced refl

-- likewise
uncut_parts : {D : Type 0} (view : D → DiskView) (after : Option (List ℕ)) (v j : WithNext D) → v ≡ j → NoFewer (view v.disk).contents after → NoFewer (view j.disk).contents after
uncut_parts {D = D} view after v j is uncut = subst (λ (k : WithNext D). NoFewer (view k.disk).contents after) is uncut

pub returns-then-is_err-clause-uncut : goal.returns-then-is_err-clause-uncut
returns-then-is_err-clause-uncut g c = uncut_parts g.D.Disk.disk _ _ _ c.self.view_is (uncut_write c.write_at.result _ _ _ _ c.write_at.ensures.written c.write_at.ensures.failed)

pub returns-then-is_err-2-clause-uncut : goal.returns-then-is_err-2-clause-uncut
returns-then-is_err-2-clause-uncut g c =
    uncut_parts g.D.Disk.disk _ _ _ c.self.view_is (uncut_then _ _ _ (uncut_write c.write_at.result _ _ _ _ c.write_at.ensures.written c.write_at.ensures.failed) (uncut_same _ _ c.sync.ensures.same))

pub returns-clause-uncut : goal.returns-clause-uncut
returns-clause-uncut g c =
    uncut_parts g.D.Disk.disk _ _ _ c.self.view_is (uncut_then _ _ _ (uncut_write c.write_at.result _ _ _ _ c.write_at.ensures.written c.write_at.ensures.failed) (uncut_same _ _ c.sync.ensures.same))
