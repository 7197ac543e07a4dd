use Rattle.std.proofs.Common.{◌≡◌, ◌<◌, List, ℕ, length, take, refl, sym, ap, ◌∙◌, subst, arith}
use Rattle.scrip_journal.specs.Batches.{InBatch}
use Rattle.scrip_journal.proofs.BatchSteps.{committed_none, ran_half, ran_both}
use Rattle.scrip_journal.proofs.batch.Batch.commit.Goals as goal

pub returns-then-self-eq0-clause-committed : goal.returns-then-self-eq0-clause-committed
returns-then-self-eq0-clause-committed g c h es is =
    committed_none g.D.Disk.disk _ h es (ap (λ (v : InBatch g.row.D.Denot). length v.block) (sym c.self.view_is) ∙ ap (λ (n : ℕ). length (take n c.self.inside.at.buf.items)) c.if-self-eq0.true) is

pub returns-then-self-eq0-clause-same : goal.returns-then-self-eq0-clause-same
returns-then-self-eq0-clause-same g c =
    (refl, refl, ap (λ (v : InBatch g.row.D.Denot). v.block) (sym c.self.view_is) ∙ ap (λ (n : ℕ). take n c.self.inside.at.buf.items) c.if-self-eq0.true)

pub returns-in-Ok-open-clause-ran : goal.returns-in-Ok-open-clause-ran
returns-in-Ok-open-clause-ran g c h es is =
    ran_both _ _ _ h es (g.met.D.Disk.disk_goes _ _ c.in-Ok.ensures.moved) (c.in-Ok.ensures.ran h es is) (c.in-Ok-open.ensures.ran h es (c.in-Ok.ensures.written h es is))

pub returns-in-Err-open-clause-ran : goal.returns-in-Err-open-clause-ran
returns-in-Err-open-clause-ran g c h es is =
    ran_both _ _ _ h es (g.met.D.Disk.disk_goes _ _ c.in-Ok.ensures.moved) (c.in-Ok.ensures.ran h es is) (c.in-Err-open.ensures.ran h es (c.in-Ok.ensures.written h es is))

pub returns-in-Err-clause-ran : goal.returns-in-Err-clause-ran
returns-in-Err-clause-ran g c h es is = ran_half _ _ h es _ (c.in-Err.ensures.ran h es is)
