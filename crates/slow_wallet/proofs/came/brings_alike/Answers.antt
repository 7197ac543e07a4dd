use Rattle.std.proofs.Common.{arith, refl, ◌∙◌, Bool, ◌||◌, true, false}
use Rattle.std.specs.List.{list_any}
use Rattle.mc_records.specs.Entry.{Held}
use Rattle.slow_ledger.proofs.SlowLaws.{from_next}
use Rattle.slow_wallet.specs.Slow.{are_alike, brought_at}
use Rattle.slow_wallet.proofs.came.brings_alike.Goals as goal

pub returns-then-alike_at : goal.returns-then-alike_at
returns-then-alike_at c =
    from_next (λ (a b : Bool). a || b) _ (list_any (λ (p : Held). are_alike c.args.by p.text c.args.text.now)) (λ e es. refl) (brought_at c.args.h.now c.args.n) c.loop-k.k true (omega arith) c.if-alike_at.ensures ∙ c.loop-k.invariant

pub loop-k-preserved : goal.loop-k-preserved
loop-k-preserved c =
    from_next (λ (a b : Bool). a || b) _ (list_any (λ (p : Held). are_alike c.args.by p.text c.args.text.now)) (λ e es. refl) (brought_at c.args.h.now c.args.n) c.loop-k.k false (omega arith) c.if-alike_at.ensures ∙ c.loop-k.invariant
