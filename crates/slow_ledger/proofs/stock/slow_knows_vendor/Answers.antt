use Rattle.std.proofs.Common.{arith, ◌∙◌, Bool, ◌||◌, true, false}
use Rattle.ledger_model.specs.Stock.{knows_vendor}
use Rattle.slow_ledger.proofs.SlowLaws.{from_next}
use Rattle.std.proofs.Common.{refl}
use Rattle.slow_ledger.proofs.stock.slow_knows_vendor.Goals as goal

pub returns-then-names_at : goal.returns-then-names_at
returns-then-names_at c =
    from_next (λ (a b : Bool). a || b) _ (λ h. knows_vendor h c.args.vendor.now) (λ e es. refl) c.args.h.now c.loop-n.n true (omega arith) c.if-names_at.ensures ∙ c.loop-n.invariant

pub loop-n-preserved : goal.loop-n-preserved
loop-n-preserved c =
    from_next (λ (a b : Bool). a || b) _ (λ h. knows_vendor h c.args.vendor.now) (λ e es. refl) c.args.h.now c.loop-n.n false (omega arith) c.if-names_at.ensures ∙ c.loop-n.invariant
