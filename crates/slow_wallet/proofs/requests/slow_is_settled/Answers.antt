use Rattle.std.proofs.Common.{arith, refl, ◌∙◌, Bool, ◌||◌, true, false}
use Rattle.std.specs.List.{list_any}
use Rattle.wallet_model.specs.Requests.{settles}
use Rattle.slow_ledger.proofs.SlowLaws.{from_next}
use Rattle.slow_wallet.proofs.requests.slow_is_settled.Goals as goal

pub returns-then-settles_at : goal.returns-then-settles_at
returns-then-settles_at c =
    from_next (λ (a b : Bool). a || b) _ (list_any (settles c.args.number)) (λ e es. refl) c.args.h.now c.loop-n.n true (omega arith) c.if-settles_at.ensures ∙ c.loop-n.invariant

pub loop-n-preserved : goal.loop-n-preserved
loop-n-preserved c =
    from_next (λ (a b : Bool). a || b) _ (list_any (settles c.args.number)) (λ e es. refl) c.args.h.now c.loop-n.n false (omega arith) c.if-settles_at.ensures ∙ c.loop-n.invariant
