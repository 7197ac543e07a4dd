use Rattle.std.proofs.Common.{arith, ◌∙◌, Bool, ◌||◌, true, false, eqb, ◌&&◌}
use Rattle.ledger_model.specs.Stock.{sale_of, is_of_stock, is_sold}
use Rattle.slow_ledger.proofs.SlowLaws.{from_next}
use Rattle.slow_ledger.proofs.Found.{any_in_cons}
use Rattle.slow_ledger.proofs.stock.slow_is_sold.Goals as goal

pub returns-then-sells_at : goal.returns-then-sells_at
returns-then-sells_at c =
    from_next (λ (a b : Bool). a || b) _ (λ h. is_sold h c.args.vendor.now c.args.id) (any_in_cons (λ s. is_of_stock c.args.vendor.now s && eqb s.id c.args.id) sale_of) c.args.h.now c.loop-n.n true (omega arith) c.if-sells_at.ensures ∙ c.loop-n.invariant

pub loop-n-preserved : goal.loop-n-preserved
loop-n-preserved c =
    from_next (λ (a b : Bool). a || b) _ (λ h. is_sold h c.args.vendor.now c.args.id) (any_in_cons (λ s. is_of_stock c.args.vendor.now s && eqb s.id c.args.id) sale_of) c.args.h.now c.loop-n.n false (omega arith) c.if-sells_at.ensures ∙ c.loop-n.invariant
