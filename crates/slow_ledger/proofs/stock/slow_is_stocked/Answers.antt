use Rattle.std.proofs.Common.{arith, ◌∙◌, Bool, ◌||◌, true, false, eqb}
use Rattle.std.specs.List.{list_any}
use Rattle.ledger_model.specs.Stock.{stock_of, stock_in, stock_ids}
use Rattle.slow_ledger.proofs.SlowLaws.{from_next}
use Rattle.slow_ledger.proofs.Found.{any_append}
use Rattle.slow_ledger.specs.NewStock.{held_id}
use Rattle.slow_ledger.proofs.stock.slow_is_stocked.Goals as goal

pub returns-then-stocks_at : goal.returns-then-stocks_at
returns-then-stocks_at c =
    from_next (λ (a b : Bool). a || b) _ (λ h. list_any (λ i. eqb i c.args.id) (stock_ids h c.args.vendor.now)) (λ e es. any_append (λ i. eqb i c.args.id) held_id (stock_of c.args.vendor.now e) (stock_in es c.args.vendor.now)) c.args.h.now c.loop-n.n true (omega arith) c.if-stocks_at.ensures ∙ c.loop-n.invariant

pub loop-n-preserved : goal.loop-n-preserved
loop-n-preserved c =
    from_next (λ (a b : Bool). a || b) _ (λ h. list_any (λ i. eqb i c.args.id) (stock_ids h c.args.vendor.now)) (λ e es. any_append (λ i. eqb i c.args.id) held_id (stock_of c.args.vendor.now e) (stock_in es c.args.vendor.now)) c.args.h.now c.loop-n.n false (omega arith) c.if-stocks_at.ensures ∙ c.loop-n.invariant
