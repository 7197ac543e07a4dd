use Rattle.std.proofs.Common.{◌≡◌, Bool, true, false, cond, eqb, ◌||◌, refl, ap, ◌∙◌}
use Rattle.broker_stalls.specs.Stalls.{StockIdsView, has_id}
use Rattle.broker_stalls.proofs.stock_ids.StockIds.put.Goals as goal

either : (b x : Bool) → cond b true x ≡ (b || x)
either true x = refl
either false x = refl

pub returns-clause-ids : goal.returns-clause-ids
unfolding has_id
returns-clause-ids c = λ q.
    c.in-Ok.ensures.updates.0 q ∙ either (eqb c.args.id q) _ ∙ ap (λ (s : StockIdsView). eqb c.args.id q || has_id s q) c.self.view_is
