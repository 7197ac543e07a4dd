use Rattle.std.proofs.Common.{ap, ◌∙◌}
use Rattle.broker_stalls.specs.Stalls.{StockIdsView, has_id}
use Rattle.broker_stalls.proofs.stock_ids.StockIds.reserve.Goals as goal

pub returns-clause-ids : goal.returns-clause-ids
unfolding has_id
returns-clause-ids c = λ q. c.reserve.ensures.keys.2 q ∙ ap (λ (s : StockIdsView). has_id s q) c.self.view_is

pub returns-in_err-reserve-clause-ids : goal.returns-in_err-reserve-clause-ids
unfolding has_id
returns-in_err-reserve-clause-ids c = λ q. c.reserve.ensures.keys.2 q ∙ ap (λ (s : StockIdsView). has_id s q) c.self.view_is
