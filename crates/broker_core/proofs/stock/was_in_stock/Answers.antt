use Rattle.std.proofs.Common.{ap, sym, ◌∙◌, Option}
use Rattle.std.specs.Borrow.{Bor}
use Rattle.broker_stalls.specs.Stalls.{StallView, was_stocked}
use Rattle.broker_stalls.specs.Vendors.{found_stall}
use Rattle.broker_core.proofs.StockLemmas.{nothing_stocked}
use Rattle.broker_core.proofs.stock.was_in_stock.Goals as goal

pub returns-in-None : goal.returns-in-None
returns-in-None c = nothing_stocked c.args.id ∙ sym (ap (λ (o : Option (Bor StallView)). was_stocked (found_stall o) c.args.id) c.in-None.is)
