use Rattle.std.proofs.Common.{ℕ, List, ap₂, ◌∙◌}
use Rattle.house_core.specs.Bench.{house_time}
use Rattle.house_core.specs.Tasks.{TellsLast}
use Rattle.vendor_core.specs.Shelf.{shelf_view}
use Rattle.vendor_core.specs.Tasks.{price_task}
use Rattle.vendor_commands.specs.Operations.{price_operation}
use Rattle.operator_command.proofs.CommandLemmas.{back_as, performs_as, refused_as}
use Rattle.vendor_commands.proofs.price.price_goods.Goals as goal

pub returns-clause-back : goal.returns-clause-back
returns-clause-back g c = rw c.without_answer.ensures (back_as g.D.Disk.disk g.D.Disk.disk_moved _ c.args.house.journal.disk c.set_price.result c.set_price.ensures.back)

pub returns-clause-exact : goal.returns-clause-exact
returns-clause-exact g c h input line st begun =
    let operation = price_operation c.args.pricing.now in
    rw c.without_answer.ensures
    (performs_as g.D.Disk.disk shelf_view _ (operation.asks input h (house_time c.args.house.bench)) TellsLast (λ task. operation.says input h task line) _ c.args.house.journal.disk h c.set_price.result
    (λ task is. is ∙ ap₂ (λ (target : List ℕ) (price : ℕ). price_task h (house_time c.args.house.bench) target price) c.target.ensures.value c.price.ensures.value)
    (λ task answer doable told. begun) (c.set_price.ensures.exact h st))

pub returns-clause-refusals : goal.returns-clause-refusals
returns-clause-refusals g c = rw c.without_answer.ensures (refused_as _ c.set_price.result c.set_price.ensures.refusals)
