use Rattle.std.proofs.Common.{ℕ, ap₂, ◌∙◌}
use Rattle.ledger_model.specs.Houses.{site_name}
use Rattle.house_core.specs.Bench.{house_time}
use Rattle.house_core.specs.Tasks.{TellsAdded}
use Rattle.house_core.specs.Upgrading.{upgrade_task}
use Rattle.vendor_core.specs.Shelf.{shelf_view}
use Rattle.vendor_commands.specs.Operations.{upgrade_operation}
use Rattle.operator_command.proofs.CommandLemmas.{back_as, performs_as, refused_as}
use Rattle.vendor_commands.proofs.upgrade.move_issuer.Goals as goal

pub returns-clause-back : goal.returns-clause-back
returns-clause-back g c = rw c.without_answer.ensures (back_as g.D.Disk.disk g.D.Disk.disk_moved _ c.args.house.journal.disk c.upgrade.result c.upgrade.ensures.back)

pub returns-clause-exact : goal.returns-clause-exact
returns-clause-exact g c h input line st begun =
    let operation = upgrade_operation c.args.upgrading.now in
    rw c.without_answer.ensures
    (performs_as g.D.Disk.disk shelf_view _ (operation.asks input h (house_time c.args.house.bench)) TellsAdded (λ task. operation.says input h task line) _ c.args.house.journal.disk h c.upgrade.result
    (λ task is. is ∙ ap₂ (λ (issuer from : ℕ). upgrade_task h (house_time c.args.house.bench) (site_name h) issuer from) c.issuer-issuer.ensures.value c.from-from.ensures.value)
    (λ task answer doable told. begun) (c.upgrade.ensures.exact h st))

pub returns-clause-refusals : goal.returns-clause-refusals
returns-clause-refusals g c = rw c.without_answer.ensures (refused_as _ c.upgrade.result c.upgrade.ensures.refusals)
