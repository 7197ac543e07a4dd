use Rattle.std.proofs.Common.{List, ℕ, ap₂, ◌∙◌}
use Rattle.house_core.specs.Bench.{house_time}
use Rattle.house_core.specs.Tasks.{TellsAdded}
use Rattle.broker_core.specs.Desk.{desk_view}
use Rattle.broker_core.specs.Tasks.{account_task}
use Rattle.broker_commands.specs.Operations.{account_operation}
use Rattle.operator_command.proofs.CommandLemmas.{back_as, performs_as, refused_as}
use Rattle.broker_commands.proofs.account.open.Goals as goal

pub returns-clause-back : goal.returns-clause-back
returns-clause-back g c = rw c.without_answer.ensures (back_as g.D.Disk.disk g.D.Disk.disk_moved _ c.args.house.journal.disk c.open_account.result c.open_account.ensures.back)

pub returns-clause-exact : goal.returns-clause-exact
returns-clause-exact g c h input line st is_line =
    let operation = account_operation c.args.opening.now in
    rw c.without_answer.ensures
    (performs_as g.D.Disk.disk desk_view _ (operation.asks input h (house_time c.args.house.bench)) TellsAdded (λ task. operation.says input h task line) _ c.args.house.journal.disk h c.open_account.result
    (λ task is. is ∙ ap₂ (λ (name key : List ℕ). account_task h (house_time c.args.house.bench) name key) c.account.ensures.value c.key.ensures.value)
    (λ task answer doable told. is_line) (c.open_account.ensures.exact h st))

pub returns-clause-refusals : goal.returns-clause-refusals
returns-clause-refusals g c = rw c.without_answer.ensures (refused_as _ c.open_account.result c.open_account.ensures.refusals)
