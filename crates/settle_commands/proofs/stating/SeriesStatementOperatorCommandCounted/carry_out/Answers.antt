use Rattle.std.proofs.Common.{ℕ, ap₂, ◌∙◌}
use Rattle.house_core.specs.Bench.{house_time}
use Rattle.operator_command.proofs.CommandLemmas.{back_as, performs_as, refused_as}
use Rattle.counted_trade.specs.Counted.{counted_view}
use Rattle.counted_trade.specs.Tasks.{state_task, TellsStated}
use Rattle.settle_commands.specs.Operations.{state_operation}
use Rattle.settle_commands.proofs.SayLemmas.{says_statement}
use Rattle.settle_commands.proofs.stating.SeriesStatementOperatorCommandCounted.carry_out.Goals as goal

pub returns-clause-back : goal.returns-clause-back
returns-clause-back g c = rw c.without_answer.ensures (back_as g.D.Disk.disk g.D.Disk.disk_moved _ c.args.house.journal.disk c.state_series.result c.state_series.ensures.back)

pub returns-clause-exact : goal.returns-clause-exact
returns-clause-exact g c h st all begun =
    let t = house_time c.args.house.bench in
    let s = c.args.self.now in
    let operation = state_operation s in
    let line = c.state_series.new.out.items in
    rw c.without_answer.ensures
    (performs_as g.D.Disk.disk (counted_view g.T.Trade.trade) _ (operation.asks c.args._input.now h t) (TellsStated h c.issuer.result c.epoch.result c.args.line.now.items line) (λ task. operation.says c.args._input.now h task line) _ c.args.house.journal.disk h c.state_series.result
    (λ task is. is ∙ ap₂ (λ (issuer epoch : ℕ). state_task h t issuer epoch) c.issuer.ensures.value c.epoch.ensures.value)
    (λ task answer doable told. says_statement h c.issuer.result s.issuer c.epoch.result s.epoch c.args.line.now.items line task _ answer c.issuer.ensures.value c.epoch.ensures.value begun told)
    (c.state_series.ensures.exact h st))

pub returns-clause-refusals : goal.returns-clause-refusals
returns-clause-refusals g c = rw c.without_answer.ensures (refused_as _ c.state_series.result c.state_series.ensures.refusals)
