use Rattle.std.proofs.Common.{[]}
use Rattle.house_core.specs.Bench.{house_time}
use Rattle.mc_requests.specs.declared.refusal.Refusal.TheVariants.{BadInput}
use Rattle.operator_command.proofs.CommandLemmas.{back_as, performs_as, performs_refused, refused_as}
use Rattle.counted_trade.specs.Counted.{counted_view}
use Rattle.settle_core.specs.Statements.{statement_input}
use Rattle.counted_trade.specs.Tasks.{TellsPaid}
use Rattle.counted_trade.proofs.PayLemmas.{broken}
use Rattle.settle_commands.specs.Operations.{settle_operation}
use Rattle.settle_commands.proofs.SayLemmas.{says_payment}
use Rattle.settle_commands.proofs.settling.StatementPaymentOperatorCommandCounted.carry_out.Goals as goal

pub returns-in-Err-clause-exact : goal.returns-in-Err-clause-exact
returns-in-Err-clause-exact g c h st all begun =
    let t = house_time c.args.house.bench in
    let operation = settle_operation c.args.self.now in
    performs_refused g.D.Disk.disk (counted_view g.T.Trade.trade) (operation.asks c.args.input.now h t) (λ task k answer. operation.says c.args.input.now h task c.args.line.now.items) _ c.args.house h (BadInput c.from.result) g.met.D.Disk.is_disk st
    (broken h t c.args.input.now c.in-Err.place c.from.result c.in-Err.ensures.read c.from.ensures)

pub returns-clause-back : goal.returns-clause-back
returns-clause-back g c = rw c.without_answer.ensures (back_as g.D.Disk.disk g.D.Disk.disk_moved _ c.args.house.journal.disk c.pay_statement.result c.pay_statement.ensures.back)

pub returns-clause-exact : goal.returns-clause-exact
returns-clause-exact g c h st all begun =
    let t = house_time c.args.house.bench in
    let operation = settle_operation c.args.self.now in
    let line = c.put_paid.new.line.items in
    rw c.without_answer.ensures
    (performs_as g.D.Disk.disk (counted_view g.T.Trade.trade) _ (operation.asks c.args.input.now h t) (TellsPaid c.args.input.now) (λ task. operation.says c.args.input.now h task line) _ c.args.house.journal.disk h c.pay_statement.result
    (λ task is. is)
    (λ task answer doable told. says_payment c.args.input.now c.lay_bare.new.line.items line c.in-Ok.statement (statement_input c.args.input.now) c.in-Ok.ensures.read (c.lay_bare.ensures.words [] begun) c.put_paid.ensures)
    (c.pay_statement.ensures.exact h st))

pub returns-clause-refusals : goal.returns-clause-refusals
returns-clause-refusals g c = rw c.without_answer.ensures (refused_as _ c.pay_statement.result c.pay_statement.ensures.refusals)
