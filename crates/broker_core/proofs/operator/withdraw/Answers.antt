use Rattle.std.proofs.Common.{ℕ, ◌≤◌, ◌∙◌, ap, arith, [], ◌∷◌}
use Rattle.mc_records.specs.Entry.{Withdraw}
use Rattle.ledger_model.specs.Histories.{time}
use Rattle.broker_ledger.specs.Tasks as accounts
use Rattle.house_core.specs.Bench.{limits_of}
use Rattle.broker_core.specs.Tasks.{as_task}
use Rattle.broker_core.proofs.OperatorLemmas.{added_command, added_may}
use Rattle.broker_core.proofs.operator.withdraw.Goals as goal

pub pay-requires-clause-command : goal.pay-requires-clause-command
pay-requires-clause-command g c =
    let e = Withdraw c.time.result c.args.name.now c.args.amount c.args.reference.now in
    let command = added_command e c.withdraw_task-task.result tt c.withdraw_task-task.ensures.fits c.withdraw_task-task.ensures.entry in
    rw c.time.ensures at command

pub pay-requires-clause-may : goal.pay-requires-clause-may
pay-requires-clause-may g c h st =
    let e = Withdraw c.time.result c.args.name.now c.args.amount c.args.reference.now in
    let order : time h ≤ c.time.result = omega (arith, st.house.represents.state.in_time, c.time.ensures) in
    added_may (limits_of c.args.house.bench) h e c.withdraw_task-task.result tt order st.house.represents.of_kind
    (c.withdraw_task-task.ensures.allowed h (c.accounts-accounts.ensures h (c.trade.ensures h st))) c.withdraw_task-task.ensures.entry

pub returns-clause-exact : goal.returns-clause-exact
returns-clause-exact g c h st =
    let p = c.pay.ensures.exact h st in
    let is = c.withdraw_task-task.ensures.exact h (c.accounts-accounts.ensures h (c.trade.ensures h st)) ∙ ap (λ (m : ℕ). accounts.withdraw_task h m c.args.name.now c.args.amount c.args.reference.now) c.time.ensures in
    record { task = p.task; asks = p.asks ∙ ap as_task is; does = p.does; ran = p.ran }

pub returns-clause-refusals : goal.returns-clause-refusals
returns-clause-refusals g c = c.pay.ensures.refusals (40 ∷ 42 ∷ 56 ∷ []) c.withdraw_task-task.ensures.refusals
