use Rattle.std.proofs.Common.{ℕ, ◌≤◌, ◌∙◌, ap, arith, [], ◌∷◌}
use Rattle.mc_records.specs.Entry.{Account}
use Rattle.ledger_model.specs.Histories.{time}
use Rattle.broker_ledger.specs.Tasks as accounts
use Rattle.house_core.specs.Bench.{limits_of}
use Rattle.broker_core.specs.Tasks.{as_task}
use Rattle.broker_core.proofs.OperatorLemmas.{added_command, added_may}
use Rattle.broker_core.proofs.operator.open_account.Goals as goal

pub perform-requires-clause-command : goal.perform-requires-clause-command
perform-requires-clause-command g c =
    let e = Account c.time.result c.args.name.now c.args.key in
    let command = added_command e c.account_task-task.result tt c.account_task-task.ensures.fits c.account_task-task.ensures.entry in
    rw c.time.ensures at command

pub perform-requires-clause-may : goal.perform-requires-clause-may
perform-requires-clause-may g c h st =
    let e = Account c.time.result c.args.name.now c.args.key in
    let order : time h ≤ c.time.result = omega (arith, st.house.represents.state.in_time, c.time.ensures) in
    added_may (limits_of c.args.house.bench) h e c.account_task-task.result tt order st.house.represents.of_kind
    (c.account_task-task.ensures.allowed h (c.accounts-accounts.ensures h (c.trade.ensures h st))) c.account_task-task.ensures.entry

pub returns-clause-exact : goal.returns-clause-exact
returns-clause-exact g c h st =
    let p = c.perform.ensures.exact h st in
    let is = c.account_task-task.ensures.exact h (c.accounts-accounts.ensures h (c.trade.ensures h st)) ∙ ap (λ (m : ℕ). accounts.account_task h m c.args.name.now c.args.key) c.time.ensures in
    record { task = p.task; asks = p.asks ∙ ap as_task is; does = p.does; ran = p.ran }

pub returns-clause-refusals : goal.returns-clause-refusals
returns-clause-refusals g c = c.perform.ensures.refusals (60 ∷ []) c.account_task-task.ensures.refusals
