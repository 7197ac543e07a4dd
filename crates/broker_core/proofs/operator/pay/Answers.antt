use Rattle.std.proofs.Common.{◌≡◌}
use Rattle.broker_ledger.specs.Tasks.{task_of}
use Rattle.house_core.specs.Bench.{limits_of}
use Rattle.house_core.specs.declared.outcome.Outcome.TheVariants.{Done, Refused, NoMemory, Halted}
use Rattle.house_core.specs.Tasks.{Task, TellsAdded}
use Rattle.broker_core.specs.Desk.{desk_view}
use Rattle.broker_core.specs.Tasks.{as_task, TellsBalance}
use Rattle.broker_core.proofs.OperatorLemmas.{performs_as}
use Rattle.broker_core.proofs.operator.pay.Goals as goal

pub returns-in-Done-clause-exact : goal.returns-in-Done-clause-exact
returns-in-Done-clause-exact g c h st =
    performs_as g.D.Disk.disk desk_view TellsAdded (TellsBalance c.args.name.now) (limits_of c.args.house.bench) c.args.house.journal.disk h c.balance_of-balance.result
    (λ (t : Task). t ≡ as_task (task_of c.args.task.now)) (Done c.in-Done.house c.in-Done.field-1) (λ task g there. c.balance_of-balance.ensures g (c.trade.ensures g there)) (c.in-Done.ensures.exact h st)

pub returns-in-Refused-clause-exact : goal.returns-in-Refused-clause-exact
returns-in-Refused-clause-exact g c h st =
    performs_as g.D.Disk.disk desk_view TellsAdded (TellsBalance c.args.name.now) (limits_of c.args.house.bench) c.args.house.journal.disk h 0
    (λ (t : Task). t ≡ as_task (task_of c.args.task.now)) (Refused c.in-Refused.house c.in-Refused.refusal) tt (c.in-Refused.ensures.exact h st)

pub returns-in-NoMemory-clause-exact : goal.returns-in-NoMemory-clause-exact
returns-in-NoMemory-clause-exact g c h st =
    performs_as g.D.Disk.disk desk_view TellsAdded (TellsBalance c.args.name.now) (limits_of c.args.house.bench) c.args.house.journal.disk h 0
    (λ (t : Task). t ≡ as_task (task_of c.args.task.now)) (NoMemory c.in-NoMemory.house) tt (c.in-NoMemory.ensures.exact h st)

pub returns-in-Halted-clause-exact : goal.returns-in-Halted-clause-exact
returns-in-Halted-clause-exact g c h st =
    performs_as g.D.Disk.disk desk_view TellsAdded (TellsBalance c.args.name.now) (limits_of c.args.house.bench) c.args.house.journal.disk h 0
    (λ (t : Task). t ≡ as_task (task_of c.args.task.now)) (Halted c.in-Halted.halted) tt (c.in-Halted.ensures.exact h st)

pub returns-in-Refused-clause-refusals : goal.returns-in-Refused-clause-refusals
returns-in-Refused-clause-refusals g c numbers is = c.in-Refused.ensures.refusals numbers is
