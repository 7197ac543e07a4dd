use Rattle.std.proofs.Common.{◌≡◌, Some, refl, [], ◌∷◌}
use Rattle.std.specs.Prelude.{◌==◌}
use Rattle.std.proofs.lemmas.Bool.{or_right}
use Rattle.mc_requests.specs.Refusals.{number_of}
use Rattle.mc_records.specs.Views.{entry}
use Rattle.broker_ledger.specs.Tasks.{task_of}
use Rattle.house_state.proofs.PartLaws.{every_passes}
use Rattle.house_core.specs.Bench.{limits_of}
use Rattle.house_core.specs.declared.outcome.Outcome.TheVariants.{Done, Refused, NoMemory, Halted}
use Rattle.house_core.specs.Tasks.{Task, TellsAdded}
use Rattle.house_core.proofs.TaskLemmas.{enters, refuses, stays, tells_last}
use Rattle.broker_core.specs.Desk.{desk_view}
use Rattle.broker_core.specs.Tasks.{as_task}
use Rattle.broker_core.proofs.OperatorLemmas.{added_is, stays_is, refused_is}
use Rattle.house_core.proofs.RefusingLemmas.{among_more}
use Rattle.broker_core.proofs.operator.perform.Goals as goal

pub enter-requires-clause-passed : goal.enter-requires-clause-passed
enter-requires-clause-passed g c h st = every_passes h (entry c.in-Some.record)

pub returns-in_default-clause-exact : goal.returns-in_default-clause-exact
returns-in_default-clause-exact g c h st =
    stays g.D.Disk.disk desk_view _ TellsAdded (limits_of c.args.house.bench) c.args.house h (g.met.D.Disk.is_disk _) st _
    (stays_is c.args.task.now c.in-Ok.added c.in-Ok.is c.in_default.is) refl

pub returns-in-Err-clause-exact : goal.returns-in-Err-clause-exact
returns-in-Err-clause-exact g c h st =
    refuses g.D.Disk.disk desk_view _ TellsAdded (limits_of c.args.house.bench) c.args.house h (g.met.D.Disk.is_disk _) st _
    (refused_is c.args.task.now _ c.in-Err.is)

pub returns-in-Done-clause-exact : goal.returns-in-Done-clause-exact
returns-in-Done-clause-exact g c h st =
    let e = entry c.in-Some.record in
    enters g.D.Disk.disk desk_view (λ (t : Task). t ≡ as_task (task_of c.args.task.now)) TellsAdded (limits_of c.args.house.bench) (λ n. Some n)
    c.args.house.journal.disk h e (Done c.in-Done.house c.in-Done.receipt) (added_is c.args.task.now _ _ c.in-Ok.is c.in-Some.is)
    (λ done. tells_last h e) (c.in-Done.ensures.exact h st) (c.in-Done.ensures.ran h st)

pub returns-in-Refused-clause-exact : goal.returns-in-Refused-clause-exact
returns-in-Refused-clause-exact g c h st =
    let e = entry c.in-Some.record in
    enters g.D.Disk.disk desk_view (λ (t : Task). t ≡ as_task (task_of c.args.task.now)) TellsAdded (limits_of c.args.house.bench) (λ n. Some n)
    c.args.house.journal.disk h e (Refused c.in-Refused.house c.in-Refused.refusal) (added_is c.args.task.now _ _ c.in-Ok.is c.in-Some.is)
    (λ done. absurd done) (c.in-Refused.ensures.exact h st) (c.in-Refused.ensures.ran h st)

pub returns-in-NoMemory-clause-exact : goal.returns-in-NoMemory-clause-exact
returns-in-NoMemory-clause-exact g c h st =
    let e = entry c.in-Some.record in
    enters g.D.Disk.disk desk_view (λ (t : Task). t ≡ as_task (task_of c.args.task.now)) TellsAdded (limits_of c.args.house.bench) (λ n. Some n)
    c.args.house.journal.disk h e (NoMemory c.in-NoMemory.house) (added_is c.args.task.now _ _ c.in-Ok.is c.in-Some.is)
    (λ done. absurd done) (c.in-NoMemory.ensures.exact h st) (c.in-NoMemory.ensures.ran h st)

pub returns-in-Halted-clause-exact : goal.returns-in-Halted-clause-exact
returns-in-Halted-clause-exact g c h st =
    let e = entry c.in-Some.record in
    enters g.D.Disk.disk desk_view (λ (t : Task). t ≡ as_task (task_of c.args.task.now)) TellsAdded (limits_of c.args.house.bench) (λ n. Some n)
    c.args.house.journal.disk h e (Halted c.in-Halted.halted) (added_is c.args.task.now _ _ c.in-Ok.is c.in-Some.is)
    (λ done. absurd done) (c.in-Halted.ensures.exact h st) (c.in-Halted.ensures.ran h st)

pub returns-in-Err-clause-refusals : goal.returns-in-Err-clause-refusals
returns-in-Err-clause-refusals g c numbers is = or_right (33 == number_of c.in-Err.refusal) _ (rw c.in-Err.is at is)

pub returns-in-Refused-clause-refusals : goal.returns-in-Refused-clause-refusals
returns-in-Refused-clause-refusals g c numbers is = among_more (33 ∷ []) (33 ∷ numbers) _ refl c.in-Refused.ensures.refusals
