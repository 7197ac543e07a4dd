use Rattle.std.proofs.Common.{ℕ, ◌≤◌, ◌∙◌, ap, refl, arith, [], ◌∷◌}
use Rattle.mc_records.specs.Entry.{Licence}
use Rattle.ledger_model.specs.Histories.{time}
use Rattle.house_core.specs.Bench.{limits_of}
use Rattle.broker_core.specs.Tasks as tasks
use Rattle.broker_core.proofs.OperatorLemmas.{added_command, licence_may}
use Rattle.broker_core.proofs.operator.add_licence.Goals as goal

pub perform-requires-clause-command : goal.perform-requires-clause-command
perform-requires-clause-command g c =
    let e = Licence c.time.result c.args.vendor.now c.args.terms.now in
    rw c.time.ensures at (added_command e c.licence_task-task.result tt c.licence_task-task.ensures.fits c.licence_task-task.ensures.entry)

pub perform-requires-clause-may : goal.perform-requires-clause-may
perform-requires-clause-may g c h st =
    let e = Licence c.time.result c.args.vendor.now c.args.terms.now in
    let order : time h ≤ c.time.result = omega (arith, st.house.represents.state.in_time, c.time.ensures) in
    licence_may (limits_of c.args.house.bench) h c.licence_task-task.result e c.time.result c.args.vendor.now c.args.terms.now refl order st.house.represents.of_kind
    (c.licence_task-task.ensures.new h (c.trade.ensures h st)) c.licence_task-task.ensures.entry

pub returns-clause-exact : goal.returns-clause-exact
returns-clause-exact g c h st =
    let p = c.perform.ensures.exact h st in
    let is = c.licence_task-task.ensures.exact h (c.trade.ensures h st) ∙ ap (λ (m : ℕ). tasks.licence_task h m c.args.vendor.now c.args.terms.now) c.time.ensures in
    record { task = p.task; asks = p.asks ∙ is; does = p.does; ran = p.ran }

pub returns-clause-refusals : goal.returns-clause-refusals
returns-clause-refusals g c = c.perform.ensures.refusals (59 ∷ []) c.licence_task-task.ensures.refusals
