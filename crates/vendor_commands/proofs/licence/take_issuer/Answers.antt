use Rattle.std.proofs.Common.{ap, ◌∙◌}
use Rattle.scrip_form.specs.Issuing.{Issuing}
use Rattle.house_core.specs.Bench.{house_time}
use Rattle.house_core.specs.Tasks.{TellsAdded}
use Rattle.vendor_core.specs.Shelf.{shelf_view}
use Rattle.vendor_core.specs.Tasks.{terms_task}
use Rattle.vendor_commands.specs.Operations.{licence_operation}
use Rattle.operator_command.proofs.CommandLemmas.{back_as, performs_as, refused_as}
use Rattle.vendor_commands.proofs.licence.take_issuer.Goals as goal

pub returns-clause-back : goal.returns-clause-back
returns-clause-back g c = rw c.without_answer.ensures (back_as g.D.Disk.disk g.D.Disk.disk_moved _ c.args.house.journal.disk c.add_terms.result c.add_terms.ensures.back)

pub returns-clause-exact : goal.returns-clause-exact
returns-clause-exact g c h input line st begun =
    let operation = licence_operation c.args.licensing.now in
    rw c.without_answer.ensures
    (performs_as g.D.Disk.disk shelf_view _ (operation.asks input h (house_time c.args.house.bench)) TellsAdded (λ task. operation.says input h task line) _ c.args.house.journal.disk h c.add_terms.result
    (λ task is. is ∙ ap (λ (t : Issuing). terms_task h (house_time c.args.house.bench) t) c.terms.ensures.value)
    (λ task answer doable told. begun) (c.add_terms.ensures.exact h st))

pub returns-clause-refusals : goal.returns-clause-refusals
returns-clause-refusals g c = rw c.without_answer.ensures (refused_as _ c.add_terms.result c.add_terms.ensures.refusals)
