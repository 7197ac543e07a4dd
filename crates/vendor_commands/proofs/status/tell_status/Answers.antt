use Rattle.std.proofs.Common.{◌∙◌, ◌++◌, List, ℕ, refl, ap}
use Rattle.house_core.specs.Bench.{house_time}
use Rattle.vendor_core.specs.Shelf.{shelf_view}
use Rattle.operator_command.proofs.CommandLemmas.{made_as, performs_looked, looked_unrefused}
use Rattle.vendor_commands.specs.Operations.{status_operation, shelf_metrics}
use Rattle.vendor_commands.proofs.status.tell_status.Goals as goal

pub returns-clause-exact : goal.returns-clause-exact
returns-clause-exact g c h input st =
    let line : List ℕ = c.append_status-made.new.lines.items in
    rw c.looked.ensures.outcome
    (performs_looked g.D.Disk.disk shelf_view (status_operation.asks input h (house_time c.args.house.bench)) (λ task g answer. status_operation.says input h task line) _ c.args.house h c.append_status-made.result g.met.D.Disk.is_disk st refl
    (made_as c.append_status-made.result _ _ (λ more. more ∙ ap (λ (before : List ℕ). before ++ shelf_metrics h) c.requires.empty) (c.append_status-made.ensures h st)))

pub returns-clause-refusals : goal.returns-clause-refusals
returns-clause-refusals g c = rw c.looked.ensures.outcome (looked_unrefused _ c.args.house c.append_status-made.result)
