use Rattle.std.proofs.Common.{◌∙◌, ◌++◌, List, ℕ, refl, ap}
use Rattle.house_core.specs.Bench.{house_time}
use Rattle.vendor_core.specs.Shelf.{shelf_view}
use Rattle.operator_command.proofs.CommandLemmas.{made_as, performs_looked, looked_unrefused}
use Rattle.vendor_commands.specs.Operations.{list_operation, listed_goods}
use Rattle.vendor_commands.proofs.list.list_on_sale.Goals as goal

pub returns-clause-exact : goal.returns-clause-exact
returns-clause-exact g c h input st =
    let line : List ℕ = c.append_listed-made.new.lines.items in
    rw c.looked.ensures.outcome
    (performs_looked g.D.Disk.disk shelf_view (list_operation.asks input h (house_time c.args.house.bench)) (λ task g answer. list_operation.says input h task line) _ c.args.house h c.append_listed-made.result g.met.D.Disk.is_disk st refl
    (made_as c.append_listed-made.result _ _ (λ more. more ∙ ap (λ (before : List ℕ). before ++ listed_goods h) c.requires.empty) (c.append_listed-made.ensures h (c.trade.ensures h st))))

pub returns-clause-refusals : goal.returns-clause-refusals
returns-clause-refusals g c = rw c.looked.ensures.outcome (looked_unrefused _ c.args.house c.append_listed-made.result)
