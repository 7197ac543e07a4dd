use Rattle.std.proofs.Common.{◌∙◌, ◌++◌, List, ℕ, refl, ap₂}
use Rattle.house_core.specs.Bench.{house_time}
use Rattle.broker_accounts.specs.Accounts.{AccountView}
use Rattle.broker_core.specs.Desk.{desk_view}
use Rattle.operator_command.proofs.CommandLemmas.{made_as, performs_looked, looked_unrefused}
use Rattle.broker_commands.specs.Operations.{list_operation, listed_accounts}
use Rattle.broker_commands.proofs.list.list_accounts.Goals as goal

pub returns-clause-exact : goal.returns-clause-exact
returns-clause-exact g c h input st =
    let line : List ℕ = c.append_accounts-made.new.lines.items in
    let all = c.accounts-2.ensures h (c.accounts.ensures h (c.trade.ensures h st)) in
    rw c.looked.ensures.outcome
    (performs_looked g.D.Disk.disk desk_view (list_operation.asks input h (house_time c.args.house.bench)) (λ task g answer. list_operation.says input h task line) _ c.args.house h c.append_accounts-made.result g.met.D.Disk.is_disk st refl
    (made_as c.append_accounts-made.result _ _ (λ more. more ∙ ap₂ (λ (before : List ℕ) (accounts : List AccountView). before ++ listed_accounts accounts) c.requires.empty all) c.append_accounts-made.ensures))

pub returns-clause-refusals : goal.returns-clause-refusals
returns-clause-refusals g c = rw c.looked.ensures.outcome (looked_unrefused _ c.args.house c.append_accounts-made.result)
