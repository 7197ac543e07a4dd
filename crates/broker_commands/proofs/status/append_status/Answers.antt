use Rattle.std.proofs.Common.{◌≡◌, ◌∙◌, ◌++◌, List, ℕ, ap, ap₂, length, codes}
use Rattle.std.proofs.lemmas.List.{length-map}
use Rattle.ledger_model.specs.Accounts.{account_names}
use Rattle.broker_ledger.specs.Ledger.{standing}
use Rattle.said_lines.specs.Lines.{metric}
use Rattle.said_lines.proofs.LineLemmas.{three_behind}
use Rattle.broker_commands.proofs.status.append_status.Goals as goal

pub returns : goal.returns
returns g c h st =
    let site = c.name-site.ensures h st in
    let ledger = c.accounts-ledger.ensures h (c.trade.ensures h st) in
    let count : length c.accounts.result.now ≡ length (account_names h) = ap length (c.accounts.ensures h ledger) ∙ length-map (account_names h) (standing h) in
    three_behind c.args.lines.now.items _ _ _ c.append_book.new.lines.items c.append_metric.new.lines.items c.append_metric-2.new.lines.items
    (c.in_ok-append_book.ensures h st)
    (c.in_ok-append_metric.ensures ∙ ap₂ (λ (name : List ℕ) (n : ℕ). c.append_book.new.lines.items ++ metric name (codes "millicent_accounts") (codes "gauge") (codes "Accounts.") n) site count)
    (c.in_ok-append_metric-2.ensures ∙ ap₂ (λ (name : List ℕ) (n : ℕ). c.append_metric.new.lines.items ++ metric name (codes "millicent_balances") (codes "gauge") (codes "Units in all accounts.") n) site (c.balances.ensures h ledger))
