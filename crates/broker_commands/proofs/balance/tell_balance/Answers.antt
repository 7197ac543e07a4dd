use Rattle.std.proofs.Common.{List, ℕ, sym}
use Rattle.mc_requests.specs.declared.refusal.Refusal.TheVariants.{NoAccount}
use Rattle.house_core.specs.Bench.{house_time}
use Rattle.broker_core.specs.Desk.{desk_view}
use Rattle.operator_command.proofs.CommandLemmas.{performs_refused, performs_stays}
use Rattle.broker_commands.specs.Operations.{balance_words, balance_operation}
use Rattle.broker_commands.proofs.AnswerLemmas.{no_account, an_account, balance_found, balance_said}
use Rattle.broker_commands.proofs.balance.tell_balance.Goals as goal

pub returns-in_default-clause-exact : goal.returns-in_default-clause-exact
returns-in_default-clause-exact g c h input st =
    let operation = balance_operation c.args.inquiry.now in
    performs_refused g.D.Disk.disk desk_view (operation.asks input h (house_time c.args.house.bench)) (λ task g answer. operation.says input h task c.args.line.now.items) _ c.args.house h NoAccount g.met.D.Disk.is_disk st
    (no_account h c.account.result.now c.args.inquiry.now.account c.account.ensures.value (sym (c.in_default.ensures.value h (c.accounts.ensures h (c.trade.ensures h st)))))

pub returns-clause-exact : goal.returns-clause-exact
returns-clause-exact g c h input st =
    let i = c.args.inquiry.now in
    let operation = balance_operation i in
    let line : List ℕ = c.end_line.new.line.items in
    let found = sym (c.in-Some.ensures.value h (c.accounts.ensures h (c.trade.ensures h st))) in
    performs_stays g.D.Disk.disk desk_view (operation.asks input h (house_time c.args.house.bench)) (λ task g answer. operation.says input h task line) _ c.args.house h g.met.D.Disk.is_disk st
    (an_account h c.account.result.now i.account c.in-Some.standing c.account.ensures.value found)
    (balance_said h c.account.result.now i.account c.in-Some.standing.balance c.lay_bare.new.line.items line c.account.ensures.value (c.lay_bare.ensures.words (balance_words i.account) c.requires.begun) (balance_found h c.account.result.now c.in-Some.standing found) c.end_line.ensures)
