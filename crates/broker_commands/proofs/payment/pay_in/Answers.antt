use Rattle.std.proofs.Common.{◌≡◌, List, ℕ, Option, IfSome, ap, ap₂, subst, ◌∙◌}
use Rattle.house_core.specs.Bench.{house_time}
use Rattle.house_core.specs.Tasks.{after}
use Rattle.broker_core.specs.Desk.{desk_view}
use Rattle.broker_core.specs.Tasks.{deposit_task}
use Rattle.operator_command.proofs.CommandLemmas.{back_as, performs_as, refused_as}
use Rattle.said_lines.specs.Lines.{with_number}
use Rattle.broker_commands.specs.Operations.{balance_words, deposit_operation}
use Rattle.broker_commands.proofs.AnswerLemmas.{performs_told, balance_said}
use Rattle.broker_commands.proofs.payment.pay_in.Goals as goal

pub returns-clause-back : goal.returns-clause-back
returns-clause-back g c = rw c.without_answer.ensures (back_as g.D.Disk.disk g.D.Disk.disk_moved _ c.args.house.journal.disk c.deposit-paid.result c.deposit-paid.ensures.back)

pub returns-clause-exact : goal.returns-clause-exact
returns-clause-exact g c h input st =
    let p = c.args.payment.now in
    let operation = deposit_operation p in
    let line : List ℕ = c.end_by.new.line.items in
    let bare : List ℕ = c.lay_bare.new.line.items in
    let is_bare : bare ≡ balance_words p.account = c.lay_bare.ensures.words (balance_words p.account) c.requires.begun in
    rw c.without_answer.ensures
    (performs_as g.D.Disk.disk desk_view _ (operation.asks input h (house_time c.args.house.bench)) _ (λ task. operation.says input h task line) _ c.args.house.journal.disk h c.deposit-paid.result
    (λ task is. is ∙ ap (λ (n : List ℕ). deposit_task h (house_time c.args.house.bench) n c.amount.result c.reference.result.now) c.account.ensures.value
    ∙ ap₂ (λ (a : ℕ) (r : List ℕ). deposit_task h (house_time c.args.house.bench) p.account a r) c.amount.ensures.value c.reference.ensures.value)
    (λ task answer doable told. balance_said (after task h) c.account.result.now p.account answer bare line c.account.ensures.value is_bare told.0 told.1)
    (performs_told g.D.Disk.disk desk_view _ _ (λ (n : ℕ). line ≡ with_number bare n) _ c.args.house.journal.disk h c.deposit-paid.result
    (subst (λ (o : Option ℕ). IfSome o (λ (n : ℕ). line ≡ with_number bare n)) c.answer_of.ensures c.end_by.ensures) (c.deposit-paid.ensures.exact h st)))

pub returns-clause-refusals : goal.returns-clause-refusals
returns-clause-refusals g c = rw c.without_answer.ensures (refused_as _ c.deposit-paid.result c.deposit-paid.ensures.refusals)
