use Rattle.std.proofs.Common.{◌≡◌, List, ℕ, Option, IfSome, length, ap, ap₂, subst, ◌∙◌}
use Rattle.house_core.specs.Bench.{house_time}
use Rattle.broker_core.specs.Desk.{desk_view}
use Rattle.broker_core.specs.Tasks.{stock_task, stock_lines, pieces_in}
use Rattle.operator_command.proofs.CommandLemmas.{back_as, performs_as, refused_as}
use Rattle.said_lines.specs.Lines.{with_number}
use Rattle.broker_commands.specs.Operations.{stock_words, stock_operation}
use Rattle.broker_commands.proofs.AnswerLemmas.{performs_told}
use Rattle.broker_commands.proofs.stock.take_stock.Goals as goal

pub returns-clause-back : goal.returns-clause-back
returns-clause-back g c = rw c.without_answer.ensures (back_as g.D.Disk.disk g.D.Disk.disk_moved _ c.args.house.journal.disk c.add_stock-taken.result c.add_stock-taken.ensures.back)

pub returns-clause-exact : goal.returns-clause-exact
returns-clause-exact g c h st =
    let s = c.args.stocking.now in
    let operation = stock_operation s in
    let input : List ℕ = c.args.input.now in
    let line : List ℕ = c.end_by.new.line.items in
    let bare : List ℕ = c.lay_bare.new.line.items in
    let is_bare : bare ≡ stock_words s.vendor = c.lay_bare.ensures.words (stock_words s.vendor) c.requires.begun in
    rw c.without_answer.ensures
    (performs_as g.D.Disk.disk desk_view _ (operation.asks input h (house_time c.args.house.bench)) _ (λ task. operation.says input h task line) _ c.args.house.journal.disk h c.add_stock-taken.result
    (λ task is. is ∙ ap (λ (n : List ℕ). stock_task h (house_time c.args.house.bench) n input) c.vendor.ensures.value)
    (λ task answer doable told. told.1 ∙ ap₂ (λ (words : List ℕ) (n : ℕ). with_number words n) is_bare (told.0 ∙ ap (λ (n : List ℕ). length (pieces_in (stock_lines n input))) c.vendor.ensures.value))
    (performs_told g.D.Disk.disk desk_view _ _ (λ (n : ℕ). line ≡ with_number bare n) _ c.args.house.journal.disk h c.add_stock-taken.result
    (subst (λ (o : Option ℕ). IfSome o (λ (n : ℕ). line ≡ with_number bare n)) (c.counted.ensures ∙ c.answer_of.ensures) c.end_by.ensures) (c.add_stock-taken.ensures.exact h st)))

pub returns-clause-refusals : goal.returns-clause-refusals
returns-clause-refusals g c = rw c.without_answer.ensures (refused_as _ c.add_stock-taken.result c.add_stock-taken.ensures.refusals)
