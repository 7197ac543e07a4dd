use Rattle.std.proofs.Common.{◌++◌, List, [], ℕ, Ok, Err, ap, ap₂, ◌∙◌, ◌∷◌, refl}
use Rattle.mc_requests.specs.declared.refusal.Refusal.TheVariants.{BadInput}
use Rattle.house_core.specs.Bench.{house_time}
use Rattle.house_core.specs.Tasks.{Refuse, TellsAdded}
use Rattle.broker_core.specs.Desk.{desk_view}
use Rattle.operator_command.proofs.CommandLemmas.{back_as, performs_as, performs_refused, refused_as}
use Rattle.broker_commands.specs.Operations.{licence_operation, taken_line}
use Rattle.house_core.proofs.RefusingLemmas.{refused_more}
use Rattle.broker_commands.proofs.licence.take_licence.Goals as goal

pub returns-in-Err-clause-exact : goal.returns-in-Err-clause-exact
returns-in-Err-clause-exact g c h st =
    let operation = licence_operation in
    let input : List ℕ = c.args.input.now in
    performs_refused g.D.Disk.disk desk_view (operation.asks input h (house_time c.args.house.bench)) (λ task g answer. operation.says input h task c.args.line.now.items) _ c.args.house h (BadInput c.from.result) g.met.D.Disk.is_disk st
    (Err c.in-Err.place, c.in-Err.ensures, ap (λ (n : ℕ). Refuse (BadInput n)) c.from.ensures)

pub returns-clause-back : goal.returns-clause-back
returns-clause-back g c = rw c.without_answer.ensures (back_as g.D.Disk.disk g.D.Disk.disk_moved _ c.args.house.journal.disk c.add_licence.result c.add_licence.ensures.back)

pub returns-clause-exact : goal.returns-clause-exact
returns-clause-exact g c h st =
    let operation = licence_operation in
    let input : List ℕ = c.args.input.now in
    let line : List ℕ = c.put_taken.new.line.items in
    let licence = c.in-Ok.licence in
    rw c.without_answer.ensures
    (performs_as g.D.Disk.disk desk_view _ (operation.asks input h (house_time c.args.house.bench)) TellsAdded (λ task. operation.says input h task line) _ c.args.house.journal.disk h c.add_licence.result
    (λ task is. (Ok licence, c.in-Ok.ensures, is))
    (λ task answer doable told. (Ok licence, c.in-Ok.ensures, c.put_taken.ensures ∙ ap₂ (λ (bare : List ℕ) (n : ℕ). bare ++ taken_line licence.0 n) (c.lay_bare.ensures.words [] c.requires.begun) c.issuer.ensures))
    (c.add_licence.ensures.exact h st))

pub returns-clause-refusals : goal.returns-clause-refusals
returns-clause-refusals g c = rw c.without_answer.ensures
    (refused_as _ c.add_licence.result (refused_more (33 ∷ 59 ∷ []) (33 ∷ 53 ∷ 59 ∷ []) c.add_licence.result refl c.add_licence.ensures.refusals))
