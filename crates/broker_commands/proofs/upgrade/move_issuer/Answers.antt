use Rattle.std.proofs.Common.{◌≡◌, ◌++◌, List, [], ℕ, ap, ap₂, subst, ◌∙◌}
use Rattle.ledger_model.specs.Histories.{History}
use Rattle.house_core.specs.Bench.{house_time}
use Rattle.house_core.specs.Tasks.{TellsAdded}
use Rattle.broker_core.specs.Desk.{desk_view}
use Rattle.broker_core.specs.Moves.{moved_issuer}
use Rattle.broker_core.specs.Tasks.{upgrade_licence_task}
use Rattle.said_lines.specs.Lines.{upgrade_line}
use Rattle.operator_command.proofs.CommandLemmas.{back_as, performs_as, refused_as}
use Rattle.broker_commands.specs.Operations.{upgrade_operation}
use Rattle.broker_commands.proofs.upgrade.move_issuer.Goals as goal

-- the line, by what its words are
moved_line : (h : History) (vendor account : List ℕ) (issuer from epoch : ℕ) (bare line : List ℕ) → bare ≡ [] → line ≡ bare ++ upgrade_line vendor issuer from → issuer ≡ moved_issuer h vendor → vendor ≡ account → from ≡ epoch
    → line ≡ upgrade_line account (moved_issuer h account) epoch
moved_line h vendor account issuer from epoch bare line none is moved same until = subst (λ (b : List ℕ). line ≡ b ++ upgrade_line vendor issuer from) none is
    ∙ ap (λ (i : ℕ). upgrade_line vendor i from) moved ∙ ap₂ (λ (v : List ℕ) (e : ℕ). upgrade_line v (moved_issuer h v) e) same until

pub returns-clause-back : goal.returns-clause-back
returns-clause-back g c = rw c.without_answer.ensures (back_as g.D.Disk.disk g.D.Disk.disk_moved _ c.args.house.journal.disk c.upgrade_licence.result c.upgrade_licence.ensures.back)

pub returns-clause-exact : goal.returns-clause-exact
returns-clause-exact g c h input st =
    let u = c.args.upgrading.now in
    let operation = upgrade_operation u in
    let line : List ℕ = c.put_upgrade.new.line.items in
    rw c.without_answer.ensures
    (performs_as g.D.Disk.disk desk_view _ (operation.asks input h (house_time c.args.house.bench)) TellsAdded (λ task. operation.says input h task line) _ c.args.house.journal.disk h c.upgrade_licence.result
    (λ task is. is ∙ ap₂ (λ (v : List ℕ) (e : ℕ). upgrade_licence_task h (house_time c.args.house.bench) v e) c.vendor-vendor.ensures.value c.from-from.ensures.value)
    (λ task answer doable told. moved_line h _ u.vendor _ _ u.from _ line (c.lay_bare.ensures.words [] c.requires.begun) c.put_upgrade.ensures (c.terms_to_move-issuer.ensures.issuer h st) c.vendor-vendor.ensures.value c.from-from.ensures.value)
    (c.upgrade_licence.ensures.exact h st))

pub returns-clause-refusals : goal.returns-clause-refusals
returns-clause-refusals g c = rw c.without_answer.ensures (refused_as _ c.upgrade_licence.result c.upgrade_licence.ensures.refusals)
