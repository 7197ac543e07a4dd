use Rattle.std.proofs.Common.{refl}
use Rattle.house_core.specs.Bench.{house_time, limits_of}
use Rattle.house_core.specs.Tasks.{after}
use Rattle.vendor_core.specs.Shelf.{shelf_view}
use Rattle.vendor_core.specs.Tasks.{TellsMint}
use Rattle.vendor_commands.specs.Operations.{mint_operation}
use Rattle.vendor_commands.proofs.MintLemmas.{mint_task_at, mint_line_at}
use Rattle.operator_command.proofs.CommandLemmas.{back_as, performs_as, refused_as}
use Rattle.vendor_commands.proofs.mint.mint_pieces.Goals as goal

pub returns-clause-back : goal.returns-clause-back
returns-clause-back g c = rw c.without_answer.ensures (back_as g.D.Disk.disk g.D.Disk.disk_moved _ c.args.house.journal.disk c.mint.result c.mint.ensures.back)

pub returns-clause-exact : goal.returns-clause-exact
returns-clause-exact g c h input st all =
    let operation = mint_operation c.args.minting.now in
    let m = c.args.minting.now in
    rw c.without_answer.ensures
    (performs_as g.D.Disk.disk shelf_view _ (operation.asks input h (house_time c.args.house.bench)) (TellsMint c.reference.result.now c.count.result c.value.result c.mint.new.out.items) (λ task. operation.says input h task c.mint.new.out.items) _ c.args.house.journal.disk h c.mint.result
    (λ task is. mint_task_at h (house_time c.args.house.bench) (limits_of c.args.house.bench) c.reference.result.now m.reference c.count.result m.count c.value.result m.value task all c.reference.ensures.value c.count.ensures.value c.value.ensures.value is)
    (λ task answer doable told. mint_line_at (after task h) c.reference.result.now m.reference c.count.result m.count c.value.result m.value answer c.mint.new.out.items c.mint.new.out.items c.reference.ensures.value c.count.ensures.value c.value.ensures.value refl told)
    (c.mint.ensures.exact h st))

pub returns-clause-refusals : goal.returns-clause-refusals
returns-clause-refusals g c = rw c.without_answer.ensures (refused_as _ c.mint.result c.mint.ensures.refusals)
