use Rattle.std.proofs.Common.{ℕ, ◌+◌, List, inl, inr, refl, ap, ap₂, ◌∙◌, arith}
use Rattle.house_core.specs.Bench.{house_time}
use Rattle.house_core.specs.Tasks.{TellsLast}
use Rattle.mc_records.specs.declared.ranges.TheConstants.{MOST_CONTENTS}
use Rattle.mc_requests.specs.declared.refusal.Refusal.TheVariants.{ContentsFull}
use Rattle.vendor_core.specs.Shelf.{shelf_view}
use Rattle.vendor_core.specs.Tasks.{goods_task}
use Rattle.vendor_commands.specs.Operations.{goods_operation}
use Rattle.operator_command.proofs.CommandLemmas.{back_as, performs_as, performs_refused, refused_as}
use Rattle.vendor_commands.proofs.goods.list_goods.Goals as goal

pub returns-then-input-gt-MOST_CONTENTS-clause-exact : goal.returns-then-input-gt-MOST_CONTENTS-clause-exact
returns-then-input-gt-MOST_CONTENTS-clause-exact g c h line st begun =
    let operation = goods_operation c.args.listing.now in
    performs_refused g.D.Disk.disk shelf_view (operation.asks c.args.input.now h (house_time c.args.house.bench)) (λ task g answer. operation.says c.args.input.now h task line) _ c.args.house h (ContentsFull (MOST_CONTENTS + 1)) g.met.D.Disk.is_disk st
    (inr (omega (arith, c.if-input-gt-MOST_CONTENTS.true), refl))

pub returns-clause-back : goal.returns-clause-back
returns-clause-back g c = rw c.without_answer.ensures (back_as g.D.Disk.disk g.D.Disk.disk_moved _ c.args.house.journal.disk c.set_goods.result c.set_goods.ensures.back)

pub returns-clause-exact : goal.returns-clause-exact
returns-clause-exact g c h line st begun =
    let operation = goods_operation c.args.listing.now in
    rw c.without_answer.ensures
    (performs_as g.D.Disk.disk shelf_view _ (operation.asks c.args.input.now h (house_time c.args.house.bench)) TellsLast (λ task. operation.says c.args.input.now h task line) _ c.args.house.journal.disk h c.set_goods.result
    (λ task is. inl (
      omega (arith, c.if-input-gt-MOST_CONTENTS.false),
      is ∙ ap₂ (λ (target : List ℕ) (price : ℕ). goods_task h (house_time c.args.house.bench) target price c.kind.result c.args.input.now) c.target.ensures.value c.price.ensures.value
          ∙ ap (λ (kind : ℕ). goods_task h (house_time c.args.house.bench) c.args.listing.now.target c.args.listing.now.price kind c.args.input.now) c.kind.ensures.value,
    ))
    (λ task answer doable told. begun) (c.set_goods.ensures.exact h st))

pub returns-clause-refusals : goal.returns-clause-refusals
returns-clause-refusals g c = rw c.without_answer.ensures (refused_as _ c.set_goods.result c.set_goods.ensures.refusals)
