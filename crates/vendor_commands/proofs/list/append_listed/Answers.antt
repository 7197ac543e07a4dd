use Rattle.std.proofs.Common.{◌∙◌, ◌++◌, List, ℕ, ap, arith}
use Rattle.vendor_core.specs.Shelf.{on_sale_in}
use Rattle.vendor_commands.specs.Operations.{listed_line}
use Rattle.vendor_commands.proofs.LineLemmas.{lines_more}
use Rattle.vendor_commands.proofs.list.append_listed.Goals as goal

pub loop-target-preserved : goal.loop-target-preserved
loop-target-preserved c h stands =
    lines_more (λ t. listed_line t (on_sale_in h t)) (λ t. t.items) c.targets-target-items.result.now c.loop-target.target-index c.target-item.result _ c.loop-target.lines.items c.append_goods.new.lines.items (omega (arith, c.loop-target-test.true)) c.target-item.is
    (c.in_ok-append_goods.ensures h stands ∙ ap (λ (t : List ℕ). c.loop-target.lines.items ++ listed_line t (on_sale_in h t)) c.deref.ensures.value) (c.loop-target.invariant h stands)
