use Rattle.std.proofs.Common.{◌≡◌, ◌∙◌, ◌++◌, Option, sym, ap, subst, append-nil}
use Rattle.std.specs.Prelude.{OnOk}
use Rattle.vendor_core.specs.declared.shelf.OnSale.{OnSale}
use Rattle.vendor_commands.specs.Operations.{listed_line}
use Rattle.vendor_commands.proofs.list.append_goods.Goals as goal

pub returns-in-Some : goal.returns-in-Some
returns-in-Some c h stands =
    subst (λ (o : Option OnSale). OnOk c.append_line.result (c.append_line.new.lines.items ≡ c.args.lines.now.items ++ listed_line c.args.target.now o)) (sym c.in-Some.is ∙ c.on_sale.ensures h stands) c.append_line.ensures

pub returns-in-None : goal.returns-in-None
returns-in-None c h stands =
    sym (append-nil c.args.lines.now.items) ∙ ap (λ (o : Option OnSale). c.args.lines.now.items ++ listed_line c.args.target.now o) (sym c.in-None.is ∙ c.on_sale.ensures h stands)
