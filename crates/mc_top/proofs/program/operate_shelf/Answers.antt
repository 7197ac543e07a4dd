use Rattle.std.proofs.Common.{subst}
use Rattle.house_state.specs.declared.offer.SiteKind.TheVariants.{Vendor}
use Rattle.house_state.specs.Learning.{untested}
use Rattle.vendor_commands.specs.Operations.{operation_view}
use Rattle.mc_top.specs.Programs.{Operates}
use Rattle.mc_top.proofs.program.operate_shelf.Goals as goal

-- src/program.rt:187:1
pub returns-clause-operated : goal.returns-clause-operated
returns-clause-operated g c =
    subst (λ o. Operates g.O.Link.link g.O.Disk.disk untested Vendor (operation_view o) c.args.out c.operate_book.result.1 c.operate_book.result.0)
    c.of-command.ensures (c.operate_book.ensures.causes, c.operate_book.ensures.operated)
