use Rattle.std.proofs.Common.{subst}
use Rattle.house_state.specs.declared.offer.SiteKind.TheVariants.{Vendor}
use Rattle.settle_commands.specs.Operations.{state_operation}
use Rattle.mc_top.specs.Programs.{Operates, ordered}
use Rattle.mc_top.proofs.program.state.Goals as goal

pub returns-clause-operated : goal.returns-clause-operated
returns-clause-operated g c =
    subst (λ s. Operates g.O.Link.link g.O.Disk.disk ordered Vendor (state_operation s) c.args.out c.operate_book.result.1 c.operate_book.result.0)
    c.of-command.ensures (c.operate_book.ensures.causes, c.operate_book.ensures.operated)
