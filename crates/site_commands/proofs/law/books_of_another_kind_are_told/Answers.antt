use Rattle.site_commands.proofs.KindLaws.{served_other, operated_other}
use Rattle.site_commands.proofs.law.books_of_another_kind_are_told.Goals as goal

pub returns-clause-served : goal.returns-clause-served
returns-clause-served g c kind links bytes a status b = served_other g.O.Link.link g.O.Disk.disk g.T.Trade.passes kind links bytes a b status

pub returns-clause-operated : goal.returns-clause-operated
returns-clause-operated g c command kind bytes a status b = operated_other g.O.Link.link g.O.Disk.disk g.T.Trade.passes kind (g.C.OperatorCommand.operation command) bytes a b status
