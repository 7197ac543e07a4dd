use Rattle.door_commands.proofs.OpenLemmas.{operated_as}
use Rattle.door_commands.proofs.law.a_door_does_what_a_command_does.Goals as goal

pub returns : goal.returns
returns g c command kind bytes a status b o none = operated_as g.O.Link.link g.O.Disk.disk g.T.Trade.passes kind (g.C.OperatorCommand.operation command) bytes a status b o none
