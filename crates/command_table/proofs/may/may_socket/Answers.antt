use Rattle.command_table.specs.Ranges.{IsSocket}
use Rattle.command_table.proofs.SpellLemmas.{borrowed_option}
use Rattle.command_table.proofs.may.may_socket.Goals as goal

pub returns : goal.returns
returns c = rw c.is_some.ensures (borrowed_option _ IsSocket c.spelled_socket.result c.spelled_socket.ensures.some c.spelled_socket.ensures.none)
