use Rattle.command_table.proofs.AddressLemmas.{host_told, no_host}
use Rattle.command_table.proofs.address.is_host_and_port.Goals as goal

pub returns-in_default : goal.returns-in_default
returns-in_default c = (λ t. absurd (cc t), λ is. absurd (no_host c.args.least c.args.word.now c.in_default.field-0.left c.in_default.ensures.gives is))

pub returns : goal.returns
returns c = rw c.is_some.ensures (host_told c.args.least c.args.word.now c.in-Ok.found.0.now c.in-Ok.found.1.now c.number_from.result c.in-Ok.ensures.gives (c.number_from.ensures.some, c.number_from.ensures.none))
