use Rattle.std.proofs.Common.{refl}
use Rattle.command_table.specs.Table.{form_of}
use Rattle.wallet_words.specs.Words.{proxying_values}
use Rattle.wallet_words.proofs.proxying.Proxying.read.Goals as goal

pub returns-in_err-listen : goal.returns-in_err-listen
unfolding form_of proxying_values
returns-in_err-listen c = rw c.from_residual-in_err-listen.ensures (λ others found. c.in_err-listen.ensures.none refl others.1.1.1.1.0 found.1.1.1.1.0)
