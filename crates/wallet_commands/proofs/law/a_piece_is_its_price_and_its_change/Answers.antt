use Rattle.wallet_commands.proofs.ChangeLaws.{price_and_change}
use Rattle.wallet_commands.proofs.law.a_piece_is_its_price_and_its_change.Goals as goal

pub returns : goal.returns
returns c = price_and_change
