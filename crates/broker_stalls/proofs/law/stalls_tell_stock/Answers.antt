use Rattle.broker_stalls.proofs.HeldLaws.{piece_fits, held_is}
use Rattle.broker_stalls.proofs.ShownLaws.{first_is, stock_is}
use Rattle.broker_stalls.proofs.law.stalls_tell_stock.Goals as goal

pub returns : goal.returns
returns c = record { first = first_is; piece = piece_fits; held = held_is; stock = stock_is }
