use Rattle.std.specs.Prelude.{IsTrue}
use Rattle.link_rounds.proofs.RoundLemmas.{rounds_in_order}
use Rattle.house_together.specs.Replying.{history_of}
use Rattle.house_together.proofs.law.rounds_are_in_order.Goals as goal

pub returns : goal.returns
returns c tells s before rounds image sent o = rounds_in_order history_of (IsTrue tells) s before rounds image sent o
