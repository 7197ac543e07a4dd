use Rattle.std.proofs.Common.{List, ap}
use Rattle.broker_core.specs.declared.moves.Moved.{Moved}
use Rattle.broker_core.specs.Moves.{moves_of}
use Rattle.broker_core.proofs.moves.Moves.new.Goals as goal

pub returns : goal.returns
returns c vendor = ap (λ (ms : List Moved). moves_of ms vendor) c.new.ensures.items
