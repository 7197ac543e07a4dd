use Rattle.std.proofs.Common.{List, ap, ◌∙◌}
use Rattle.broker_core.specs.declared.moves.Moved.{Moved}
use Rattle.broker_core.specs.Moves.{moves_of}
use Rattle.broker_core.proofs.desk.DeskTrade.reserve.Goals as goal

pub returns-in_err-reserve-2-clause-same : goal.returns-in_err-reserve-2-clause-same
returns-in_err-reserve-2-clause-same c h stands = record {
  of_accounts = c.reserve.ensures.same h stands.of_accounts;
  of_stalls = c.reserve-2.ensures.same h stands.of_stalls;
  of_moves = stands.of_moves;
  of_fee = stands.of_fee;
}

pub returns-clause-same : goal.returns-clause-same
returns-clause-same c h stands = record {
  of_accounts = c.reserve.ensures.same h stands.of_accounts;
  of_stalls = c.reserve-2.ensures.same h stands.of_stalls;
  of_moves = λ vendor. ap (λ (ms : List Moved). moves_of ms vendor) c.reserve-3.ensures.same ∙ stands.of_moves vendor;
  of_fee = stands.of_fee;
}
