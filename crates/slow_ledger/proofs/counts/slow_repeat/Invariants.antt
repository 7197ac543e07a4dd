use Rattle.std.proofs.Common.{◌≡◌, drop, position}
use Rattle.std.specs.List.{position_from}
use Rattle.mc_requests.specs.Requests.{asked_of}
use Rattle.ledger_model.specs.Stages.{is_repeat}
use Rattle.slow_ledger.proofs.counts.slow_repeat.Given as goal

abbrev pub invariant-loop-n : goal.invariant-loop-n
invariant-loop-n l = position_from (is_repeat l.keep l.time (asked_of l.q)) l.n (drop l.n l.h) ≡ position (is_repeat l.keep l.time (asked_of l.q)) l.h
