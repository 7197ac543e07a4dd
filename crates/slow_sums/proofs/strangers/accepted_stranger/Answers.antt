use Rattle.std.proofs.Common.{slice_get, true, false}
use Rattle.ledger_model.specs.Pieces.{accepted_piece}
use Rattle.slow_sums.proofs.Strange.{among_tells}
use Rattle.slow_sums.proofs.Lists.{if_some}
use Rattle.slow_sums.proofs.strangers.accepted_stranger.Goals as goal

pub returns-then-is_among : goal.returns-then-is_among
returns-then-is_among c = λ pieces same.
    if_some _ _ (slice_get c.args.h.now c.args.n) (λ e said. among_tells pieces c.args.handed.now (accepted_piece e) c.in-Some.part true same said c.if-is_among.ensures) c.in-Some.ensures

pub returns-else-is_among : goal.returns-else-is_among
returns-else-is_among c = λ pieces same.
    if_some _ _ (slice_get c.args.h.now c.args.n) (λ e said. among_tells pieces c.args.handed.now (accepted_piece e) c.in-Some.part false same said c.if-is_among.ensures) c.in-Some.ensures
