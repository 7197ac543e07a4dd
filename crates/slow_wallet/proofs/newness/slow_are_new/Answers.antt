use Rattle.std.proofs.Common.{arith, sym, ◌+◌, true, false}
use Rattle.mc_records.specs.PieceViews.{pieces_of}
use Rattle.wallet_model.specs.Holdings.{texts_came}
use Rattle.slow_wallet.proofs.Steps.{new_next, not_new_all}
use Rattle.slow_wallet.proofs.newness.slow_are_new.Goals as goal

pub returns-then-not-new_at : goal.returns-then-not-new_at
returns-then-not-new_at c =
    sym (not_new_all (texts_came c.args.h.now) (pieces_of c.args.pieces.now) (c.loop-k.k + 1) (new_next (texts_came c.args.h.now) (pieces_of c.args.pieces.now) c.loop-k.k false (omega arith) c.loop-k.invariant c.if-not-new_at.ensures))

pub loop-k-preserved : goal.loop-k-preserved
loop-k-preserved c =
    new_next (texts_came c.args.h.now) (pieces_of c.args.pieces.now) c.loop-k.k true (omega arith) c.loop-k.invariant c.if-not-new_at.ensures
