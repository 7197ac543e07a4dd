use Rattle.std.proofs.Common.{arith}
use Rattle.slow_wallet.specs.Slow.{brought_at}
use Rattle.slow_wallet.proofs.ChoiceLaws.{piece_more}
use Rattle.slow_wallet.proofs.choice.with_entry.Goals as goal

pub loop-k-preserved : goal.loop-k-preserved
loop-k-preserved c = λ xs is.
    piece_more c.args.h.now c.args.moment c.args.vendor.now c.args.limit (brought_at c.args.h.now c.args.n) c.loop-k.k xs c.offer_at.result c.loop-k.choice c.with_more-choice.result (omega arith) c.offer_at.ensures (c.loop-k.invariant xs is) c.with_more-choice.ensures
