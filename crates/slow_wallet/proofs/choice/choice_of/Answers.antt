use Rattle.std.proofs.Common.{arith}
use Rattle.slow_wallet.proofs.ChoiceLaws.{entry_more}
use Rattle.slow_wallet.proofs.choice.choice_of.Goals as goal

pub loop-n-preserved : goal.loop-n-preserved
loop-n-preserved c =
    entry_more c.args.h.now c.args.moment c.args.vendor.now c.args.limit c.loop-n.n c.loop-n.choice c.with_entry-choice.result (omega arith) c.loop-n.invariant c.with_entry-choice.ensures
