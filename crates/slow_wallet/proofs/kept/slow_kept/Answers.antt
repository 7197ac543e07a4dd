use Rattle.std.proofs.Common.{◌∙◌, sym, arith}
use Rattle.slow_wallet.proofs.Places.{kept_found, kept_passed, kept_past}
use Rattle.slow_wallet.proofs.kept.slow_kept.Goals as goal

pub returns-then-skip-count : goal.returns-then-skip-count
returns-then-skip-count c =
    c.kept.ensures ∙ sym (kept_found c.args.h.now c.loop-n.n c.args.place c.loop-n.skip (omega arith) c.loop-n.invariant (omega (arith, c.count_kept-count.ensures, c.if-skip-count.true)))

pub loop-n-preserved : goal.loop-n-preserved
loop-n-preserved c = omega (arith, c.loop-n.invariant, kept_passed c.args.h.now c.loop-n.n (omega arith), c.count_kept-count.ensures, c.if-skip-count.false)

pub returns : goal.returns
returns c = kept_past c.args.h.now c.loop-n.n c.args.place c.loop-n.skip (omega (arith, c.len-n-end.ensures)) c.loop-n.invariant
