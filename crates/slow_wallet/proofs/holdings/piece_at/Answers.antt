use Rattle.std.proofs.Common.{◌<◌, ◌∙◌, sym, arith, length}
use Rattle.slow_wallet.specs.Slow.{brought_at}
use Rattle.slow_wallet.proofs.Places.{piece_found, pieces_passed, piece_past}
use Rattle.slow_wallet.proofs.holdings.piece_at.Goals as goal

pub returns-then-skip-count : goal.returns-then-skip-count
returns-then-skip-count c =
    let small : c.loop-n.skip < length (brought_at c.args.h.now c.loop-n.n) = omega (arith, c.count_brought.ensures, c.from-count.ensures, c.if-skip-count.true) in
    c.brought.ensures ∙ sym (piece_found c.args.h.now c.loop-n.n c.args.place c.loop-n.skip (omega arith) c.loop-n.invariant small)

pub loop-n-preserved : goal.loop-n-preserved
loop-n-preserved c = omega (arith, c.loop-n.invariant, pieces_passed c.args.h.now c.loop-n.n (omega arith), c.count_brought.ensures, c.from-count.ensures, c.if-skip-count.false)

pub returns : goal.returns
returns c = piece_past c.args.h.now c.loop-n.n c.args.place c.loop-n.skip (omega (arith, c.len-n-end.ensures)) c.loop-n.invariant
