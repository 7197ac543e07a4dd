use Rattle.std.proofs.Common.{arith}
use Rattle.settle_core.proofs.LineParts.{line_long, payment_at}
use Rattle.settle_core.proofs.statement.payment_in.Goals as goal

pub overflow_sub-result : goal.overflow_sub-result
overflow_sub-result c = omega (arith, line_long c.args._statement.now c.args.line.now c.requires.fits c.requires.line)

pub overflow_sub-result-2 : goal.overflow_sub-result-2
overflow_sub-result-2 c = omega (arith, line_long c.args._statement.now c.args.line.now c.requires.fits c.requires.line)

pub slice_bounds-result-count : goal.slice_bounds-result-count
slice_bounds-result-count c = omega (arith, line_long c.args._statement.now c.args.line.now c.requires.fits c.requires.line)

pub returns : goal.returns
returns c = payment_at c.args._statement.now c.args.line.now c.requires.fits c.requires.line

pub slice_bounds-result-start : goal.slice_bounds-result-start
slice_bounds-result-start c = omega (arith, line_long c.args._statement.now c.args.line.now c.requires.fits c.requires.line)
