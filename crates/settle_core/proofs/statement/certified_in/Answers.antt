use Rattle.std.proofs.Common.{arith}
use Rattle.settle_core.proofs.LineParts.{line_long, body_at}
use Rattle.settle_core.proofs.statement.certified_in.Goals as goal

pub slice_bounds-result-count : goal.slice_bounds-result-count
slice_bounds-result-count c = omega (arith, line_long c.args._statement.now c.args.line.now c.requires.fits c.requires.line)

pub returns : goal.returns
returns c = body_at c.args._statement.now c.args.line.now c.requires.fits c.requires.line
