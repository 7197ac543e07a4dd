use Rattle.std.proofs.lemmas.Result.{err_from_is_err_and}
use Rattle.mc_records.specs.Forms.{held_form}
use Rattle.mc_records.proofs.PieceLaws.{goes_on, ends}
use Rattle.mc_records.proofs.listing.behind.Goals as goal

pub returns-in_err-rest : goal.returns-in_err-rest
returns-in_err-rest c =
    let p = err_from_is_err_and c.from_residual.result c.from_residual.ensures.1 in
    rw (p.1, p.2) (ends held_form c.args.count c.loop.counter c.loop.rest.now c.in_err-rest.field-0.0.left _ c.loop-test.true c.in_err-rest.ensures c.loop.invariant)

pub loop-preserved : goal.loop-preserved
loop-preserved c = goes_on held_form c.args.count c.loop.counter c.loop.rest.now c.in_ok-rest.rest.now _ c.loop-test.true c.in_ok-rest.ensures c.loop.invariant
