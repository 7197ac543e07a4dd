use Rattle.std.proofs.Common.{arith, ◌≡◌, ◌+◌}
use Rattle.audit_search.proofs.Loops.{run_more}
use Rattle.audit_search.proofs.known.put_run.Goals as goal

pub loop-k-preserved : goal.loop-k-preserved
loop-k-preserved c = λ id value.
    let is : c.in-Some.id ≡ c.args.run.now.first + c.loop-k.k = omega (arith, c.in-Some.ensures, c.number.ensures, c.from.ensures) in
    run_more id value c.args.run.now.value c.args.run.now.first c.loop-k.k c.in-Some.id _ _ _ is (c.loop-k.invariant id value) (c.in_ok-insert-in-Some.ensures.updates.0 (id, value))
