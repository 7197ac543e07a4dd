use Rattle.std.proofs.Common.{arith, sym, ◌+◌, true, false}
use Rattle.mc_records.specs.Entry.{Held}
use Rattle.slow_wallet.specs.Slow.{are_alike}
use Rattle.slow_wallet.proofs.Steps.{alike_next, alike_all}
use Rattle.slow_wallet.proofs.came.slow_came.Goals as goal

pub returns-then-brings_alike : goal.returns-then-brings_alike
returns-then-brings_alike c =
    let test = λ (p : Held). are_alike c.args.by p.text c.args.text.now in
    sym (alike_all test c.args.h.now (c.loop-n.n + 1) (alike_next test c.args.h.now c.loop-n.n true (omega arith) c.loop-n.invariant c.if-brings_alike.ensures))

pub loop-n-preserved : goal.loop-n-preserved
loop-n-preserved c =
    let test = λ (p : Held). are_alike c.args.by p.text c.args.text.now in
    alike_next test c.args.h.now c.loop-n.n false (omega arith) c.loop-n.invariant c.if-brings_alike.ensures
