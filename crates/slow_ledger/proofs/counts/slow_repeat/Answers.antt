use Rattle.std.proofs.Common.{arith, true, false, position}
use Rattle.mc_requests.specs.Requests.{asked_of}
use Rattle.ledger_model.specs.Stages.{is_repeat}
use Rattle.slow_ledger.proofs.CountLaws.{position_start, position_more}
use Rattle.slow_ledger.proofs.counts.slow_repeat.Goals as goal

pub loop-n-init : goal.loop-n-init
loop-n-init c = position_start (is_repeat c.args.keep c.args.time (asked_of c.args.q.now)) c.args.h.now

pub returns-then-repeats_at : goal.returns-then-repeats_at
returns-then-repeats_at c =
    let test = is_repeat c.args.keep c.args.time (asked_of c.args.q.now) in
    position_more test c.args.h.now c.loop-n.n true (position test c.args.h.now) (omega arith) c.loop-n.invariant c.if-repeats_at.ensures

pub loop-n-preserved : goal.loop-n-preserved
loop-n-preserved c =
    let test = is_repeat c.args.keep c.args.time (asked_of c.args.q.now) in
    position_more test c.args.h.now c.loop-n.n false (position test c.args.h.now) (omega arith) c.loop-n.invariant c.if-repeats_at.ensures
