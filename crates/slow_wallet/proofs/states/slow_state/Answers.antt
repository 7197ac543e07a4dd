use Rattle.std.proofs.Common.{arith}
use Rattle.slow_wallet.proofs.Steps.{state_step}
use Rattle.slow_wallet.proofs.states.slow_state.Goals as goal

pub loop-n-preserved : goal.loop-n-preserved
loop-n-preserved c =
    state_step c.args.h.now c.loop-n.n c.args.text.now c.moved.result c.loop-n.state c.unwrap_or-state.result (omega arith) c.moved.ensures c.loop-n.invariant c.unwrap_or-state.ensures
