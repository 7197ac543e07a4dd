use Rattle.mc_world.proofs.Playing.{read_more}
use Rattle.mc_world.proofs.schedule.history_is_read.Goals as goal

pub loop-number-preserved : goal.loop-number-preserved
loop-number-preserved c = read_more c.args.history.now c.loop-number.number c.in-Some.bytes.now c.in-Some.ensures.value c.payload.ensures.fits c.secrets_are_bytes.ensures c.loop-number.invariant
