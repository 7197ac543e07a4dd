use Rattle.std.proofs.Common.{refl}
use Rattle.mc_stage.proofs.Plays.{play_one}
use Rattle.mc_stage.proofs.tape.Tape.hear.Goals as goal

pub invariant_of-self-2 : goal.invariant_of-self-2
invariant_of-self-2 c = play_one _ _ _ _ _ _ _ _ _ _ _ _ _ _ c.self.invariant c.in_ok-push.ensures.items refl refl refl refl refl
