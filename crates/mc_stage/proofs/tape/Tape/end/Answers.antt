use Rattle.std.proofs.Common.{refl, ap, ◌∙◌, not, ℕ, Vec, Global, vec_len, arith}
use Rattle.mc_stage.proofs.Plays.{play_one, any_length}
use Rattle.mc_stage.proofs.tape.Tape.end.Goals as goal

pub invariant_of-self-2 : goal.invariant_of-self-2
invariant_of-self-2 c = play_one _ _ _ _ _ _ _ _ _ _ _ _ _ _ c.self.invariant c.in_ok-push.ensures.items
    refl refl refl refl
    (ap not c.is_empty.ensures ∙ any_length (λ (v : Vec ℕ Global). v.items) c.self.inside.sent.items (vec_len c.self.inside.sent) (omega (arith, c.self.inside.sent.ok)))
