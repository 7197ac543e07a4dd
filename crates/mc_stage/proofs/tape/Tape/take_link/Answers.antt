use Rattle.std.proofs.Common.{refl, ◌∙◌, ◌++◌, ◌∷◌, [], ap, map, ℕ, List, Vec, Global}
use Rattle.std.proofs.lemmas.List.{map-append}
use Rattle.mc_stage.proofs.Plays.{play_one}
use Rattle.mc_stage.proofs.tape.Tape.take_link.Goals as goal

pub invariant_of-self-in-Ok : goal.invariant_of-self-in-Ok
invariant_of-self-in-Ok c = play_one _ _ _ _ _ _ _ _ _ _ _ _ _ _ c.self.invariant c.in-Ok.ensures.items refl refl refl
    (ap (map (λ (v : Vec ℕ Global). v.items)) c.in_ok-push.ensures.items ∙ map-append (λ (v : Vec ℕ Global). v.items) c.self.inside.sent.items (c.new.result ∷ [])
    ∙ ap (λ (z : List ℕ). map (λ (v : Vec ℕ Global). v.items) c.self.inside.sent.items ++ z ∷ []) c.new.ensures.items) refl
