use Rattle.std.proofs.Common.{◌≡◌, ◌∙◌, ap, ℕ, arith, rules, refl, true, length, replicate}
use Rattle.mc_stage.proofs.Plays.{play_one}
use Rattle.mc_stage.proofs.tape.Tape.sync.Goals as goal

pub invariant_of-self-2 : goal.invariant_of-self-2
invariant_of-self-2 c =
    let kept : c.in_ok-kept.kept.items ≡ c.self.inside.bytes.items = search rules in
    let marks : c.in_ok-marks.marks.items ≡ replicate (length c.self.inside.bytes.items) true =
    (let all : c.in_ok-marks.marks.items ≡ replicate c.len.result true = search rules in all) ∙ ap (λ (n : ℕ). replicate n true) (omega (arith, c.len.ensures, c.self.inside.bytes.ok)) in
    play_one _ _ _ _ _ _ _ _ _ _ _ _ _ _ c.self.invariant c.in_ok-push.ensures.items
    refl kept marks refl refl
