use Rattle.std.proofs.Common.{◌≡◌, rules, refl, sym, ◌∙◌, ◌++◌, ◌-◌, ap, map, take, length, ℕ, List, Vec, Global}
use Rattle.mc_stage.specs.Lists.{at_last}
use Rattle.mc_stage.proofs.Plays.{play_one, play_same}
use Rattle.mc_stage.proofs.Elements.{dropped_again, at_last-twice}
use Rattle.mc_stage.proofs.tape.Tape.send.Goals as goal

pub invariant_of-self-in-Ok : goal.invariant_of-self-in-Ok
invariant_of-self-in-Ok c =
    let same : c.in_ok-copy.copy.items ≡ c.args.bytes.now = search rules in
    play_one _ _ _ _ _ _ _ _ _ _ _ _ _ _ c.self.invariant c.in-Ok.ensures.items refl refl refl
    (c.in_ok-add_to_last.ensures.ok ∙ ap (λ (b : List ℕ). at_last (λ x. x ++ b) (map (λ (v : Vec ℕ Global). v.items) c.self.inside.sent.items)) (sym same)) refl

pub invariant_of-self-in-Err : goal.invariant_of-self-in-Err
invariant_of-self-in-Err c = play_same _ _ _ _ _ _ _ _ _ c.self.invariant c.in-Err.ensures.items
    (c.drop_from_last.ensures ∙ ap (at_last (λ (x : List ℕ). take (length x - length c.args.bytes.now) x)) c.in_ok-add_to_last.ensures.ok
    ∙ at_last-twice (λ x. x ++ c.args.bytes.now) (λ x. take (length x - length c.args.bytes.now) x) (map (λ (v : Vec ℕ Global). v.items) c.self.inside.sent.items) (λ x. dropped_again x c.args.bytes.now (length c.args.bytes.now) refl))
