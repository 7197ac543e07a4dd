use Rattle.std.proofs.Common.{◌≡◌, rules, refl, sym, ◌∙◌, ap, List, ℕ, Bool, length}
use Rattle.mc_outside.specs.Bytes.{put}
use Rattle.mc_stage.specs.Lists.{unsynced}
use Rattle.mc_stage.proofs.Plays.{play_one}
use Rattle.mc_stage.proofs.tape.Tape.write.Goals as goal

pub invariant_of-self-2 : goal.invariant_of-self-2
invariant_of-self-2 c =
    let same : c.in_ok-copy.copy.items ≡ c.args.bytes.now = search rules in
    let next : c.in_ok-next.next.items ≡ put c.args.at c.args.bytes.now c.self.inside.bytes.items = c.in_ok-next.ensures ∙ ap (λ (l : List ℕ). put c.args.at c.args.bytes.now l) c.deref.ensures.value in
    let marks : c.in_ok-marks.marks.items ≡ unsynced c.args.at (length c.args.bytes.now) c.self.inside.marks.items = c.in_ok-marks.ensures ∙ ap (λ (l : List Bool). unsynced c.args.at (length c.args.bytes.now) l) c.deref-2.ensures.value in
    play_one _ _ _ _ _ _ _ _ _ _ _ _ _ _ c.self.invariant c.in_ok-push.ensures.items
    (next ∙ ap (λ (l : List ℕ). put c.args.at l c.self.inside.bytes.items) (sym same)) refl (marks ∙ ap (λ (l : List ℕ). unsynced c.args.at (length l) c.self.inside.marks.items) (sym same)) refl refl
