use Rattle.std.proofs.Common.{◌≡◌, sym, ◌∙◌, ◌<◌, ◌≤◌, ap, length, ℕ, List, Vec, Global, Some, None, slice_index_or}
use Rattle.std.specs.Prelude.{option_map, slice_get}
use Rattle.std.proofs.lemmas.Bool.{ltb-true, ltb-false}
use Rattle.mc_outside.specs.LinkView.{Session}
use Rattle.mc_stage.specs.Tape.{Played, played}
use Rattle.mc_stage.proofs.Plays.{sent_at}
use Rattle.mc_stage.proofs.Elements.{get_there, get_past}
use Rattle.mc_stage.proofs.tape.Tape.sent.Goals as goal

pub returns-in-Some : goal.returns-in-Some
returns-in-Some c =
    let within : c.args.link < length c.self.inside.sent.items = ltb-true _ _ (sym (rw c.deref.ensures.value at c.in-Some.ensures.lookup.0)) in
    let is : c.in-Some.sent.now ≡ slice_index_or c.self.inside.sent.items c.args.link c.in-Some.sent.now = rw c.deref.ensures.value at c.in-Some.ensures.lookup.1 in
    ap (λ (b : List ℕ). Some b) c.as_slice.ensures.value
    ∙ sent_at (λ (v : Vec ℕ Global). v.items) c.self.inside.sent.items _ c.args.link (Some c.in-Some.sent.now) c.self.invariant.sent (get_there c.self.inside.sent.items c.args.link c.in-Some.sent.now within is)
    ∙ ap (λ (p : Played). option_map (λ (s : Session). s.sent) (slice_get (played p).sessions c.args.link)) c.self.view_is

pub returns-in-None : goal.returns-in-None
returns-in-None c =
    let past : length c.self.inside.sent.items ≤ c.args.link = ltb-false _ _ (sym (rw c.deref.ensures.value at c.in-None.ensures.lookup.0)) in
    sent_at (λ (v : Vec ℕ Global). v.items) c.self.inside.sent.items _ c.args.link None c.self.invariant.sent (get_past c.self.inside.sent.items c.args.link past)
    ∙ ap (λ (p : Played). option_map (λ (s : Session). s.sent) (slice_get (played p).sessions c.args.link)) c.self.view_is
