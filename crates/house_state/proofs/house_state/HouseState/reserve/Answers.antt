use Rattle.std.proofs.Common.{◌≡◌, ◌∙◌, ◌<◌, Some, sym, subst}
use Rattle.house_state.specs.HouseState.{HouseStateView, end_by}
use Rattle.house_state.specs.LiveWindows.{AreUsed}
use Rattle.house_state.proofs.EndLaws.{one_end, ends_reserved}
use Rattle.house_state.proofs.WindowCounts.{used_reserved}
use Rattle.house_state.proofs.house_state.HouseState.reserve.Goals as goal

pub reserve-requires-4 : goal.reserve-requires-4
reserve-requires-4 c =
    let its : end_by c.self.inside.terms.items c.args.id ≡ Some c.args.end = subst (λ (b : HouseStateView). end_by b.terms c.args.id ≡ Some c.args.end) (sym c.self.view_is) c.requires.its in
    one_end c.self.inside.terms.items c.self.inside.spent c.args.id c.args.end c.self.invariant.ends its

pub invariant_of-self-2 : goal.invariant_of-self-2
invariant_of-self-2 c =
    let sound = c.self.invariant in
    let its : end_by c.self.inside.terms.items c.args.id ≡ Some c.args.end = subst (λ (b : HouseStateView). end_by b.terms c.args.id ≡ Some c.args.end) (sym c.self.view_is) c.requires.its in
    let live = subst (λ (b : HouseStateView). b.time < c.args.end) (sym c.self.view_is) c.requires.live in
    let windows = ends_reserved c.self.inside.terms.items c.self.inside.time c.args.id c.args.end c.self.inside.spent c.reserve-4.new.self (record { ends = sound.ends; alive = sound.alive }) its live c.in_ok-reserve-4.ensures.ok in
    record {
      limits = sound.limits;
      most = c.reserve-3.ensures.most ∙ c.reserve-2.ensures.most ∙ sound.most;
      counted = sound.counted;
      sized = sound.sized;
      numbers = rw c.reserve.ensures.replies sound.numbers;
      in_time = rw (c.reserve.ensures.replies, c.reserve.ensures.keep) sound.in_time;
      redeemed = λ s. rw (c.reserve-3.ensures.redeemed s, c.reserve-2.ensures.redeemed s) (sound.redeemed s);
      takings = sound.takings;
      ends = windows.ends;
      alive = windows.alive;
    }

pub returns-clause-used : goal.returns-clause-used
returns-clause-used c used =
    used_reserved c.args.id c.args.end c.self.inside.spent c.reserve-4.new.self c.in_ok-reserve-4.ensures.same c.in_ok-reserve-4.ensures.ok
    (subst (λ (b : HouseStateView). AreUsed b.spent) (sym c.self.view_is) used)
