use Rattle.std.proofs.Common.{◌≡◌, ℕ, ◌<◌, ◌||◌, eqb, List, Result, IfOk, ap, subst, ◌∙◌}
use Rattle.spent_windows.specs.Windows.{WindowView, window_of, bit_of, has_mark, is_marked, end_of, has_room}
use Rattle.spent_windows.specs.Store.{IsAt}
use Rattle.spent_windows.proofs.MarkLaws.{placed, marked_more, ends_kept}
use Rattle.spent_windows.proofs.windows.Windows.mark.Goals as goal
use Rattle.spent_windows.proofs.windows.Windows.mark.Goals.{After-mark}

pub unwrap-place-requires : goal.unwrap-place-requires
unwrap-place-requires c =
    let same = c.deref.ensures.value ∙ c.self.view_is in
    placed c.deref.result.now c.args.id c.window_of-number.result c.place_of.result c.window_of-number.ensures c.place_of.ensures.gap
    (ap (λ (ws : List WindowView). has_room ws c.args.id) same ∙ c.requires)

-- the window stands where it was found
there : (c : After-mark) → IsAt c.self.inside.windows.items (window_of c.args.id) c.unwrap-place.result
there c =
    let found : IsAt c.deref.result.now c.window_of-number.result c.unwrap-place.result =
    subst (λ (r : Result ℕ ℕ). IfOk r (IsAt c.deref.result.now c.window_of-number.result)) c.unwrap-place.ensures c.place_of.ensures.found in
    let its : IsAt c.self.inside.windows.items c.window_of-number.result c.unwrap-place.result = subst (λ (ws : List WindowView). IsAt ws c.window_of-number.result c.unwrap-place.result) c.deref.ensures.value found in
    subst (λ (n : ℕ). IsAt c.self.inside.windows.items n c.unwrap-place.result) c.window_of-number.ensures its

-- and there its mark was made
more : (c : After-mark) → (k : ℕ) → k < 4096 → has_mark c.mark.new.self k ≡ (has_mark c.index_mut-window.result.now k || eqb (bit_of c.args.id) k)
more c k below = c.mark.ensures.marked k below ∙ ap (λ (p : ℕ). has_mark c.index_mut-window.result.now k || eqb p k) c.bit_of.ensures

pub returns-clause-marked : goal.returns-clause-marked
returns-clause-marked c = λ k.
    let m = (goal.at.returns-clause-marked c).After-mark in
    marked_more c.self.inside.windows.items c.args.id c.unwrap-place.result c.index_mut-window.result.now c.mark.new.self c.self.invariant.order (there m) c.index_mut-window.ensures.value c.mark.ensures.number (more m) k
    ∙ ap (λ (ws : List WindowView). is_marked ws k || eqb c.args.id k) c.self.view_is

pub returns-clause-ends : goal.returns-clause-ends
returns-clause-ends c = λ k.
    let m = (goal.at.returns-clause-ends c).After-mark in
    ends_kept c.self.inside.windows.items c.args.id c.unwrap-place.result c.index_mut-window.result.now c.mark.new.self c.self.invariant.order (there m) c.index_mut-window.ensures.value c.mark.ensures.number c.mark.ensures.end k
    ∙ ap (λ (ws : List WindowView). end_of ws k) c.self.view_is
