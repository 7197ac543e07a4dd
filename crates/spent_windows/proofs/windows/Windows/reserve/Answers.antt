use Rattle.std.proofs.Common.{◌≡◌, ℕ, ◌+◌, ◌≤◌, true, cond, eqb, List, length, Some, sym, ap, subst, ◌∙◌, add-zero, arith}
use Rattle.std.proofs.lemmas.Bool.{false≢true}
use Rattle.scrip_form.specs.Identities.{series_of}
use Rattle.spent_windows.specs.Windows.{WindowView, window_of, is_marked, end_of, has_room, IsCompact}
use Rattle.spent_windows.specs.Store.{IsAt, IsGapFor}
use Rattle.spent_windows.proofs.MarkLaws.{no_room_gap, room_at, ends_at, ends_added, marks_kept, count_added, order_added, all_added}
use Rattle.spent_windows.proofs.windows.Windows.reserve.Goals as goal
use Rattle.spent_windows.proofs.windows.Windows.reserve.Goals.{In-Err, In-Ok}

-- ---- the window stands

there : (c : In-Ok) → IsAt c.self.inside.windows.items (window_of c.args.id) c.in-Ok.place
there c =
    let its : IsAt c.self.inside.windows.items c.window_of-number.result c.in-Ok.place = subst (λ (ws : List WindowView). IsAt ws c.window_of-number.result c.in-Ok.place) c.deref.ensures.value c.in-Ok.ensures.found in
    subst (λ (n : ℕ). IsAt c.self.inside.windows.items n c.in-Ok.place) c.window_of-number.ensures its

-- it was reserved with the same end
reserved : (c : In-Ok) → (k e : ℕ) → series_of k ≡ series_of c.args.id → end_of c.self.inside.windows.items k ≡ Some e → e ≡ c.args.end
reserved c k e same found = c.requires k e same (ap (λ (ws : List WindowView). end_of ws k) (sym c.self.view_is) ∙ found)

pub returns-in-Ok-clause-ok : goal.returns-in-Ok-clause-ok
returns-in-Ok-clause-ok c = λ k.
    let m = (goal.at.returns-in-Ok-clause-ok c).In-Ok in
    let items = c.self.inside.windows.items in
    ends_at items c.args.id c.in-Ok.place c.args.end c.self.invariant.order (there m) (reserved m) k
    ∙ ap (λ (ws : List WindowView). cond (eqb (window_of c.args.id) (window_of k)) (Some c.args.end) (end_of ws k)) c.self.view_is

pub returns-in-Ok-clause-count : goal.returns-in-Ok-clause-count
returns-in-Ok-clause-count c =
    let m = (goal.at.returns-in-Ok-clause-count c).In-Ok in
    let room : has_room c.args.self.now c.args.id ≡ true = ap (λ (ws : List WindowView). has_room ws c.args.id) (sym c.self.view_is) ∙ room_at c.self.inside.windows.items c.args.id c.in-Ok.place c.self.invariant.order (there m) in
    rw room (ap length c.self.view_is ∙ sym (add-zero (length c.args.self.now)))

-- ---- it doesn't

gap : (c : In-Err) → IsGapFor c.self.inside.windows.items c.window_of-number.result c.in-Err.place
gap c = subst (λ (ws : List WindowView). IsGapFor ws c.window_of-number.result c.in-Err.place) c.deref.ensures.value c.in-Err.ensures.gap

pub returns-in_err-add-in-Err-clause-again : goal.returns-in_err-add-in-Err-clause-again
returns-in_err-add-in-Err-clause-again c = λ room.
    let m = (goal.at.returns-in_err-add-in-Err-clause-again c).In-Err in
    let its : IsGapFor c.self.inside.windows.items (window_of c.args.id) c.in-Err.place = subst (λ (n : ℕ). IsGapFor c.self.inside.windows.items n c.in-Err.place) c.window_of-number.ensures (gap m) in
    absurd (false≢true (sym (no_room_gap c.self.inside.windows.items c.args.id c.in-Err.place its) ∙ ap (λ (ws : List WindowView). has_room ws c.args.id) c.self.view_is ∙ room))

pub invariant_of-self-in-Err : goal.invariant_of-self-in-Err
invariant_of-self-in-Err c =
    let g = gap (goal.at.invariant_of-self-in-Err c).In-Err in
    let added = c.in_ok-add-in-Err.ensures.ok in
    let is = c.window_of-number.ensures in
    record {
      order = order_added added c.args.id is g c.self.invariant.order;
      ends = all_added added c.args.id is g (λ w. c.min-self-inside.result ≤ w.end) (λ k d within. omega (arith, c.self.invariant.ends k d within)) (rw added.ends (omega arith));
      compact = all_added added c.args.id is g IsCompact c.self.invariant.compact added.compact;
    }

pub returns-in_ok-add-in-Err-clause-ok : goal.returns-in_ok-add-in-Err-clause-ok
returns-in_ok-add-in-Err-clause-ok c = λ k.
    let g = gap (goal.at.returns-in_ok-add-in-Err-clause-ok c).In-Err in
    ends_added c.in_ok-add-in-Err.ensures.ok c.args.id c.window_of-number.ensures g k
    ∙ ap (λ (ws : List WindowView). cond (eqb (window_of c.args.id) (window_of k)) (Some c.args.end) (end_of ws k)) c.self.view_is

pub returns-in_ok-add-in-Err-clause-count : goal.returns-in_ok-add-in-Err-clause-count
returns-in_ok-add-in-Err-clause-count c =
    let g = gap (goal.at.returns-in_ok-add-in-Err-clause-count c).In-Err in
    count_added c.in_ok-add-in-Err.ensures.ok c.args.id c.window_of-number.ensures g
    ∙ ap (λ (ws : List WindowView). length ws + cond (has_room ws c.args.id) 0 1) c.self.view_is

pub returns-in_ok-add-in-Err-clause-same : goal.returns-in_ok-add-in-Err-clause-same
returns-in_ok-add-in-Err-clause-same c = λ k.
    let g = gap (goal.at.returns-in_ok-add-in-Err-clause-same c).In-Err in
    marks_kept c.in_ok-add-in-Err.ensures.ok c.args.id c.window_of-number.ensures g k ∙ ap (λ (ws : List WindowView). is_marked ws k) c.self.view_is
