use Rattle.std.proofs.Common.{◌≡◌, ℕ, ◌<◌, ◌≤◌, ◌&&◌, List, All, sym, ap, subst, ◌∙◌, arith}
use Rattle.std.specs.Prelude.{filter}
use Rattle.std.proofs.lemmas.List.Elements.{All-filter}
use Rattle.std.proofs.lemmas.List.Kept.{AllPairs-filter}
use Rattle.spent_windows.specs.Windows.{WindowView, is_marked, end_of, ends_after, lasts, later_than, AreInOrder, IsCompact}
use Rattle.spent_windows.proofs.MarkLaws.{none_dropped, ends_dropped, marks_dropped}
use Rattle.spent_windows.proofs.windows.Windows.forget.Goals as goal
use Rattle.spent_windows.proofs.windows.Windows.forget.Goals.{After-drop_ended, Else-self-now}

dropped : (c : After-drop_ended) → c.drop_ended.new.windows.items ≡ filter (ends_after c.args.now) c.self.inside.windows.items
dropped c = c.drop_ended.ensures ∙ ap (λ (t : ℕ). filter (ends_after t) c.self.inside.windows.items) c.seconds-now.ensures.seconds

pub invariant_of-self : goal.invariant_of-self
invariant_of-self c = record {
  order = rw c.drop_ended.ensures (AllPairs-filter (λ v w. v.number < w.number) (ends_after c.seconds-now.result) c.self.inside.windows.items c.self.invariant.order);
  ends = subst (λ (ws : List WindowView). All (λ w. c.first_end-self-inside.result ≤ w.end) ws) c.deref.ensures.value c.first_end-self-inside.ensures;
  compact = rw c.drop_ended.ensures (All-filter (ends_after c.seconds-now.result) IsCompact c.self.inside.windows.items c.self.invariant.compact);
}

pub returns-then-self-now-clause-marked : goal.returns-then-self-now-clause-marked
returns-then-self-now-clause-marked c = λ k.
    rw (dropped (goal.at.returns-then-self-now-clause-marked c).After-drop_ended)
    (marks_dropped c.self.inside.windows.items c.args.now c.self.invariant.order k
    ∙ ap (λ (ws : List WindowView). is_marked ws k && lasts c.args.now (end_of ws k)) c.self.view_is)

pub returns-then-self-now-clause-ends : goal.returns-then-self-now-clause-ends
returns-then-self-now-clause-ends c = λ k.
    rw (dropped (goal.at.returns-then-self-now-clause-ends c).After-drop_ended)
    (ends_dropped c.self.inside.windows.items c.args.now c.self.invariant.order k ∙ ap (λ (ws : List WindowView). later_than c.args.now (end_of ws k)) c.self.view_is)

-- none ends by then, and so all stay
all_stay : (c : Else-self-now) → filter (ends_after c.args.now) c.args.self.now ≡ c.args.self.now
all_stay c = subst (λ (ws : List WindowView). filter (ends_after c.args.now) ws ≡ ws) c.self.view_is
    (none_dropped c.self.inside.windows.items c.args.now c.self.inside.first_end (omega arith) c.self.invariant.ends)

in_order : (c : Else-self-now) → AreInOrder c.args.self.now
in_order c = subst AreInOrder c.self.view_is c.self.invariant.order

pub returns-else-self-now-clause-windows : goal.returns-else-self-now-clause-windows
returns-else-self-now-clause-windows c = sym (all_stay c)

pub returns-else-self-now-clause-marked : goal.returns-else-self-now-clause-marked
returns-else-self-now-clause-marked c = λ k.
    ap (λ (ws : List WindowView). is_marked ws k) (sym (all_stay c)) ∙ marks_dropped c.args.self.now c.args.now (in_order c) k

pub returns-else-self-now-clause-ends : goal.returns-else-self-now-clause-ends
returns-else-self-now-clause-ends c = λ k.
    ap (λ (ws : List WindowView). end_of ws k) (sym (all_stay c)) ∙ ends_dropped c.args.self.now c.args.now (in_order c) k
