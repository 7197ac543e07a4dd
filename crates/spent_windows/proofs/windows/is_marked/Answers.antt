use Rattle.std.proofs.Common.{ℕ, sym, ap, ◌∙◌, subst}
use Rattle.spent_windows.specs.Windows.{has_mark}
use Rattle.spent_windows.specs.Store.{IsAt, IsGapFor}
use Rattle.spent_windows.proofs.MarkLaws.{marked_there, unmarked_gap}
use Rattle.spent_windows.proofs.windows.is_marked.Goals as goal

pub returns-in-Ok-clause-marked : goal.returns-in-Ok-clause-marked
returns-in-Ok-clause-marked g c =
    c.has.ensures ∙ ap (has_mark c.index-windows-place.result) c.bit_of.ensures
    ∙ sym (marked_there c.args.windows.now c.args.id c.in-Ok.place c.index-windows-place.result c.requires (subst (λ (n : ℕ). IsAt c.args.windows.now n c.in-Ok.place) c.window_of.ensures c.in-Ok.ensures.found) c.index-windows-place.is)

pub returns-in-Err-clause-marked : goal.returns-in-Err-clause-marked
returns-in-Err-clause-marked g c =
    sym (unmarked_gap c.args.windows.now c.args.id c.in-Err.field-0 (subst (λ (n : ℕ). IsGapFor c.args.windows.now n c.in-Err.field-0) c.window_of.ensures c.in-Err.ensures.gap))
