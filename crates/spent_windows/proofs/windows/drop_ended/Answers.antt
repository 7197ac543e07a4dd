use Rattle.std.proofs.Common.{rules}
use Rattle.std.proofs.lemmas.Fn.{filter_same}
use Rattle.spent_windows.specs.Windows.{ends_after}
use Rattle.spent_windows.proofs.windows.drop_ended.Goals as goal

pub returns : goal.returns
returns c = filter_same _ (ends_after c.args.now) _ (λ x b f k. search rules) _ _ c.retain.ensures.filtered
