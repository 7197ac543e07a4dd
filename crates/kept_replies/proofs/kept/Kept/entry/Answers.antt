use Rattle.std.proofs.Common.{ap, ◌∙◌}
use Rattle.kept_replies.specs.Kept.{with_number}
use Rattle.kept_replies.proofs.kept.Kept.entry.Goals as goal

pub returns-clause-reply : goal.returns-clause-reply
returns-clause-reply c = c.entry_of.ensures.reply ∙ ap (with_number c.args.self.now.replies) c.of.ensures

pub returns-clause-none : goal.returns-clause-none
returns-clause-none c = rw c.of.ensures at c.entry_of.ensures.none
