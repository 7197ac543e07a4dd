use Rattle.std.proofs.Common.{◌≡◌}
use Rattle.kept_replies.proofs.together.put_together.Given as goal

-- what is kept is as it was
abbrev pub invariant-loop-at : goal.invariant-loop-at
invariant-loop-at l = l.replies.items ≡ l.initial.replies.items
