use Rattle.std.proofs.Common.{◌≡◌, ℕ, Option, drop}
use Rattle.audit_sums.specs.Learned.{accepted_of}
use Rattle.audit_search.specs.Known.{knows}
use Rattle.audit_search.specs.Strange.{not_in, first_in}
use Rattle.tree_search.proofs.check.first_stranger.Given as goal

abbrev pub invariant-loop-row : goal.invariant-loop-row
invariant-loop-row l =
    first_in (not_in (knows l.known)) (λ (o : Option ℕ). o) (drop l.row-index (accepted_of l.book)) l.left ≡ first_in (not_in (knows l.known)) (λ (o : Option ℕ). o) (accepted_of l.book) l.fn.told
