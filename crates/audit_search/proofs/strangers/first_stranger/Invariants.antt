use Rattle.std.proofs.Common.{◌≡◌, drop}
use Rattle.audit_sums.specs.Learned.{accepted_of, sales_of}
use Rattle.audit_search.specs.Known.{knows}
use Rattle.audit_search.specs.Strange.{not_in, not_minted, first_in}
use Rattle.audit_search.proofs.strangers.first_stranger.Given as goal

abbrev pub invariant-loop-row : goal.invariant-loop-row
invariant-loop-row l =
    first_in (not_in (knows l.handed)) (not_minted l.shops.list.items) (drop l.row-index (accepted_of l.book)) l.sales
    ≡ first_in (not_in (knows l.handed)) (not_minted l.shops.list.items) (accepted_of l.book) (sales_of l.book)
