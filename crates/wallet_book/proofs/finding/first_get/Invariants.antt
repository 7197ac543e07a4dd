use Rattle.std.proofs.Common.{◌≡◌, take, find, None}
use Rattle.wallet_book.specs.declared.kept.Kept.{Kept}
use Rattle.wallet_book.specs.Kept.{is_get_of}
use Rattle.wallet_book.proofs.finding.first_get.Given as goal

abbrev pub invariant-loop-k : goal.invariant-loop-k
invariant-loop-k l = find {X = Kept} (is_get_of l.vendor l.target) (take l.k-index l.kept) ≡ None
