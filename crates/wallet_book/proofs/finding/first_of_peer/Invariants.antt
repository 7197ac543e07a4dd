use Rattle.std.proofs.Common.{◌≡◌, take, find, None, bytes_eq}
use Rattle.wallet_book.specs.declared.kept.Kept.{Kept}
use Rattle.wallet_book.proofs.finding.first_of_peer.Given as goal

abbrev pub invariant-loop-k : goal.invariant-loop-k
invariant-loop-k l = find {X = Kept} (λ k. bytes_eq k.peer l.peer) (take l.k-index l.kept) ≡ None
