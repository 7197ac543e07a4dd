use Rattle.std.proofs.Common.{◌≡◌, drop}
use Rattle.std.specs.List.{list_any}
use Rattle.slow_wallet.specs.Slow.{are_alike, brought_at}
use Rattle.slow_wallet.proofs.came.brings_alike.Given as goal

abbrev pub invariant-loop-k : goal.invariant-loop-k
invariant-loop-k l = list_any (λ p. are_alike l.by p.text l.text) (drop l.k (brought_at l.h l.n)) ≡ list_any (λ p. are_alike l.by p.text l.text) (brought_at l.h l.n)
