use Rattle.std.proofs.Common.{◌≡◌, take, find, None}
use Rattle.std.specs.Prelude.{◌==◌}
use Rattle.wallet_book.specs.declared.kept.Kept.{Kept}
use Rattle.wallet_book.proofs.parts.Parts.find.Given as goal

abbrev pub invariant-loop-k : goal.invariant-loop-k
invariant-loop-k l = find {X = Kept} (λ k. l.number == k.number) (take l.k-index l.self.kept.items) ≡ None
