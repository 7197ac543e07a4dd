use Rattle.std.proofs.Common.{◌≡◌, ℕ, Bor, List, map, take}
use Rattle.mc_top.proofs.naming.audited.Given as goal

-- the books so far
abbrev pub invariant-loop-book : goal.invariant-loop-book
invariant-loop-book l = l.lists.items ≡ map (λ (book : Bor (List ℕ)). book.now) (take l.book-index l.books)
