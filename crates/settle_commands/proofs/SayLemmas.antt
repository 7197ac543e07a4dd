-- What is said of a series that is stated, and of a statement that is paid.
use Rattle.std.proofs.Common.{◌≡◌, ℕ, List, [], ◌++◌, Result, Ok, subst, ◌∙◌, ap}
use Rattle.ledger_model.specs.Histories.{History}
use Rattle.house_core.specs.Tasks.{Task}
use Rattle.settle_core.specs.declared.claim.Statement.{Statement}
use Rattle.counted_trade.specs.Tasks.{TellsStated}
use Rattle.settle_commands.specs.Operations.{SaysStatement, paid_line, says_paid}

-- the statement behind an empty line, by the numbers of the words
pub says_statement : (h : History) (issuer said epoch told : ℕ) (before after : List ℕ) (task : Task) (g : History) (amount : ℕ) → issuer ≡ said → epoch ≡ told → before ≡ [] → TellsStated h issuer epoch before after task g amount → SaysStatement h said told after
says_statement h issuer said epoch told before after task g amount i e b tells =
    go (subst (λ (n : ℕ). TellsStated h said n [] after task g amount) e
    (subst (λ (n : ℕ). TellsStated h n epoch [] after task g amount) i
    (subst (λ (xs : List ℕ). TellsStated h issuer epoch xs after task g amount) b tells)))
  where
    go : TellsStated h said told [] after task g amount → SaysStatement h said told after
    go t = record { terms = t.terms; stand = t.stand; is = t.line }

-- the line of the statement that the input gives
pub says_payment : (input before after : List ℕ) (s : Statement) (r : Result Statement ℕ) → Ok s ≡ r → before ≡ [] → after ≡ before ++ paid_line s.payment → says_paid after r
says_payment input before after s r read none is = subst (λ (x : Result Statement ℕ). says_paid after x) read (is ∙ ap (λ (xs : List ℕ). xs ++ paid_line s.payment) none)
