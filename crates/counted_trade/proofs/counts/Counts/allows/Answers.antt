use Rattle.std.proofs.Common.{sym, ◌∙◌}
use Rattle.std.proofs.lemmas.Bool.{false≢true}
use Rattle.counted_trade.proofs.OrderLaws.{says_no}
use Rattle.counted_trade.proofs.counts.Counts.allows.Goals as goal

pub returns-then-not-allows_statement : goal.returns-then-not-allows_statement
returns-then-not-allows_statement c h stands =
    says_no _ (λ order. false≢true (sym c.if-not-allows_statement.true ∙ (c.allows_statement.ensures h stands).1 order.stated))

pub returns : goal.returns
returns c h stands = (
  λ ok. record { stated = (c.allows_statement.ensures h stands).0 c.if-not-allows_statement.false; paid = (c.allows_payment.ensures h stands).0 ok },
  λ order. (c.allows_payment.ensures h stands).1 order.paid,
)
