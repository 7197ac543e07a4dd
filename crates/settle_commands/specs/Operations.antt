-- What the commands of settlement mean.
use Rattle.std.specs.Prelude.{◌≡◌, ℕ, List, [], ◌∷◌, ◌++◌, codes, Some, None, Result, Ok, Err}
use Rattle.scrip_form.specs.Issuing.{Issuing}
use Rattle.ledger_model.specs.Histories.{History}
use Rattle.ledger_model.specs.Houses.{terms_in}
use Rattle.operator_command.specs.Operations.{OperationView}
use Rattle.said_lines.specs.Lines.{ready}
use Rattle.settle_core.specs.declared.claim.Payment.{Payment}
use Rattle.settle_core.specs.declared.claim.Statement.{Statement}
use Rattle.settle_core.specs.Claims.{payment_text, statement_line}
use Rattle.settle_core.specs.Markets.{payment_at}
use Rattle.settle_core.specs.Statements.{statement_input}
use Rattle.counted_trade.specs.Tasks.{state_task, pay_task}
use Rattle.settle_commands.specs.declared.settling.StatementPayment.{StatementPayment}
use Rattle.settle_commands.specs.declared.settling.TheConstants.{MOST_LINES}
use Rattle.settle_commands.specs.declared.stating.SeriesStatement.{SeriesStatement}

-- ---- to state a series

-- the vendor's statement of a series
pub record SaysStatement (h : History) (issuer epoch : ℕ) (line : List ℕ) : Type 0 where
  pub terms : Issuing
  pub stand : terms_in h issuer ≡ Some terms
  pub is : line ≡ statement_line terms (payment_at h issuer epoch)

-- what was redeemed of a series, of an issuer and an epoch, is stated, and its statement is said
abbrev pub stating : ℕ → ℕ → OperationView
stating issuer epoch = record {
  input = None;
  asks = λ input h t task. task ≡ state_task h t issuer epoch;
  says = λ input h task line. SaysStatement h issuer epoch line;
  refusals = 33 ∷ 71 ∷ 74 ∷ [];
}

abbrev pub state_operation : SeriesStatement → OperationView
state_operation s = stating s.issuer s.epoch

-- its line is begun as an empty one
abbrev pub begins_statement : SeriesStatement → List ℕ → List ℕ → Type 0
begins_statement s site line = line ≡ []

-- ---- to pay a statement

-- `paid VENDOR ISSUER EPOCH AMOUNT`
abbrev pub paid_line : Payment → List ℕ
paid_line p = codes "paid " ++ payment_text p ++ codes "\n"

-- the line tells the payment of the statement that the input gives
abbrev pub says_paid : List ℕ → Result Statement ℕ → Type 0
says_paid line (Ok s) = line ≡ paid_line s.payment
says_paid line (Err place) = ⊥

-- a statement is paid, which the input gives as its one line
abbrev pub settling : OperationView
settling = record {
  input = Some MOST_LINES;
  asks = λ input h t task. task ≡ pay_task h t input;
  says = λ input h task line. says_paid line (statement_input input);
  refusals = 33 ∷ 43 ∷ 53 ∷ 74 ∷ 75 ∷ 76 ∷ 77 ∷ [];
}

abbrev pub settle_operation : StatementPayment → OperationView
settle_operation s = settling

-- its line is begun with room for all of it
abbrev pub begins_paid : StatementPayment → List ℕ → List ℕ → Type 0
begins_paid s site line = line ≡ ready []
