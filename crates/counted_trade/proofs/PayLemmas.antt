-- What there is to do by a statement that is judged.
use Rattle.std.proofs.Common.{◌≡◌, ℕ, List, Result, Ok, Err, sym, ap, subst, ◌∙◌}
use Rattle.std.specs.Prelude.{codes}
use Rattle.mc_requests.specs.declared.refusal.Refusal.{Refusal}
use Rattle.mc_requests.specs.declared.refusal.Refusal.TheVariants.{BadInput}
use Rattle.mc_records.specs.Entry.{Note}
use Rattle.ledger_model.specs.Histories.{History}
use Rattle.ledger_model.specs.Lines as lines
use Rattle.ledger_model.specs.Lines.{Stop}
use Rattle.house_core.specs.Tasks.{Task, Add, Stays, Refuse}
use Rattle.settle_core.specs.declared.claim.Payment.{Payment}
use Rattle.settle_core.specs.declared.claim.Statement.{Statement}
use Rattle.settle_core.specs.Claims.{payment_text}
use Rattle.settle_core.specs.Settlement.{IsInOrder}
use Rattle.settle_core.specs.Statements.{StatementFits, statement_input}
use Rattle.settle_core.specs.Tasks.{pay_lines}
use Rattle.settle_core.proofs.NoteOrders.{paid_note}
use Rattle.settle_core.proofs.TaskLaws.{paid_in_order}
use Rattle.counted_trade.specs.Tasks.{noted_task, pay_task, TellsPaid}

-- what is judged at the house time
pub at_time : (h : History) (time t : ℕ) (s : Statement) (r : Result Payment Stop) → time ≡ t → r ≡ pay_lines h time (Ok s) → r ≡ pay_lines h t (Ok s)
at_time h time t s r same is = is ∙ ap (λ (n : ℕ). pay_lines h n (Ok s)) same

abbrev as_task : ℕ → Result Payment Stop → Task
as_task t r = noted_task (codes "pay") payment_text t r

-- the input breaks the form of a statement
pub broken : (h : History) (t : ℕ) (input : List ℕ) (place line : ℕ) → Err place ≡ statement_input input → line ≡ place → Refuse (BadInput line) ≡ pay_task h t input
broken h t input place line is same =
    ap (λ (n : ℕ). Refuse (BadInput n)) same ∙ ap (λ (r : Result Statement ℕ). as_task t (pay_lines h t r)) is

module _ (h : History) (t : ℕ) (input : List ℕ) (s : Statement) (read : Ok s ≡ statement_input input) where
  by : (r : Result Payment Stop) → r ≡ pay_lines h t (Ok s) → as_task t r ≡ pay_task h t input
  by r is = ap (as_task t) is ∙ ap (λ (x : Result Statement ℕ). as_task t (pay_lines h t x)) read

  -- it is to be paid
  pub is_due : (p : Payment) → Ok p ≡ pay_lines h t (Ok s) → Add (Note t (codes "pay") (payment_text s.payment)) ≡ pay_task h t input
  is_due p is = ap (λ (q : Payment). as_task t (Ok q)) (paid_in_order h t s p (sym is)).0 ∙ by (Ok p) is

  -- its note is in order
  pub in_order : StatementFits s → (p : Payment) → Ok p ≡ pay_lines h t (Ok s) → IsInOrder h (Note t (codes "pay") (payment_text s.payment))
  in_order fits p is =
      subst (λ (q : Payment). IsInOrder h (Note t (codes "pay") (payment_text q))) (sym (paid_in_order h t s p (sym is)).0) (paid_note h t s p fits (sym is))

  -- it was paid before
  pub paid_again : (amount : ℕ) → Err (lines.Repeat amount) ≡ pay_lines h t (Ok s) → Stays ≡ pay_task h t input
  paid_again amount is = by (Err (lines.Repeat amount)) is

  -- it is refused
  pub refused : (f : Refusal) → Err (lines.Refuse f) ≡ pay_lines h t (Ok s) → Refuse f ≡ pay_task h t input
  refused f is = by (Err (lines.Refuse f)) is

  -- its amount is told
  pub tells_paid : (task : Task) (g : History) (amount : ℕ) → amount ≡ s.payment.claim.amount → TellsPaid input task g amount
  tells_paid task g amount is = record { statement = s; read = sym read; is = is }
