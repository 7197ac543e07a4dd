-- What there is to do to state a series and to pay a statement, and what is answered.
use Rattle.std.specs.Prelude.{◌≡◌, ℕ, List, ◌++◌, codes, Option, Some, None, Result, Ok, Err}
use Rattle.scrip_form.specs.Issuing.{Issuing}
use Rattle.mc_requests.specs.declared.refusal.Refusal.{Refusal}
use Rattle.mc_records.specs.Entry.{Note}
use Rattle.ledger_model.specs.Histories.{History}
use Rattle.ledger_model.specs.Houses.{terms_in}
use Rattle.ledger_model.specs.Lines as lines
use Rattle.ledger_model.specs.Lines.{Stop}
use Rattle.house_core.specs.declared.outcome.Outcome.{Outcome}
use Rattle.house_core.specs.declared.outcome.Outcome.TheVariants as outcomes
use Rattle.house_core.specs.Tasks.{Task, Add, Stays, Refuse}
use Rattle.settle_core.specs.declared.claim.Payment.{Payment}
use Rattle.settle_core.specs.declared.claim.Statement.{Statement}
use Rattle.settle_core.specs.Claims.{claim_text, payment_text, statement_line}
use Rattle.settle_core.specs.Settlement.{redeemed}
use Rattle.settle_core.specs.Statements.{statement_input}
use Rattle.settle_core.specs.Markets.{payment_at}
use Rattle.settle_core.specs.Tasks.{state_lines, pay_lines}

-- ---- what there is to do

-- a note is added where the lines come to its text, under a tag; what stands stays
abbrev pub noted_task : {A : Type 0} → List ℕ → (A → List ℕ) → ℕ → Result A Stop → Task
noted_task tag text t (Ok x) = Add (Note t tag (text x))
noted_task tag text t (Err (lines.Refuse f)) = Refuse f
noted_task tag text t (Err (lines.Repeat amount)) = Stays

-- to state what was redeemed of a series
abbrev pub state_task : History → ℕ → ℕ → ℕ → Task
state_task h t issuer epoch = noted_task (codes "stated") claim_text t (state_lines h t issuer epoch)

-- to pay the statement that an input is
abbrev pub pay_task : History → ℕ → List ℕ → Task
pay_task h t input = noted_task (codes "pay") payment_text t (pay_lines h t (statement_input input))

-- ---- what is judged of a statement

-- the payment is to be made; nothing, where the same was made before; or it is refused
abbrev pub judged : ℕ → Result (Option Payment) Refusal → Result Payment Stop
judged amount (Ok (Some p)) = Ok p
judged amount (Ok None) = Err (lines.Repeat amount)
judged amount (Err f) = Err (lines.Refuse f)

-- ---- what is answered

-- the amount that was redeemed of a series, and its statement behind what stood in a list
pub record TellsStated (h : History) (issuer epoch : ℕ) (before after : List ℕ) (task : Task) (g : History) (amount : ℕ) : Type 0 where
  pub terms : Issuing
  pub stand : terms_in h issuer ≡ Some terms
  pub is : amount ≡ redeemed h issuer epoch
  pub line : after ≡ before ++ statement_line terms (payment_at h issuer epoch)

-- the amount of the statement that an input is
pub record TellsPaid (input : List ℕ) (task : Task) (g : History) (amount : ℕ) : Type 0 where
  pub statement : Statement
  pub read : statement_input input ≡ Ok statement
  pub is : amount ≡ statement.payment.claim.amount

-- a list is as it was where nothing was done
abbrev pub KeepsList : {D T A : Type 0} → List ℕ → List ℕ → Outcome D T A → Type 0
KeepsList before after (outcomes.Done x a) = Unit {0}
KeepsList before after _ = after ≡ before
