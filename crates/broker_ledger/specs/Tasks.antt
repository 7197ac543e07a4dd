-- What there is to do by a call of a broker's operator.
use Rattle.std.specs.Prelude.{ℕ, ◌==◌, ◌&&◌, Bool, false, if◌then◌else◌, List, find, bytes_eq, Option, Some, None, option_map, unwrap_or, Result, Ok, Err}
use Rattle.mc_records.specs.declared.record.Record.{Record}
use Rattle.mc_requests.specs.declared.refusal.Refusal.{Refusal}
use Rattle.mc_requests.specs.declared.refusal.Refusal.TheVariants.{RefUsed, AccountTaken}
use Rattle.mc_records.specs.Views.{entry}
use Rattle.mc_records.specs.Entry.{Entry, Account, Deposit, Withdraw}
use Rattle.ledger_model.specs.Histories.{History}
use Rattle.ledger_model.specs.Accounts.{key_in}
use Rattle.broker_accounts.specs.Accounts.{AccountView, put_refusal, withdraw_refusal}
use Rattle.broker_ledger.specs.declared.payment.Payment.{Payment}
use Rattle.broker_ledger.specs.declared.payment.Payment.TheVariants as payments
use Rattle.broker_ledger.specs.Ledger.{standing, payment_in, is_under}

-- the entry to add; no entry, where the same stands; or why the call is refused
abbrev pub Task : Type 0
Task = Result (Option Entry) Refusal

-- a task of the program, without where the texts of its record lie in memory
abbrev pub task_of : Result (Option Record) Refusal → Task
task_of (Ok r) = Ok (option_map entry r)
task_of (Err f) = Err f

-- ---- accounts

-- An account is opened under a new name. Under a name that stands with this key nothing is added; 60 AccountTaken
-- where it stands with another.
abbrev pub opened : Entry → List ℕ → Option (List ℕ) → Task
opened e key None = Ok (Some e)
opened e key (Some k) = if bytes_eq k key then Ok None else Err AccountTaken

abbrev pub account_task : History → ℕ → List ℕ → List ℕ → Task
account_task h t name key = opened (Account t name key) key (key_in h name)

-- ---- payments

-- whether a payment is the deposit, or the withdrawal, of so much in the account of a name
abbrev pub is_deposit : List ℕ → ℕ → Payment → Bool
is_deposit name amount (payments.Deposit a n) = bytes_eq a name && n == amount
is_deposit name amount (payments.Withdrawal a n) = false

abbrev pub is_withdrawal : List ℕ → ℕ → Payment → Bool
is_withdrawal name amount (payments.Deposit a n) = false
is_withdrawal name amount (payments.Withdrawal a n) = bytes_eq a name && n == amount

-- The reference is looked at first. Under one that stands with this very payment nothing is added; 56 RefUsed where
-- it stands with anything else.
abbrev pub under_reference : List ℕ → (Payment → Bool) → Option Entry → Task → Task
under_reference reference same None new = new
under_reference reference same (Some e) new =
    if unwrap_or (option_map same (payment_in e)) false then Ok None else Err (RefUsed reference)

-- an entry is added where the account does not refuse it
abbrev pub unless_refused : Entry → Option Refusal → Task
unless_refused e None = Ok (Some e)
unless_refused e (Some f) = Err f

-- the account of a name, as the history has it
abbrev pub account_now : History → List ℕ → Option AccountView
account_now h name = option_map (λ key. standing h name) (key_in h name)

-- Of a deposit: else 40 NoAccount where there is no such account, and 45 AccountFull with the balance where that
-- would pass 2^60.
abbrev pub deposit_task : History → ℕ → List ℕ → ℕ → List ℕ → Task
deposit_task h t name amount reference =
    under_reference reference (is_deposit name amount) (find (is_under reference) h)
    (unless_refused (Deposit t name amount reference) (put_refusal amount (account_now h name)))

-- Of a withdrawal: else 40 NoAccount where there is no such account, and 42 PoorAccount with the balance where that is
-- below the amount.
abbrev pub withdraw_task : History → ℕ → List ℕ → ℕ → List ℕ → Task
withdraw_task h t name amount reference =
    under_reference reference (is_withdrawal name amount) (find (is_under reference) h)
    (unless_refused (Withdraw t name amount reference) (withdraw_refusal amount (account_now h name)))
