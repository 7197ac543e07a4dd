-- What the operations of a broker's operator mean.
use Rattle.std.specs.Prelude.{◌≡◌, ◌++◌, ℕ, List, [], length, Some, None, Result, Ok, Err, is_some, if◌then◌else◌, flat_map, codes, decimal, ◌∷◌}
use Rattle.scrip_form.specs.Issuing.{Issuing}
use Rattle.mc_requests.specs.declared.refusal.Refusal.TheVariants.{NoAccount, BadInput}
use Rattle.mc_records.specs.Chains.{has_switch}
use Rattle.mc_records.specs.Sizes.{size}
use Rattle.broker_accounts.specs.Accounts.{AccountView}
use Rattle.broker_ledger.specs.Ledger.{standings}
use Rattle.ledger_model.specs.Histories.{History}
use Rattle.ledger_model.specs.Houses.{site_name}
use Rattle.ledger_model.specs.Accounts.{key_in, balance, account_names, all_balances}
use Rattle.house_core.specs.Tasks.{Task, Stays, Refuse, after}
use Rattle.broker_core.specs.Moves.{moved_issuer}
use Rattle.broker_core.specs.Tasks.{account_task, deposit_task, withdraw_task, licence_task, stock_task, stock_lines, pieces_in, upgrade_licence_task}
use Rattle.licence_lines.specs.Licences.{IsTold}
use Rattle.broker_commands.specs.declared.operation.TheConstants.{MOST_LINES}
use Rattle.site_words.specs.declared.broker_operation.BrokerOperation.{BrokerOperation}
use Rattle.site_words.specs.declared.broker_operation.BrokerOperation.TheVariants as operations
use Rattle.site_words.specs.declared.broker_operation.Inquiry.{Inquiry}
use Rattle.site_words.specs.declared.broker_operation.LicenceUpgrading.{LicenceUpgrading}
use Rattle.site_words.specs.declared.broker_operation.Opening.{Opening}
use Rattle.site_words.specs.declared.broker_operation.Movement.{Movement}
use Rattle.site_words.specs.declared.broker_operation.Stocking.{Stocking}
use Rattle.said_lines.specs.Lines.{chain_words, metric, ready, site_metrics, upgrade_line, with_number}
use Rattle.operator_command.specs.Operations.{OperationView, chain_operation}

-- ---- the lines

abbrev pub account_line : List ℕ → List ℕ
account_line name = codes "account " ++ name ++ codes "\n"

-- a line up to its number, and the line
abbrev pub balance_words : List ℕ → List ℕ
balance_words name = codes "balance " ++ name ++ codes " "

abbrev pub stock_words : List ℕ → List ℕ
stock_words vendor = codes "stock " ++ vendor ++ codes " "

-- ---- what each means

-- an account is opened
abbrev pub account_operation : Opening → OperationView
account_operation o = record {
  input = None;
  asks = λ input h t task. task ≡ account_task h t o.account o.key;
  says = λ input h task line. line ≡ account_line o.account;
  refusals = 33 ∷ 60 ∷ [];
}

-- the balance of an account, by the history that stands when it was done
abbrev pub says_balance : List ℕ → List ℕ → History → Task → List ℕ → Type 0
says_balance name input h task line = line ≡ with_number (balance_words name) (balance (after task h) name)

-- money is paid into an account, or out of it
abbrev pub deposit_operation : Movement → OperationView
deposit_operation p = record {
  input = None;
  asks = λ input h t task. task ≡ deposit_task h t p.account p.amount p.reference;
  says = says_balance p.account;
  refusals = 33 ∷ 40 ∷ 45 ∷ 56 ∷ [];
}

abbrev pub withdraw_operation : Movement → OperationView
withdraw_operation p = record {
  input = None;
  asks = λ input h t task. task ≡ withdraw_task h t p.account p.amount p.reference;
  says = says_balance p.account;
  refusals = 33 ∷ 40 ∷ 42 ∷ 56 ∷ [];
}

-- A balance is told and nothing is entered; 40 NoAccount where there is no account of the name.
abbrev pub balance_task : History → List ℕ → Task
balance_task h name = if is_some (key_in h name) then Stays else Refuse NoAccount

abbrev pub balance_operation : Inquiry → OperationView
balance_operation i = record {
  input = None;
  asks = λ input h t task. task ≡ balance_task h i.account;
  says = says_balance i.account;
  refusals = 40 ∷ [];
}

-- A licence is taken, which the input gives as its one line: 53 BadInput tells the line at which it breaks.
abbrev pub taken : History → ℕ → Result (List ℕ × Issuing) ℕ → Task
taken h t (Ok x) = licence_task h t x.0 x.1
taken h t (Err line) = Refuse (BadInput line)

abbrev pub taken_line : List ℕ → ℕ → List ℕ
taken_line vendor issuer = codes "licence " ++ vendor ++ codes " " ++ decimal issuer ++ codes "\n"

-- its line tells the vendor and the issuer that the input gives
abbrev pub says_taken : List ℕ → Result (List ℕ × Issuing) ℕ → Type 0
says_taken line (Ok x) = line ≡ taken_line x.0 x.1.issuer
says_taken line (Err place) = ⊥

abbrev pub licence_operation : OperationView
licence_operation = record {
  input = Some MOST_LINES;
  asks = λ input h t task. (told : Result (List ℕ × Issuing) ℕ) × IsTold input told × (task ≡ taken h t told);
  says = λ input h task line. (told : Result (List ℕ × Issuing) ℕ) × IsTold input told × says_taken line told;
  refusals = 33 ∷ 53 ∷ 59 ∷ [];
}

-- pieces of a vendor are taken as stock, whose lines are the input
abbrev pub stock_operation : Stocking → OperationView
stock_operation s = record {
  input = Some MOST_LINES;
  asks = λ input h t task. task ≡ stock_task h t s.vendor input;
  says = λ input h task line. line ≡ with_number (stock_words s.vendor) (length (pieces_in (stock_lines s.vendor input)));
  refusals = 33 ∷ 53 ∷ 57 ∷ [];
}

-- the issuer of a vendor's licence is moved to the second version of scrip, or the broker's own
abbrev pub upgrade_operation : LicenceUpgrading → OperationView
upgrade_operation u = record {
  input = None;
  asks = λ input h t task. task ≡ upgrade_licence_task h t u.vendor u.from;
  says = λ input h task line. line ≡ upgrade_line u.vendor (moved_issuer h u.vendor) u.from;
  refusals = 33 ∷ 71 ∷ 72 ∷ 73 ∷ [];
}

-- the accounts, in the order in which they were opened: what each holds, and the order of its last draw
abbrev pub listed_account : AccountView → List ℕ
listed_account a = codes "account " ++ a.name ++ codes " " ++ decimal a.balance ++ codes " " ++ decimal a.last ++ codes "\n"

abbrev pub listed_accounts : List AccountView → List ℕ
listed_accounts accounts = flat_map listed_account accounts

abbrev pub list_operation : OperationView
list_operation = record {
  input = None;
  asks = λ input h t task. task ≡ Stays;
  says = λ input h task line. line ≡ listed_accounts (standings (after task h));
  refusals = [];
}

-- how the site stands: its book, how many accounts there are, and what they hold together
abbrev pub desk_metrics : History → List ℕ
desk_metrics h =
    site_metrics (site_name h) (length h) (size h) (has_switch h)
    ++ metric (site_name h) (codes "millicent_accounts") (codes "gauge") (codes "Accounts.") (length (account_names h))
    ++ metric (site_name h) (codes "millicent_balances") (codes "gauge") (codes "Units in all accounts.") (all_balances h)

abbrev pub status_operation : OperationView
status_operation = record {
  input = None;
  asks = λ input h t task. task ≡ Stays;
  says = λ input h task line. line ≡ desk_metrics (after task h);
  refusals = [];
}

-- ---- all of them

-- what an operation of a broker's operator means
abbrev pub operation_view : BrokerOperation → OperationView
operation_view (operations.Account o) = account_operation o
operation_view (operations.Deposit p) = deposit_operation p
operation_view (operations.Withdraw p) = withdraw_operation p
operation_view (operations.Balance i) = balance_operation i
operation_view (operations.Licence l) = licence_operation
operation_view (operations.Stock s) = stock_operation s
operation_view (operations.Upgrade u) = upgrade_operation u
operation_view (operations.Chain c) = chain_operation
operation_view (operations.List l) = list_operation
operation_view (operations.Status l) = status_operation

-- its line as far as it is known before the book is touched
abbrev pub begins : BrokerOperation → List ℕ → List ℕ → Type 0
begins (operations.Account o) site line = line ≡ account_line o.account
begins (operations.Deposit p) site line = line ≡ ready (balance_words p.account)
begins (operations.Withdraw p) site line = line ≡ ready (balance_words p.account)
begins (operations.Balance i) site line = line ≡ ready (balance_words i.account)
begins (operations.Licence l) site line = line ≡ ready []
begins (operations.Stock s) site line = line ≡ ready (stock_words s.vendor)
begins (operations.Upgrade u) site line = line ≡ ready []
begins (operations.Chain c) site line = line ≡ ready (chain_words site)
begins (operations.List l) site line = line ≡ []
begins (operations.Status l) site line = line ≡ []
