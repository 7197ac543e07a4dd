-- The accounts of a broker.
use Rattle.std.specs.Prelude.{ℕ, ◌-◌, Bool, false, if◌then◌else◌, bytes_eq, List, [], unwrap_or, Option, Some, None, option_map, option_and_then, find, filter_map, sum_by}
use Rattle.std.specs.List.{last_or}
use Rattle.mc_requests.specs.Errands.{Errand, pay_in, errand_of}
use Rattle.mc_records.specs.Entry.{credit, Entry, Accept, Account, Deposit, Withdraw, Draw}
use Rattle.ledger_model.specs.Histories.{History}
use Rattle.ledger_model.specs.Orders.{Order, order_of}

-- ---- which accounts there are

-- whether an entry opens the account of a name
abbrev pub is_account_of : List ℕ → Entry → Bool
is_account_of name (Account m n key) = bytes_eq n name
is_account_of name _ = false

-- the Account entry of a name
abbrev pub account_in : History → List ℕ → Option Entry
account_in h name = find (is_account_of name) h

abbrev pub account_key : Entry → List ℕ
account_key (Account m name key) = key
account_key _ = []

-- the key of an account, where there is one of that name
abbrev pub key_in : History → List ℕ → Option (List ℕ)
key_in h name = option_map account_key (account_in h name)

-- the key of the account of a draw
abbrev pub order_key : History → Option Order → Option (List ℕ)
order_key h order = option_and_then (λ o. key_in h o.account) order

-- the name that an entry opens an account for
abbrev pub account_name : Entry → Option (List ℕ)
account_name (Account m name key) = Some name
account_name _ = None

-- the names of the accounts, in the order in which they were opened
abbrev pub account_names : History → List (List ℕ)
account_names h = filter_map account_name h

-- ---- what stands in them

-- money that moves into an account or out of it
pub record Movement : Type 0 where
  pub account : List ℕ
  pub amount : ℕ

abbrev pub movement : List ℕ → ℕ → Movement
movement account amount = record { account = account; amount = amount }

-- What an Accept entry that gave credit for a target put into an account. A credit counts by the entry's price,
-- which is the value of the whole piece.
abbrev pub credited_for : Option Errand → ℕ → Option Movement
credited_for (Some (pay_in account)) price = Some (movement account price)
credited_for _ price = None

-- what an entry put into an account: a deposit, or a credit
abbrev pub put_in : Entry → Option Movement
put_in (Deposit m name amount reference) = Some (movement name amount)
put_in (Accept m scrip target sign price change (credit after)) = credited_for (errand_of target) price
put_in _ = None

-- what an entry took out of an account: a withdrawal, or a draw
abbrev pub taken_out : Entry → Option Movement
taken_out (Withdraw m name amount reference) = Some (movement name amount)
taken_out (Draw m target sign drawn) = option_map (λ o. movement o.account o.amount) (order_of target)
taken_out _ = None

-- how much of a movement is of the account of a name
abbrev pub moved : List ℕ → Option Movement → ℕ
moved name (Some x) = if bytes_eq x.account name then x.amount else 0
moved name None = 0

-- what an entry put into the account of a name, and what it took out
abbrev pub amount_to : List ℕ → Entry → ℕ
amount_to name e = moved name (put_in e)

abbrev pub amount_from : List ℕ → Entry → ℕ
amount_from name e = moved name (taken_out e)

-- the balance of an account: its deposits and credits, less its withdrawals and draws
abbrev pub balance : History → List ℕ → ℕ
balance h name = sum_by (amount_to name) h - sum_by (amount_from name) h

-- the sum of all balances
abbrev pub all_balances : History → ℕ
all_balances h = sum_by (balance h) (account_names h)

-- ---- orders

abbrev pub order_at : List ℕ → Option Order → Option ℕ
order_at name (Some o) = if bytes_eq o.account name then Some o.order else None
order_at name None = None

-- the order of an entry that drew from the account of a name
abbrev pub order_drawn : List ℕ → Entry → Option ℕ
order_drawn name (Draw m target sign drawn) = order_at name (order_of target)
order_drawn name _ = None

-- the orders of the draws of an account
abbrev pub orders_of : History → List ℕ → List ℕ
orders_of h name = filter_map (order_drawn name) h

-- the last order of an account, 0 before the first
abbrev pub last_order : History → List ℕ → ℕ
last_order h name = unwrap_or (last_or None (orders_of h name)) 0
