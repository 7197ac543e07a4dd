-- What an account ledger keeps of a history.
use Rattle.std.specs.Prelude.{◌≡◌, ℕ, ◌+◌, ◌<◌, ◌≤◌, Bool, false, if◌then◌else◌, nat_le, IsFalse, IsNone, IsSome, IfSome, List, [], map, find, length, is_some, bytes_eq, sum_by, slice_get, Option, Some, None, option_map, option_and_then, unwrap_or, vec_len, vec_capacity}
use Rattle.mc_base.specs.declared.amount.TheConstants.Amount.{MOST}
use Rattle.mc_requests.specs.Errands.{errand_of}
use Rattle.mc_records.specs.Entry.{Deed, credit, Entry, Accept, Mint, Account, Deposit, Withdraw, Draw, Fits}
use Rattle.ledger_model.specs.Histories.{History}
use Rattle.ledger_model.specs.Orders as model
use Rattle.ledger_model.specs.Orders.{order_of}
use Rattle.ledger_model.specs.Pieces.{reference_of, has_reference}
use Rattle.ledger_model.specs.Accounts.{account_in, key_in, account_names, Movement, credited_for, amount_to, amount_from, balance, last_order}
use Rattle.mc_records.specs.declared.ranges.TheConstants.{MOST_IN_ACCOUNT}
use Rattle.name_places.specs.NamePlaces.{NamePlacesView, place_of}
use Rattle.broker_accounts.specs.Accounts.{AccountView}
use Rattle.broker_ledger.specs.declared.order.Order.{Order}
use Rattle.broker_ledger.specs.declared.payment.Payment.{Payment}
use Rattle.broker_ledger.specs.declared.payment.Payment.TheVariants as payments
use Rattle.broker_ledger.specs.declared.broker_ledger.Standing.{Standing}
use Rattle.broker_ledger.specs.declared.broker_ledger.AccountLedger.{AccountLedger}

-- ---- what a history says

-- what a history says of the account of a name
abbrev pub standing : History → List ℕ → AccountView
standing h name = record { name = name; key = unwrap_or (key_in h name) []; balance = balance h name; last = last_order h name }

-- the accounts of a history, in the order in which they were opened
abbrev pub standings : History → List AccountView
standings h = map (standing h) (account_names h)

-- what an operator put into an account or paid out of it by an entry
abbrev pub payment_in : Entry → Option Payment
payment_in (Deposit m name amount reference) = Some (payments.Deposit name amount)
payment_in (Withdraw m name amount reference) = Some (payments.Withdrawal name amount)
payment_in _ = None

-- whether an entry has a reference
abbrev pub is_under : List ℕ → Entry → Bool
is_under reference e = unwrap_or (option_map (λ r. bytes_eq r reference) (reference_of e)) false

-- the payment under a reference
abbrev pub payment_under : History → List ℕ → Option Payment
payment_under h reference = option_and_then payment_in (find (is_under reference) h)

-- ---- what is kept of it

-- nothing was put into the account of a name or taken out of it
pub record IsUntouched (h : History) (name : List ℕ) : Type 0 where
  pub into : sum_by (amount_to name) h ≡ 0
  pub out_of : sum_by (amount_from name) h ≡ 0
  pub order : last_order h name ≡ 0

-- Accounts are what a history says. A name without an account has no money, and no account was overdrawn.
pub record ShowsAccounts (accounts : List AccountView) (h : History) : Type 0 where
  pub all_accounts : standings h ≡ accounts
  pub untouched : (name : List ℕ) → account_in h name ≡ None → IsUntouched h name
  pub covered : (name : List ℕ) → sum_by (amount_from name) h ≤ sum_by (amount_to name) h

-- Payments are what a history says, by the places of their references.
pub record ShowsPayments (references : NamePlacesView) (payments : List Payment) (h : History) : Type 0 where
  pub all_references : (reference : List ℕ) → has_reference h reference ≡ is_some (place_of references reference)
  pub of_payments : (reference : List ℕ) → payment_under h reference ≡ option_and_then (slice_get payments) (place_of references reference)
  pub within : (reference : List ℕ) → IfSome (place_of references reference) (λ i. i < length payments)

-- an account ledger represents a history
pub record Represents (a : AccountLedger) (h : History) : Type 0 where
  pub of_accounts : ShowsAccounts a.accounts.accounts h
  pub payments' : ShowsPayments a.references a.payments.items h

-- ---- room

-- room for a payment under a reference
pub record HasRoomUnder (a : AccountLedger) (reference : List ℕ) : Type 0 where
  pub place : vec_len a.payments < vec_capacity a.payments
  pub name : a.references.room ≡ Some reference

-- there is room for what an entry adds
abbrev pub HasRoom : AccountLedger → Entry → Type 0
HasRoom a (Account m name key) = a.accounts.room ≡ Some name
HasRoom a (Deposit m name amount reference) = HasRoomUnder a reference
HasRoom a (Withdraw m name amount reference) = HasRoomUnder a reference
HasRoom a _ = Unit {0}

-- ---- what it is told

-- an entry that opens an account, or pays in or out, is in its ranges; of others nothing is asked
abbrev pub PaymentFits : Entry → Type 0
PaymentFits (Account m name key) = Fits (Account m name key)
PaymentFits (Deposit m name amount reference) = Fits (Deposit m name amount reference)
PaymentFits (Withdraw m name amount reference) = Fits (Withdraw m name amount reference)
PaymentFits _ = Unit {0}

-- What has to hold of the accounts for an entry of an operator to come next: an account is new; money goes into an
-- account that is there, which holds 2^60 units at most with it, or out of one that holds as much; and a reference is
-- new. A mint is no entry of a broker.
abbrev pub AccountsAllow : History → Entry → Type 0
AccountsAllow h (Account m name key) = IsNone (account_in h name)
AccountsAllow h (Deposit m name amount reference) = IsSome (account_in h name) × IsFalse (has_reference h reference) × (balance h name + amount ≤ MOST_IN_ACCOUNT)
AccountsAllow h (Withdraw m name amount reference) = IsSome (account_in h name) × IsFalse (has_reference h reference) × (amount ≤ balance h name)
AccountsAllow h (Mint m reference count value first) = ⊥
AccountsAllow h _ = Unit {0}

-- What holds of the accounts where a credit or a draw was answered: they are there, and hold 2^60 units at most with
-- the credit, which is the value of a piece, and as much as the draw takes.
abbrev pub AccountsAnswer : History → Entry → Type 0
AccountsAnswer h (Accept m scrip target sign price change (credit after)) =
    IfSome (credited_for (errand_of target) price) (λ x. IsSome (account_in h x.account) × (balance h x.account + x.amount ≤ MOST_IN_ACCOUNT) × (x.amount ≤ MOST))
AccountsAnswer h (Draw m target sign drawn) =
    IfSome (order_of target) (λ o. IsSome (account_in h o.account) × (last_order h o.account < o.order) × (o.amount ≤ balance h o.account))
AccountsAnswer h _ = Unit {0}

-- what an Accept entry with a deed put into an account, for a target at a price
abbrev pub credit_by : Deed → List ℕ → ℕ → Option Movement
credit_by (credit after) target price = credited_for (errand_of target) price
credit_by _ target price = None

-- a movement that is an amount
abbrev pub credit_within : Option Movement → Option Movement
credit_within (Some x) = if nat_le x.amount MOST then Some x else None
credit_within None = None

-- an order, as the ledger has it
abbrev pub order_view : Order → model.Order
order_view o = record { account = o.account; order = o.order; amount = o.amount }

-- ---- what it is asked

-- what stands in the account of a name, where there is one
abbrev pub standing_in : History → List ℕ → Option Standing
standing_in h name = option_map (λ key. record { key = key; balance = balance h name; last = last_order h name }) (key_in h name)
