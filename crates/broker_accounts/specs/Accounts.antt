-- Accounts, without how they are found.
use Rattle.std.specs.Prelude.{ℕ, ◌+◌, ◌-◌, nat_lt, nat_le, Bool, List, [], ◌∷◌, map, find, sum_by, bytes_eq, if◌then◌else◌, IsFalse, Option, Some, None}
use Rattle.std.specs.List.{list_any}
use Rattle.mc_records.specs.declared.ranges.TheConstants.{MOST_IN_ACCOUNT}
use Rattle.mc_requests.specs.declared.refusal.Refusal.{Refusal}
use Rattle.mc_requests.specs.declared.refusal.Refusal.TheVariants.{NoAccount, StaleOrder, PoorAccount, AccountFull}

-- one account: its name and its key, what stands in it, and its last order, 0 before the first
pub record AccountView : Type 0 where
  pub name : List ℕ
  pub key : List ℕ
  pub balance : ℕ
  pub last : ℕ

-- the accounts in the order in which they were opened, and the name for which there is room
pub record AccountsView : Type 0 where
  pub accounts : List AccountView
  pub room : Option (List ℕ)

-- whether an account has a name
abbrev pub is_named : List ℕ → AccountView → Bool
is_named name a = bytes_eq name a.name

-- the account of a name
abbrev pub account_of : List AccountView → List ℕ → Option AccountView
account_of accounts name = find (is_named name) accounts

-- the sum of all balances
abbrev pub balances : List AccountView → ℕ
balances accounts = sum_by (λ a. a.balance) accounts

-- no two accounts have one name
abbrev pub AreNamedApart : List AccountView → Type 0
AreNamedApart [] = Unit {0}
AreNamedApart (a ∷ rest) = IsFalse (list_any (is_named a.name) rest) × AreNamedApart rest

-- ---- an account after a call

-- an account that was just opened
abbrev pub new_account : List ℕ → List ℕ → AccountView
new_account name key = record { name = name; key = key; balance = 0; last = 0 }

-- an account after so much was put into it
abbrev pub credited : ℕ → AccountView → AccountView
credited n a = record a { balance = a.balance + n }

-- an account after so much was withdrawn from it
abbrev pub debited : ℕ → AccountView → AccountView
debited n a = record a { balance = a.balance - n }

-- an account after so much was drawn from it under an order
abbrev pub drawn : ℕ → ℕ → AccountView → AccountView
drawn order n a = record a { balance = a.balance - n; last = order }

-- the accounts, with the account of a name changed
abbrev pub changed : List ℕ → (AccountView → AccountView) → List AccountView → List AccountView
changed name change accounts = map (λ a. if is_named name a then change a else a) accounts

-- ---- why a call is refused, by the account of the name, if there is one; None where it is not

-- of so much that is put in
abbrev pub put_refusal : ℕ → Option AccountView → Option Refusal
put_refusal n None = Some NoAccount
put_refusal n (Some a) = if nat_lt MOST_IN_ACCOUNT (a.balance + n) then Some (AccountFull a.balance) else None

-- of a withdrawal of so much
abbrev pub withdraw_refusal : ℕ → Option AccountView → Option Refusal
withdraw_refusal n None = Some NoAccount
withdraw_refusal n (Some a) = if nat_lt a.balance n then Some (PoorAccount a.balance) else None

-- of a draw of so much under an order, which must be above the last one
abbrev pub draw_refusal : ℕ → ℕ → Option AccountView → Option Refusal
draw_refusal order n None = Some NoAccount
draw_refusal order n (Some a) = if nat_le order a.last then Some (StaleOrder a.last) else withdraw_refusal n (Some a)
