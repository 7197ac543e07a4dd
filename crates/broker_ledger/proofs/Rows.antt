-- The worked rows of an operator by computation: 1000 units are put into the account of ann under a reference.
use Rattle.std.proofs.Common.{◌≡◌, ℕ, ◌-◌, ◌^◌, List, [], ◌∷◌, Some, None, Ok, Err, refl}
use Rattle.std.specs.Prelude.{codes}
use Rattle.mc_requests.specs.declared.refusal.Refusal.TheVariants.{NoAccount, PoorAccount, AccountFull, RefUsed, AccountTaken}
use Rattle.mc_records.specs.Entry.{Account, Deposit, Withdraw}
use Rattle.ledger_model.specs.Histories.{History}
use Rattle.broker_ledger.specs.Tasks.{account_task, deposit_task, withdraw_task}

abbrev ann : List ℕ
ann = codes "ann"

abbrev r1 : List ℕ
r1 = codes "r1"

abbrev r2 : List ℕ
r2 = codes "r2"

abbrev h : History
h = Account 1000000 ann (codes "key") ∷ Deposit 1000000 ann 1000 r1 ∷ []

same_account : account_task h 1000001 ann (codes "key") ≡ Ok None
same_account = refl

other_key : account_task h 1000001 ann (codes "yek") ≡ Err AccountTaken
other_key = refl

new_account : account_task h 1000001 (codes "bob") (codes "key") ≡ Ok (Some (Account 1000001 (codes "bob") (codes "key")))
new_account = refl

same_deposit : deposit_task h 1000001 ann 1000 r1 ≡ Ok None
same_deposit = refl

other_amount : deposit_task h 1000001 ann 5 r1 ≡ Err (RefUsed r1)
other_amount = refl

no_deposit : withdraw_task h 1000001 ann 1000 r1 ≡ Err (RefUsed r1)
no_deposit = refl

nobody : deposit_task h 1000001 (codes "bob") 5 r2 ≡ Err NoAccount
nobody = refl

above : deposit_task h 1000001 ann (2 ^ 60 - 999) r2 ≡ Err (AccountFull 1000)
above = refl

filled : deposit_task h 1000001 ann (2 ^ 60 - 1000) r2 ≡ Ok (Some (Deposit 1000001 ann (2 ^ 60 - 1000) r2))
filled = refl

too_much : withdraw_task h 1000001 ann 1001 r2 ≡ Err (PoorAccount 1000)
too_much = refl

emptied : withdraw_task h 1000001 ann 1000 r2 ≡ Ok (Some (Withdraw 1000001 ann 1000 r2))
emptied = refl
