-- The worked rows of an account by computation: 1000 units, from which 300 are drawn under order 5.
use Rattle.std.proofs.Common.{◌≡◌, ℕ, ◌-◌, ◌^◌, List, [], ◌∷◌, Some, None, refl}
use Rattle.std.specs.Prelude.{codes, option_map}
use Rattle.mc_requests.specs.declared.refusal.Refusal.TheVariants.{NoAccount, StaleOrder, PoorAccount, AccountFull}
use Rattle.broker_accounts.specs.Accounts.{AccountView, account_of, balances, changed, new_account, credited, debited, drawn, put_refusal, withdraw_refusal, draw_refusal}

abbrev ann : List ℕ
ann = codes "ann"

abbrev others : List AccountView
others = new_account (codes "bank") [] ∷ []

abbrev filled : List AccountView
filled = changed ann (credited 1000) (new_account ann [] ∷ others)

abbrev left : List AccountView
left = changed ann (drawn 5 300) filled

drawn_once : draw_refusal 5 300 (account_of filled ann) ≡ None
drawn_once = refl

balance_left : option_map (λ a. a.balance) (account_of left ann) ≡ Some 700
balance_left = refl

order_below : draw_refusal 4 10 (account_of left ann) ≡ Some (StaleOrder 5)
order_below = refl

same_order : draw_refusal 5 300 (account_of left ann) ≡ Some (StaleOrder 5)
same_order = refl

too_much : draw_refusal 6 701 (account_of left ann) ≡ Some (PoorAccount 700)
too_much = refl

nobody : draw_refusal 1 1 (account_of left (codes "bob")) ≡ Some NoAccount
nobody = refl

withdrawn : option_map (λ a. a.balance) (account_of (changed ann (debited 1) left) ann) ≡ Some 699
withdrawn = refl

too_much_withdrawn : withdraw_refusal 700 (account_of (changed ann (debited 1) left) ann) ≡ Some (PoorAccount 699)
too_much_withdrawn = refl

sum_left : balances (changed ann (debited 1) left) ≡ 699
sum_left = refl

full : put_refusal 1 (Some (credited (2 ^ 60 - 1) (new_account ann []))) ≡ None
full = refl

over_full : put_refusal 2 (Some (credited (2 ^ 60 - 1) (new_account ann []))) ≡ Some (AccountFull (2 ^ 60 - 1))
over_full = refl
