-- The sum of all balances.
use Rattle.std.proofs.Common.{◌≡◌, ℕ, List, [], ◌∷◌, map, refl, arith}
use Rattle.std.specs.Prelude.{sum_by}
use Rattle.std.proofs.lemmas.List.Sums.{sum_by-cons}
use Rattle.ledger_model.specs.Histories.{History}
use Rattle.ledger_model.specs.Accounts.{balance}
use Rattle.broker_accounts.specs.Accounts.{AccountView, balances}
use Rattle.broker_ledger.specs.Ledger.{standing}

pub balances_are : (h : History) (names : List (List ℕ)) → balances (map (standing h) names) ≡ sum_by (balance h) names
balances_are h [] = refl
balances_are h (n ∷ ns) =
    omega (arith, sum_by-cons (λ (a : AccountView). a.balance) (standing h n) (map (standing h) ns), sum_by-cons (balance h) n ns, balances_are h ns)
