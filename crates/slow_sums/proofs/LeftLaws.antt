-- What is left of pieces, as a sum over what each adds.
use Rattle.std.proofs.Common.{◌≡◌, ℕ, ◌+◌, List, [], ◌∷◌, sum_by, Option, Some, None, option_map, unwrap_or, refl, ap, ◌∙◌, arith}
use Rattle.std.specs.List.{cons_option}
use Rattle.std.proofs.lemmas.List.Sums.{sum_by-cons}
use Rattle.ledger_model.specs.Histories.{History}
use Rattle.ledger_model.specs.Accounts.{account_name, account_names, balance}
use Rattle.slow_sums.specs.declared.broker.BrokerSums.{BrokerSums}
use Rattle.slow_sums.specs.Sums.{balance_at}

-- all balances are those of the accounts that entries open
pub balances_are : (h es : History) → sum_by (balance_at h) es ≡ sum_by (balance h) (account_names es)
balances_are h [] = refl
balances_are h (e ∷ es) = go (account_name e) (balances_are h es) (sum_by-cons (balance_at h) e es)
  where
    go : (o : Option (List ℕ)) → sum_by (balance_at h) es ≡ sum_by (balance h) (account_names es)
        → sum_by (balance_at h) (e ∷ es) ≡ unwrap_or (option_map (balance h) o) 0 + sum_by (balance_at h) es
        → sum_by (balance_at h) (e ∷ es) ≡ sum_by (balance h) (cons_option o (account_names es))
    go None rest one = omega arith
    go (Some name) rest one = omega (arith, sum_by-cons (balance h) name (account_names es))

-- ---- sums that are the same one by one

pub same_broker : (a b : BrokerSums) → a.paid_in ≡ b.paid_in → a.paid_out ≡ b.paid_out → a.accounts ≡ b.accounts → a.fees ≡ b.fees → a.outstanding ≡ b.outstanding → a.lapsed ≡ b.lapsed → a ≡ b
same_broker a b e f g h i j =
    ap (λ (x : ℕ). record a { paid_in = x }) e
    ∙ ap (λ (x : ℕ). record a { paid_in = b.paid_in; paid_out = x }) f
    ∙ ap (λ (x : ℕ). record a { paid_in = b.paid_in; paid_out = b.paid_out; accounts = x }) g
    ∙ ap (λ (x : ℕ). record a { paid_in = b.paid_in; paid_out = b.paid_out; accounts = b.accounts; fees = x }) h
    ∙ ap (λ (x : ℕ). record a { paid_in = b.paid_in; paid_out = b.paid_out; accounts = b.accounts; fees = b.fees; outstanding = x }) i
    ∙ ap (λ (x : ℕ). record a { paid_in = b.paid_in; paid_out = b.paid_out; accounts = b.accounts; fees = b.fees; outstanding = b.outstanding; lapsed = x }) j
