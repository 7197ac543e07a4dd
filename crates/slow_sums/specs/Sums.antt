-- The sums of a broker's book, by their definitions.
use Rattle.std.specs.Prelude.{ℕ, option_map, unwrap_or}
use Rattle.mc_records.specs.Entry.{Entry}
use Rattle.ledger_model.specs.Histories.{History}
use Rattle.ledger_model.specs.Accounts.{account_name, balance, all_balances}
use Rattle.ledger_model.specs.Pieces.{own_out}
use Rattle.ledger_model.specs.Sums.{paid_in, paid_out, fees, outstanding, lapsed}
use Rattle.slow_sums.specs.declared.broker.BrokerSums.{BrokerSums}

-- the balance of the account that an entry opens
abbrev pub balance_at : History → Entry → ℕ
balance_at h e = unwrap_or (option_map (balance h) (account_name e)) 0

-- those of a broker's book
abbrev pub broker_sums : History → BrokerSums
broker_sums b = record {
  paid_in = paid_in b;
  paid_out = paid_out b;
  accounts = all_balances b;
  fees = fees b;
  outstanding = outstanding (own_out b) b;
  lapsed = lapsed (own_out b) b;
}
