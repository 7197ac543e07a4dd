-- What stands in the tables of notes after a history.
use Rattle.std.specs.Prelude.{◌≡◌, ℕ, ◌^◌, ◌<◌, List, ◌++◌, Some, IfSome}
use Rattle.mc_records.specs.Entry.{Entry}
use Rattle.ledger_model.specs.Histories.{History}
use Rattle.sum_table.specs.SumTable.{SumTableView, amount_of}
use Rattle.settle_core.specs.Settlement.{stated_by, paid_by, stated_amount, paid_amount}
use Rattle.counted_trade.specs.Series.{series_key}

-- under each series stands what was stated of it, where something was
pub record StatedStand (t : SumTableView) (h : History) : Type 0 where
  pub is : (issuer epoch : ℕ) → issuer < 2 ^ 8 → epoch < 2 ^ 24 → amount_of t (series_key issuer epoch) ≡ stated_amount h issuer epoch

-- under each series and vendor stands what was paid for it, where something was
pub record PaidStand (t : SumTableView) (h : History) : Type 0 where
  pub is : (vendor : List ℕ) (issuer epoch : ℕ) → issuer < 2 ^ 8 → epoch < 2 ^ 24 → amount_of t (series_key issuer epoch ++ vendor) ≡ paid_amount h vendor issuer epoch

-- there is room for what an entry adds
abbrev pub HasRoomToState : SumTableView → Entry → Type 0
HasRoomToState t e = IfSome (stated_by e) (λ c. t.room ≡ Some (series_key c.issuer c.epoch))

abbrev pub HasRoomToPay : SumTableView → Entry → Type 0
HasRoomToPay t e = IfSome (paid_by e) (λ p. t.room ≡ Some (series_key p.claim.issuer p.claim.epoch ++ p.vendor))
