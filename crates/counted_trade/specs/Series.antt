-- What stands in the sums of the series after a history.
use Rattle.std.specs.Prelude.{◌≡◌, ℕ, ◌+◌, ◌*◌, ◌^◌, ◌<◌, List, ◌++◌, Some, IfSome}
use Rattle.std.specs.Int.{w32, to_be_bytes}
use Rattle.scrip_form.specs.Identities.{series_of}
use Rattle.mc_records.specs.Entry.{Entry}
use Rattle.ledger_model.specs.Histories.{History}
use Rattle.ledger_model.specs.Pieces.{accepted_piece}
use Rattle.sum_table.specs.SumTable.{SumTableView, sum_of}
use Rattle.settle_core.specs.Settlement.{redeemed, sold_under}
use Rattle.counted_trade.specs.Sold.{licensed_sale}
use Rattle.counted_trade.specs.declared.series_sums.SeriesSums.{SeriesSums}

-- a series in four bytes
abbrev pub series_key : ℕ → ℕ → List ℕ
series_key issuer epoch = to_be_bytes w32 (issuer * 2 ^ 24 + epoch)

-- the series of an identity
abbrev pub key_of : ℕ → List ℕ
key_of id = to_be_bytes w32 (series_of id)

-- under each series stands what was redeemed of it
pub record RedeemedStand (t : SumTableView) (h : History) : Type 0 where
  pub is : (issuer epoch : ℕ) → issuer < 2 ^ 8 → epoch < 2 ^ 24 → sum_of t (series_key issuer epoch) ≡ redeemed h issuer epoch

-- under each series and vendor stands what was sold of it under his licence
pub record SoldStand (t : SumTableView) (h : History) : Type 0 where
  pub is : (vendor : List ℕ) (issuer epoch : ℕ) → issuer < 2 ^ 8 → epoch < 2 ^ 24 → sum_of t (series_key issuer epoch ++ vendor) ≡ sold_under h vendor issuer epoch

pub record CountsSeries (s : SeriesSums) (h : History) : Type 0 where
  pub redeemed' : RedeemedStand s.redeemed h
  pub sold' : SoldStand s.sold h

-- there is room for what an entry adds
abbrev pub HasRoomToRedeem : SumTableView → Entry → Type 0
HasRoomToRedeem t e = IfSome (accepted_piece e) (λ p. t.room ≡ Some (key_of p.id))

abbrev pub HasRoomToSell : SumTableView → Entry → Type 0
HasRoomToSell t e = IfSome (licensed_sale e) (λ s. t.room ≡ Some (key_of s.id ++ s.vendor))

pub record HasRoom (s : SeriesSums) (e : Entry) : Type 0 where
  pub redeemed' : HasRoomToRedeem s.redeemed e
  pub sold' : HasRoomToSell s.sold e
