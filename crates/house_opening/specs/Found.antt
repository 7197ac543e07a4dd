-- What founding the book of a house answers.
use Rattle.std.specs.Prelude.{◌≡◌, ℕ, List, [], ◌∷◌, Result, Ok, Err}
use Rattle.mc_outside.specs.DiskView.{DiskView}
use Rattle.mc_requests.specs.declared.limits.Limits.{Limits}
use Rattle.mc_records.specs.Entry.{Entry, moment_of}
use Rattle.scrip_journal.specs.Founds.{IsFree, IsTaken}
use Rattle.scrip_journal.specs.declared.fault.HouseFault.{HouseFault}
use Rattle.scrip_journal.specs.declared.fault.HouseFault.TheVariants.{NotEmpty, Disk, NoMemory}
use Rattle.house_core.specs.HouseView.{HouseView}
use Rattle.house_core.specs.Bench.{house_time, limits_of}
use Rattle.house_core.specs.House.{HouseRepresents}
use Rattle.house_state.specs.Trade.{TradeView}

-- The house represents this entry alone, at its moment, on a disk that was free.
pub record FoundedFor {D T : Type 0} (view : D → DiskView) (trade : T → TradeView) (limits : Limits) (e : Entry) (bytes : List ℕ) (x : HouseView D T) : Type 0 where
  pub free : IsFree bytes
  pub house : HouseRepresents view trade x (e ∷ [])
  pub time' : house_time x.bench ≡ moment_of e
  pub limits' : limits_of x.bench ≡ limits

-- what is answered by the bytes of the disk
abbrev pub FoundsHouseBy : {D T : Type 0} → (D → DiskView) → (T → TradeView) → Limits → Entry → List ℕ → Result (HouseView D T) (HouseFault D) → Type 0
FoundsHouseBy view trade limits e bytes (Ok x) = FoundedFor view trade limits e bytes x
FoundsHouseBy view trade limits e bytes (Err (NotEmpty d count)) = IsTaken bytes count
FoundsHouseBy view trade limits e bytes (Err (Disk d)) = Unit {0}
FoundsHouseBy view trade limits e bytes (Err (NoMemory d)) = Unit {0}
FoundsHouseBy view trade limits e bytes (Err _) = ⊥
