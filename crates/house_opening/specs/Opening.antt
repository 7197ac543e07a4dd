-- What opening a book as a house answers.
use Rattle.std.specs.Prelude.{◌≡◌, ℕ, List, [], Some, Result, Ok, Err}
use Rattle.mc_outside.specs.Bytes.{BeginsWith}
use Rattle.mc_outside.specs.DiskView.{DiskView}
use Rattle.mc_requests.specs.declared.limits.Limits.{Limits}
use Rattle.mc_requests.specs.Limits.{AreInRange}
use Rattle.mc_records.specs.Chains.{TellsChain}
use Rattle.mc_records.specs.Following.{AllFollowBy}
use Rattle.ledger_model.specs.Histories.{History, time}
use Rattle.ledger_model.specs.Houses.{site_kind}
use Rattle.scrip_journal.specs.Layout as layout
use Rattle.scrip_journal.specs.Layout.{header}
use Rattle.scrip_journal.specs.Founds.{fault_disk}
use Rattle.scrip_journal.specs.Causes as causes
use Rattle.scrip_journal.specs.Causes.{Only}
use Rattle.scrip_journal.specs.declared.fault.HouseFault.{HouseFault}
use Rattle.scrip_journal.specs.declared.fault.HouseFault.TheVariants.{NotJournal, BadRecord, BadChain, Unlawful, WrongKind, NotEmpty, Disk, NoMemory}
use Rattle.book_opening.specs.Opener.{OpenerView}
use Rattle.house_core.specs.BenchView.{BenchView}
use Rattle.house_core.specs.HouseView.{HouseView}
use Rattle.house_core.specs.Bench.{IsHouse, house_time, limits_of}
use Rattle.house_core.specs.House.{HouseRepresents}
use Rattle.house_state.specs.Learning.{Test, MayEnter}
use Rattle.house_state.specs.Trade.{TradeView}
use Rattle.house_opening.specs.declared.opening.HouseOpener.{HouseOpener}

-- the disk that comes back, whatever is answered
abbrev pub house_disk : {D T : Type 0} → Result (HouseView D T) (HouseFault D) → D
house_disk (Ok x) = x.journal.disk
house_disk (Err f) = fault_disk f

-- ---- why a book is not opened, with a trade of this test of Notes and this kind of site

-- behind entries that may follow one another its bytes can't stand, from this place on
abbrev pub SpoilsAt : Test → Limits → ℕ → List ℕ → ℕ → Type 0
SpoilsAt passes limits kind bytes place = causes.SpoilsAt (MayEnter passes limits) (Only kind) bytes place

-- behind such entries comes one whose chain, at this place, is another than the one computed
abbrev pub UnchainsAt : Test → Limits → ℕ → List ℕ → ℕ → List ℕ → List ℕ → Type 0
UnchainsAt passes limits kind bytes place stood computed = causes.UnchainsAt (MayEnter passes limits) (Only kind) bytes place stood computed

-- the first entry that may not follow is behind the gate at this place
abbrev pub IsUnlawfulAt : Test → Limits → ℕ → List ℕ → ℕ → Type 0
IsUnlawfulAt passes limits kind bytes place = causes.IsUnlawfulAt (MayEnter passes limits) (Only kind) bytes place

-- it is that of a site of another kind
abbrev pub IsOfOther : ℕ → List ℕ → Type 0
IsOfOther kind bytes = causes.IsOfOther (Only kind) bytes

-- ---- what is answered

-- The bytes encode a history of a site of this kind, each entry of which may follow those before it and passes this test
-- where it is a Note; and the house represents it too, at the time of the history.
pub record OpenedFor {D T : Type 0} (view : D → DiskView) (trade : T → TradeView) (passes : Test) (limits : Limits) (kind : ℕ) (bytes : List ℕ) (x : HouseView D T) : Type 0 where
  pub history : History
  pub of_bytes : layout.Encodes history bytes
  pub of_kind : site_kind history ≡ Some kind
  pub follow : AllFollowBy (MayEnter passes limits) [] history
  pub house : HouseRepresents view trade x history
  pub time' : house_time x.bench ≡ time history
  pub limits' : limits_of x.bench ≡ limits

-- what is answered by the bytes of the disk, at a trade with this kind of site
abbrev pub OpensHouse : {D T : Type 0} → (D → DiskView) → (T → TradeView) → Test → Limits → ℕ → List ℕ → Result (HouseView D T) (HouseFault D) → Type 0
OpensHouse view trade passes limits kind bytes (Ok x) = OpenedFor view trade passes limits kind bytes x
OpensHouse view trade passes limits kind bytes (Err (NotJournal d)) = BeginsWith header bytes → ⊥
OpensHouse view trade passes limits kind bytes (Err (BadRecord d place)) = SpoilsAt passes limits kind bytes place
OpensHouse view trade passes limits kind bytes (Err (BadChain d place stood computed)) = UnchainsAt passes limits kind bytes place stood computed
OpensHouse view trade passes limits kind bytes (Err (Unlawful d place)) = IsUnlawfulAt passes limits kind bytes place
OpensHouse view trade passes limits kind bytes (Err (WrongKind d)) = IsOfOther kind bytes
OpensHouse view trade passes limits kind bytes (Err (NotEmpty d count)) = ⊥
OpensHouse view trade passes limits kind bytes (Err (Disk d)) = Unit {0}
OpensHouse view trade passes limits kind bytes (Err (NoMemory d)) = Unit {0}

-- ---- who opens it

-- the house represents the history, at its time
pub record StandsAt {T : Type 0} (trade : T → TradeView) (b : BenchView T) (h : History) : Type 0 where
  pub house : IsHouse trade b h
  pub time' : house_time b ≡ time h

-- A book is opened as a house by the ledger, where it is of the kind of site of the trade.
abbrev pub opener_of : {T : Type 0} → (T → TradeView) → Test → HouseOpener T → OpenerView (BenchView T)
opener_of trade passes o = record {
  ready = AreInRange o.limits × (trade o.trade).represents [];
  may = MayEnter passes o.limits;
  asks = TellsChain;
  kinds = Only (trade o.trade).site;
  belongs = λ b. limits_of b ≡ o.limits;
  holds = StandsAt trade;
}
