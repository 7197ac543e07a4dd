-- Reading books one after another.
use Rattle.std.specs.Prelude.{◌≡◌, ℕ, Bool, true, false, List, ◌++◌, length}
use Rattle.std.specs.List.{AllZip}
use Rattle.mc_outside.specs.DiskView.{DiskView, OnlyRead}
use Rattle.mc_requests.specs.declared.limits.TheConstants.Limits.{FULL}
use Rattle.ledger_model.specs.Histories.{History}
use Rattle.audit_sums.specs.declared.audit_sums.BookSums.{BookSums}
use Rattle.audit_search.specs.Audit.{AreLearned}
use Rattle.audit_cmd.specs.declared.books.Kept.{Kept}
use Rattle.audit_cmd.specs.Books.{AreTold, IsHousesHistory, HaveWallet, EachRead}

-- ---- what is kept

-- of houses all was learned
pub record AreKept (books : List (List ℕ)) (houses : List BookSums) : Type 0 where
  pub histories : List History
  pub stand : AllZip IsHousesHistory books histories
  pub learned : AreLearned FULL houses histories

-- what is kept of books that were read as lawful ones; where there is a wallet, that there is
abbrev pub KeptOf : List (List ℕ) → Bool → List BookSums → Type 0
KeptOf books true houses = HaveWallet books
KeptOf books false houses = AreKept books houses

abbrev pub KeptAll : List (List ℕ) → Kept → Type 0
KeptAll books kept = KeptOf books kept.wallet kept.houses.items

-- ---- the steps

-- a disk was only read, and did not fail
pub record IsCalm {D : Type 0} (view : D → DiskView) (moved : D → D → Type 0) (old new : D) : Type 0 where
  pub read : OnlyRead (view old) (view new)
  pub moves : moved old new
  pub same : (view new).faults ≡ (view old).faults

-- so many disks were read and did not fail, and the others are as they were
pub record AreReadTo {D : Type 0} (view : D → DiskView) (moved : D → D → Type 0) (place : ℕ) (olds news : List D) : Type 0 where
  pub before : List D
  pub done : List D
  pub rest : List D
  pub olds_are : olds ≡ before ++ rest
  pub news_are : news ≡ done ++ rest
  pub long : length before ≡ place
  pub each : AllZip (IsCalm view moved) before done

-- and what is kept is of their bytes: each that tells them is read, and where all do this is kept of all
pub record HaveRead {D K : Type 0} (view : D → DiskView) (moved : D → D → Type 0) (IsRead : List ℕ → Type 0) (keeps : List (List ℕ) → K → Type 0) (place : ℕ) (olds news : List D) (kept : K) : Type 0 where
  pub to : AreReadTo view moved place olds news
  pub books : EachRead view IsRead to.before
  pub told : (books : List (List ℕ)) → AreTold view to.before books → keeps books kept
