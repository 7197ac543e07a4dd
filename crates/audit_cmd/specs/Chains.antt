-- What reading the chains of books answers, by their bytes.
use Rattle.std.specs.Prelude.{◌≡◌, ◌⊎◌, ℕ, List, [], ◌∷◌, length, Result}
use Rattle.std.specs.Global.{Vec}
use Rattle.std.specs.List.{AllZip}
use Rattle.mc_outside.specs.DiskView.{DiskView}
use Rattle.mc_records.specs.Entry.{Entry}
use Rattle.mc_records.specs.Chains.{chain}
use Rattle.ledger_model.specs.Histories.{History}
use Rattle.ledger_model.specs.Houses.{site_name}
use Rattle.scrip_journal.specs.Layout.{Encodes}
use Rattle.scrip_journal.specs.Causes.{BeginsWithEntries, SpoilsAt, UnchainsAt}
use Rattle.scrip_journal.specs.declared.cursor.TheConstants.{FIRST_GATE}
use Rattle.scrip_journal.specs.declared.fault.HouseFault.{HouseFault}
use Rattle.book_opening.specs.Opener.{OpenerView, IsSite}
use Rattle.book_opening.specs.Opening.{AreOfSite}
use Rattle.audit_cmd.specs.declared.chain_reading.ChainLine.{ChainLine}
use Rattle.audit_cmd.specs.declared.fault.AuditFault.{AuditFault}
use Rattle.audit_cmd.specs.OneBook.{Causes, ReadsBy}
use Rattle.audit_cmd.specs.Books.{FirstDecides}

-- ---- which books are read

-- a Site entry comes first, and behind it any
abbrev pub BeginsAs : History → Entry → Type 0
BeginsAs [] e = IsSite e
BeginsAs (f ∷ h) e = Unit {0}

abbrev pub AnyKind : ℕ → Type 0
AnyKind kind = Unit {0}

-- who reads a book has learned the name of its site
pub record KnowsSite (name : List ℕ) (h : History) : Type 0 where
  pub site : AreOfSite AnyKind h
  pub is : site_name h ≡ name

abbrev pub chain_reader : OpenerView (List ℕ)
chain_reader = record {
  ready = Unit {0};
  may = BeginsAs;
  asks = λ h e. Unit {0};
  kinds = AnyKind;
  belongs = λ name. Unit {0};
  holds = KnowsSite;
}

-- ---- what is answered

-- the line is that of the history that the bytes encode, which begins with a Site entry
pub record IsLineOf (bytes : List ℕ) (line : ChainLine) : Type 0 where
  pub history : History
  pub of_bytes : Encodes history bytes
  pub site : AreOfSite AnyKind history
  pub name : site_name history ≡ line.name
  pub entries : length history ≡ line.entries
  pub chain' : chain history ≡ line.chain

abbrev pub HasLine : List ℕ → Type 0
HasLine bytes = (line : ChainLine) × IsLineOf bytes line

-- behind entries of a site the bytes can't stand, from this place on
abbrev pub SpoilsChain : List ℕ → ℕ → Type 0
SpoilsChain bytes place = SpoilsAt BeginsAs AnyKind bytes place

-- behind entries of a site comes one whose chain, at this place, is another than the one computed
abbrev pub BreaksChain : List ℕ → ℕ → List ℕ → List ℕ → Type 0
BreaksChain bytes place stood computed = UnchainsAt BeginsAs AnyKind bytes place stood computed

-- no entry is first that is a Site entry; that is told of the first gate
abbrev pub HasNoSite : List ℕ → ℕ → Type 0
HasNoSite bytes place = (place ≡ FIRST_GATE) × (Encodes [] bytes ⊎ ((e : Entry) × BeginsWithEntries (e ∷ []) bytes × (IsSite e → ⊥)))

abbrev pub chain_causes : Causes
chain_causes = record { spoiled = SpoilsChain; unchained = BreaksChain; unlawful = HasNoSite }

-- what is answered of one book by the bytes of the disk
abbrev pub ReadsChain : {D : Type 0} → List ℕ → Result (D × ChainLine) (HouseFault D) → Type 0
ReadsChain bytes found = ReadsBy chain_causes IsLineOf bytes found

-- the lines are those of the books, in their order
abbrev pub AreLinesOf : List (List ℕ) → Vec ChainLine → Type 0
AreLinesOf books lines = AllZip IsLineOf books lines.items

-- of books that are read for their chains: the first that has no line decides
abbrev pub ChainsDecide : {D A : Type 0} → (D → DiskView) → List D → Result A AuditFault → Type 0
ChainsDecide view disks found = FirstDecides view chain_causes HasLine disks found
