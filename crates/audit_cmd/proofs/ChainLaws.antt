-- What is found of a book that is read for its chain.
use Rattle.std.proofs.Common.{◌≡◌, ◌+◌, inl, inr, true, ℕ, List, [], ◌∷◌, ◌++◌, length, Err, refl, sym, subst, arith}
use Rattle.std.specs.Global.{Vec}
use Rattle.std.specs.List.{AllZip, AllByRecursion}
use Rattle.mc_outside.specs.Bytes.{BeginsWith}
use Rattle.mc_outside.specs.DiskView.{DiskView}
use Rattle.mc_records.specs.Entry.{Entry, Site}
use Rattle.mc_records.specs.Sizes.{size}
use Rattle.mc_records.specs.Chains.{chain}
use Rattle.ledger_model.specs.Histories.{History}
use Rattle.ledger_model.specs.Houses.{site_name}
use Rattle.scrip_journal.specs.Layout.{header, Encodes}
use Rattle.scrip_journal.specs.Causes.{IsOfOtherKind, BeginsWithEntries, IsUnlawfulAt}
use Rattle.scrip_journal.specs.declared.fault.HouseFault.{HouseFault}
use Rattle.scrip_journal.specs.declared.fault.HouseFault.TheVariants.{NotJournal, BadRecord, BadChain, Unlawful, WrongKind, NotEmpty, Disk, NoMemory}
use Rattle.scrip_journal.proofs.Beginnings.{begins_history}
use Rattle.scrip_journal.proofs.Unique.{one_history, not_both, chain_or_history}
use Rattle.book_opening.specs.Opener.{IsSite}
use Rattle.book_opening.specs.Opening.{AreOfSite, OpensBook}
use Rattle.wallet_model.specs.Follows.{wallet_allows}
use Rattle.audit_cmd.specs.declared.chain_reading.ChainLine.{ChainLine}
use Rattle.audit_cmd.specs.declared.fault.AuditFault.{AuditFault}
use Rattle.audit_cmd.specs.declared.fault.AuditFault.TheVariants as faults
use Rattle.audit_cmd.specs.Notes.{site_first}
use Rattle.audit_cmd.specs.Books.{AreTold, IsHistoryOf, IsLawfulBook, FaultOfFirst, IsOfLawful}
use Rattle.audit_cmd.specs.Chains.{BeginsAs, AnyKind, KnowsSite, chain_reader, IsLineOf, HasLine, SpoilsChain, BreaksChain, HasNoSite, chain_causes, ReadsChain}
use Rattle.audit_cmd.proofs.LawfulLaws.{lawful_begins, encodes, first_told}

-- ---- what is learned

-- the name of the site stays as entries come
pub knows_more : (name : List ℕ) (h : History) (e : Entry) → KnowsSite name h → KnowsSite name (h ++ e ∷ [])
knows_more name [] e knows = absurd knows.site
knows_more name (Site m kind n house ∷ h) e knows = record { site = tt; is = knows.is }
knows_more name (x ∷ h) e knows = absurd knows.site

-- ---- faults

no_other : (e : Entry) → IsOfOtherKind AnyKind e → ⊥
no_other (Site m kind name house) other = other tt
no_other e other = absurd other

breaks_first : (before : History) (next : Entry) (bytes : List ℕ) (place : ℕ) → BeginsWithEntries (before ++ next ∷ []) bytes → place + 1 ≡ size before → (BeginsAs before next → ⊥) → HasNoSite bytes place
breaks_first [] next bytes place begins is breaks = (omega (arith, is), inr (next, begins, breaks))
breaks_first (x ∷ before) next bytes place begins is breaks = absurd (breaks tt)

has_no_site : (bytes : List ℕ) (place : ℕ) → IsUnlawfulAt BeginsAs AnyKind bytes place → HasNoSite bytes place
has_no_site bytes place (other, inl empty) = (empty.1, inl empty.0)
has_no_site bytes place (other, inr breaks) = breaks_first breaks.before breaks.next bytes place breaks.begins breaks.place_is breaks.breaks

pub chain_fault : {D : Type 0} (view : D → DiskView) (bytes : List ℕ) (f : HouseFault D) → OpensBook view chain_reader bytes (Err f) → ReadsChain {D = D} bytes (Err f)
chain_fault view bytes (NotJournal d) opens = opens
chain_fault view bytes (BadRecord d place) opens = opens
chain_fault view bytes (BadChain d place stood computed) opens = opens
chain_fault view bytes (Unlawful d place) opens = has_no_site bytes place opens
chain_fault view bytes (WrongKind d) opens = no_other opens.first opens.other
chain_fault view bytes (NotEmpty d count) opens = opens
chain_fault view bytes (Disk d) opens = tt
chain_fault view bytes (NoMemory d) opens = tt

-- ---- lines

-- no books have no lines
pub no_lines : {D : Type 0} (view : D → DiskView) (books : List (List ℕ)) (lines : List ChainLine) → lines ≡ [] → AreTold view [] books → AllZip IsLineOf books lines
no_lines view [] lines is told = subst (λ (l : List ChainLine). AllZip IsLineOf [] l) (sym is) tt
no_lines view (b ∷ bs) lines is told = absurd told

-- ---- books that have lines

wallet_founds : (e : Entry) → wallet_allows [] e ≡ true → IsSite e
wallet_founds (Site m kind name house) allowed = tt
wallet_founds e allowed = absurd (cc allowed)

lawful_founds : (h : History) (bytes : List ℕ) → IsHistoryOf bytes h → AreOfSite AnyKind h
lawful_founds [] bytes (inl house) = absurd house.lawful
lawful_founds [] bytes (inr wallet) = absurd wallet.lawful
lawful_founds (e ∷ es) bytes (inl house) = site_first e house.lawful.0
lawful_founds (e ∷ es) bytes (inr wallet) = wallet_founds e wallet.lawful.0.allowed

-- a lawful one has
lawful_lined : (bytes : List ℕ) → IsLawfulBook bytes → HasLine bytes
lawful_lined bytes (h, is) = (
  record { name = site_name h; entries = length h; chain = chain h },
  record { history = h; of_bytes = encodes h bytes is; site = lawful_founds h bytes is; name = refl; entries = refl; chain' = refl },
)

pub lawful_all_lined : (books : List (List ℕ)) → AllByRecursion IsLawfulBook books → AllByRecursion HasLine books
lawful_all_lined [] all = tt
lawful_all_lined (b ∷ bs) all = (lawful_lined b all.0, lawful_all_lined bs all.1)

-- one that has a line has a Site entry first
has_a_site : (h : History) (bytes : List ℕ) (place : ℕ) → Encodes h bytes → AreOfSite AnyKind h → HasNoSite bytes place → ⊥
has_a_site [] bytes place st site none = absurd site
has_a_site (e ∷ es) bytes place st site (first, inl empty) = absurd (cc (one_history (e ∷ es) [] bytes st empty))
has_a_site (e ∷ es) bytes place st site (first, inr (f, begins, other)) =
    let more = begins_history (e ∷ es) (f ∷ []) bytes st begins in
    let is : e ≡ f = cc more.1 in
    other (subst (λ (x : Entry). IsSite x) is site)

-- and no fault in its bytes
module _ {D : Type 0} (view : D → DiskView) (disks : List D) (books : List (List ℕ)) (told : AreTold view disks books) where
  pub lined_halt : (fault : AuditFault) → FaultOfFirst view chain_causes HasLine disks fault → AllByRecursion HasLine books → IsOfLawful {A = Vec ChainLine} (Err fault)
  lined_halt (faults.NotJournal book) first all =
      let b = first_told view disks books told HasLine book (λ bytes. BeginsWith header bytes → ⊥) first all in
      b.cause (lawful_begins b.read.1.history b.bytes b.read.1.of_bytes)
  lined_halt (faults.BadRecord book place) first all =
      let b = first_told view disks books told HasLine book (λ bytes. SpoilsChain bytes place) first all in
      not_both b.cause.before b.read.1.history b.bytes place b.cause.reads b.read.1.of_bytes
  lined_halt (faults.BadChain book place stood computed) first all =
      let b = first_told view disks books told HasLine book (λ bytes. BreaksChain bytes place stood computed) first all in
      chain_or_history b.cause.before b.read.1.history b.bytes place stood computed b.cause.reads b.read.1.of_bytes
  lined_halt (faults.Unlawful book place) first all =
      let b = first_told view disks books told HasLine book (λ bytes. HasNoSite bytes place) first all in
      has_a_site b.read.1.history b.bytes place b.read.1.of_bytes b.read.1.site b.cause
  lined_halt (faults.Disk book) first all = tt
  lined_halt faults.BadBooks first all = tt
  lined_halt (faults.MissingBook name) first all = tt
  lined_halt (faults.Stranger book name id) first all = tt
  lined_halt faults.NoMemory first all = tt
