-- A lawful book has no fault.
use Rattle.std.proofs.Common.{◌≡◌, ◌⊎◌, inl, inr, true, ℕ, List, [], ◌∷◌, ◌++◌, sym, ◌∙◌, subst, arith, append-nil, append_assoc, Some, Ok, Err, Result}
use Rattle.std.proofs.lemmas.Bool.{eqb-true}
use Rattle.std.specs.List.{AllByRecursion}
use Rattle.mc_outside.specs.Bytes.{BeginsWith}
use Rattle.mc_outside.specs.DiskView.{DiskView}
use Rattle.mc_records.specs.Entry.{Entry, Site}
use Rattle.mc_records.specs.Following.{AllFollowBy}
use Rattle.mc_requests.specs.declared.limits.TheConstants.Limits.{FULL}
use Rattle.ledger_model.specs.Histories.{History}
use Rattle.ledger_model.specs.Houses.{IsHouseKind}
use Rattle.ledger_model.specs.Lawful.{MayFollow}
use Rattle.scrip_journal.specs.Layout.{header, gated, Encodes}
use Rattle.scrip_journal.specs.Causes.{Only, FoundsSite, IsOfKind, IsOfOtherKind, IsOfOther, BeginsWithEntries, IsUnlawfulAt}
use Rattle.scrip_journal.proofs.Beginnings.{begins_history}
use Rattle.scrip_journal.proofs.Unique.{one_history, not_both, chain_or_history}
use Rattle.wallet_model.specs.Follows.{WalletFollows, wallet_allows}
use Rattle.audit_search.specs.declared.fault.BooksFault.{BooksFault}
use Rattle.audit_cmd.specs.declared.fault.AuditFault.{AuditFault}
use Rattle.audit_cmd.specs.declared.fault.AuditFault.TheVariants as faults
use Rattle.audit_cmd.specs.Notes.{site_first}
use Rattle.audit_cmd.specs.Reading.{IsSpoiledFrom, IsUnchainedFrom, IsUnlawfulFrom, audit_causes}
use Rattle.audit_cmd.specs.Books.{AreTold, IsHistoryOf, IsLawfulBook, IsFirst, FaultOfFirst, FirstDecides, FindsBy, EndsReading, IsOfLawful}
use Rattle.audit_cmd.proofs.Zips.{zip_at, at_place}

-- it begins with the header
pub lawful_begins : (h : History) (bytes : List ℕ) → Encodes h bytes → BeginsWith header bytes
lawful_begins h bytes st = (gated [] h ++ st.gate ∷ st.rest, st.shape ∙ append_assoc header (gated [] h) (st.gate ∷ st.rest))

-- ---- no entry of it breaks

module _ (may : History → Entry → Type 0) (kinds : ℕ → Type 0) where
  follow_here : (before xs : History) (e : Entry) (ys : History) → AllFollowBy may before (xs ++ e ∷ ys) → may (before ++ xs) e
  follow_here before [] e ys all = subst (λ (h : History). may h e) (sym (append-nil before)) all.0
  follow_here before (x ∷ xs) e ys all = subst (λ (h : History). may h e) (append_assoc before (x ∷ []) xs) (follow_here (before ++ x ∷ []) xs e ys all.1)

  -- of one whose entries may follow
  no_break : (e : Entry) (es : History) (bytes : List ℕ) (place : ℕ) → Encodes (e ∷ es) bytes → AllFollowBy may [] (e ∷ es) → IsUnlawfulAt may kinds bytes place → ⊥
  no_break e es bytes place st all (other, inl empty) = absurd (cc (one_history (e ∷ es) [] bytes st empty.0))
  no_break e es bytes place st all (other, inr breaks) =
      let more = begins_history (e ∷ es) (breaks.before ++ breaks.next ∷ []) bytes st breaks.begins in
      let is : e ∷ es ≡ breaks.before ++ breaks.next ∷ more.0 = more.1 ∙ append_assoc breaks.before (breaks.next ∷ []) more.0 in
      breaks.breaks (follow_here [] breaks.before breaks.next more.0 (subst (λ (h : History). AllFollowBy may [] h) is all))

  one_kind : (e : Entry) → FoundsSite kinds e → IsOfOtherKind kinds e → ⊥
  one_kind (Site m k name house) is other = other is
  one_kind e is other = absurd is

  other_first : (e : Entry) (es : History) (bytes : List ℕ) (before : History) (next : Entry) (k : History) → IsOfOtherKind kinds e → e ∷ es ≡ (before ++ next ∷ []) ++ k → IsOfKind kinds before → BeginsWithEntries (before ++ next ∷ []) bytes
      → IsOfOther kinds bytes ⊎ ⊥
  other_first e es bytes [] next k other is of_kind begins = inl (record { first = next; other = subst (λ (f : Entry). IsOfOtherKind kinds f) (cc is) other; begins = begins })
  other_first e es bytes (b ∷ bs) next k other is of_kind begins = inr (one_kind b of_kind (subst (λ (f : Entry). IsOfOtherKind kinds f) (cc is) other))

  -- nor of one of another kind
  no_other_break : (e : Entry) (es : History) (bytes : List ℕ) (place : ℕ) → Encodes (e ∷ es) bytes → IsOfOtherKind kinds e → IsUnlawfulAt may kinds bytes place → ⊥
  no_other_break e es bytes place st first (other, inl empty) = absurd (cc (one_history (e ∷ es) [] bytes st empty.0))
  no_other_break e es bytes place st first (other, inr breaks) =
      let more = begins_history (e ∷ es) (breaks.before ++ breaks.next ∷ []) bytes st breaks.begins in
      go (other_first e es bytes breaks.before breaks.next more.0 first more.1 breaks.of_kind breaks.begins)
    where
      go : IsOfOther kinds bytes ⊎ ⊥ → ⊥
      go (inl is) = other is
      go (inr never) = never

-- ---- of a house and of a wallet

house_first : (e : Entry) → MayFollow FULL [] e → IsOfOtherKind (Only 2) e
house_first (Site m kind name house) may = λ is. omega (arith, may.allowed.1, is)
house_first e may = absurd (site_first e may)

wallet_first : (e : Entry) → wallet_allows [] e ≡ true → IsOfOtherKind IsHouseKind e
wallet_first (Site m kind name house) allowed = λ is. omega (arith, eqb-true kind 2 allowed, is)
wallet_first e allowed = absurd (cc allowed)

not_spoiled : (h : History) (bytes : List ℕ) (place : ℕ) → Encodes h bytes → IsSpoiledFrom bytes place → ⊥
not_spoiled h bytes place st (inl spoils) = not_both spoils.before h bytes place spoils.reads st
not_spoiled h bytes place st (inr spoils) = not_both spoils.before h bytes place spoils.reads st

not_unchained : (h : History) (bytes : List ℕ) (place : ℕ) (stood computed : List ℕ) → Encodes h bytes → IsUnchainedFrom bytes place stood computed → ⊥
not_unchained h bytes place stood computed st (inl breaks) = chain_or_history breaks.before h bytes place stood computed breaks.reads st
not_unchained h bytes place stood computed st (inr breaks) = chain_or_history breaks.before h bytes place stood computed breaks.reads st

not_unlawful : (h : History) (bytes : List ℕ) (place : ℕ) → IsHistoryOf bytes h → IsUnlawfulFrom bytes place → ⊥
not_unlawful [] bytes place (inl house) breaks = house.lawful
not_unlawful [] bytes place (inr wallet) breaks = wallet.lawful
not_unlawful (e ∷ es) bytes place (inl house) (inl breaks) = no_break (MayFollow FULL) IsHouseKind e es bytes place house.of_bytes house.lawful breaks
not_unlawful (e ∷ es) bytes place (inl house) (inr breaks) = no_other_break WalletFollows (Only 2) e es bytes place house.of_bytes (house_first e house.lawful.0) breaks
not_unlawful (e ∷ es) bytes place (inr wallet) (inl breaks) = no_other_break (MayFollow FULL) IsHouseKind e es bytes place wallet.of_bytes (wallet_first e wallet.lawful.0.allowed) breaks
not_unlawful (e ∷ es) bytes place (inr wallet) (inr breaks) = no_break WalletFollows (Only 2) e es bytes place wallet.of_bytes wallet.lawful breaks

pub encodes : (h : History) (bytes : List ℕ) → IsHistoryOf bytes h → Encodes h bytes
encodes h bytes (inl house) = house.of_bytes
encodes h bytes (inr wallet) = wallet.of_bytes

-- ---- of lawful books

-- what ends the reading is found of no others
pub halt_found : {R : Type 0} (Audits : List History → Result R BooksFault → Type 0) (books : List (List ℕ)) (Is : ℕ → Type 0) (fault : AuditFault) → EndsReading Is fault → FindsBy Audits books (Err fault)
halt_found Audits books Is (faults.NotJournal book) ended = tt
halt_found Audits books Is (faults.BadRecord book place) ended = tt
halt_found Audits books Is (faults.BadChain book place stood computed) ended = tt
halt_found Audits books Is (faults.Unlawful book place) ended = tt
halt_found Audits books Is (faults.Disk book) ended = tt
halt_found Audits books Is faults.BadBooks ended = absurd ended
halt_found Audits books Is (faults.MissingBook name) ended = absurd ended
halt_found Audits books Is (faults.Stranger book name id) ended = absurd ended
halt_found Audits books Is faults.NoMemory ended = tt

-- the bytes of a book of which both is so
pub record HasBoth (IsRead Cause : List ℕ → Type 0) : Type 0 where
  pub bytes : List ℕ
  pub read : IsRead bytes
  pub cause : Cause bytes

module _ {D : Type 0} (view : D → DiskView) (disks : List D) (books : List (List ℕ)) (told : AreTold view disks books) where
  -- those of the first that is not read, where all disks tell their bytes
  pub first_told : (IsRead : List ℕ → Type 0) (book : ℕ) (Cause : List ℕ → Type 0) → IsFirst view IsRead disks book Cause → AllByRecursion IsRead books → HasBoth IsRead Cause
  first_told IsRead book Cause first all =
      let at = zip_at (λ d x. (view d).contents ≡ Some x) disks books book first.disk told first.there in
      record { bytes = at.y; read = at_place IsRead books book at.y all at.there; cause = first.cause at.y at.here }

  pub fault_of_lawful : (R : Type 0) (fault : AuditFault) → FaultOfFirst view audit_causes IsLawfulBook disks fault → AllByRecursion IsLawfulBook books → IsOfLawful {A = R} (Err fault)
  fault_of_lawful R (faults.NotJournal book) first all =
      let b = first_told IsLawfulBook book (λ bytes. BeginsWith header bytes → ⊥) first all in
      b.cause (lawful_begins b.read.0 b.bytes (encodes b.read.0 b.bytes b.read.1))
  fault_of_lawful R (faults.BadRecord book place) first all =
      let b = first_told IsLawfulBook book (λ bytes. IsSpoiledFrom bytes place) first all in
      not_spoiled b.read.0 b.bytes place (encodes b.read.0 b.bytes b.read.1) b.cause
  fault_of_lawful R (faults.BadChain book place stood computed) first all =
      let b = first_told IsLawfulBook book (λ bytes. IsUnchainedFrom bytes place stood computed) first all in
      not_unchained b.read.0 b.bytes place stood computed (encodes b.read.0 b.bytes b.read.1) b.cause
  fault_of_lawful R (faults.Unlawful book place) first all =
      let b = first_told IsLawfulBook book (λ bytes. IsUnlawfulFrom bytes place) first all in
      not_unlawful b.read.0 b.bytes place b.read.1 b.cause
  fault_of_lawful R (faults.Disk book) first all = tt
  fault_of_lawful R faults.BadBooks first all = tt
  fault_of_lawful R (faults.MissingBook name) first all = tt
  fault_of_lawful R (faults.Stranger book name id) first all = tt
  fault_of_lawful R faults.NoMemory first all = tt

  pub none_faulty : {R : Type 0} (found : Result R AuditFault) → FirstDecides view audit_causes IsLawfulBook disks found → AllByRecursion IsLawfulBook books → IsOfLawful found
  none_faulty (Ok r) first all = tt
  none_faulty {R = R} (Err fault) first all = fault_of_lawful R fault first all
