-- How the report of books ends, by what was found of them.
use Rattle.std.proofs.Common.{◌≡◌, ◌⊎◌, ◌<◌, inl, inr, ℕ, List, length, Ok, Err, Result, refl, sym, ap, ◌∙◌, subst}
use Rattle.std.specs.Prelude.{IfSome}
use Rattle.mc_outside.specs.DiskView.{DiskView}
use Rattle.ledger_model.specs.Histories.{History}
use Rattle.audit_search.specs.declared.fault.BooksFault.{BooksFault}
use Rattle.audit_cmd.specs.declared.fault.AuditFault.{AuditFault}
use Rattle.audit_cmd.specs.declared.fault.AuditFault.TheVariants as faults
use Rattle.audit_cmd.specs.OneBook.{Causes}
use Rattle.audit_cmd.specs.Reading.{audit_causes}
use Rattle.audit_cmd.specs.Books.{AreTold, counts, IsLawfulBook, FaultOfFirst, FirstDecides, AreAuditedBy, FindsBy, IsOfLawful, told_book, CountsBy}
use Rattle.command_status.specs.declared.status.Status.{Status}
use Rattle.command_status.specs.Statuses.{number_of}
use Rattle.audit_cmd.specs.Reports.{IsReportStatus, audit_status, TellsBy, TellsAll, ReportsBy, CausesOf, ReportCauses, AreCalm, EndsReport}

-- ---- where lines are said

pub said_words : (lines : List ℕ) (status : Status) → IsReportStatus lines status → number_of status ≡ 2 → ⊥
said_words lines status (inl is) two = absurd (cc (ap number_of (sym is) ∙ two))
said_words lines status (inr is) two = absurd (cc (ap number_of (sym is) ∙ two))

pub said_ends : (lines : List ℕ) (status : Status) → IsReportStatus lines status → (number_of status ≡ 0) ⊎ (number_of status ≡ 5)
said_ends lines status (inl is) = inl (ap number_of is)
said_ends lines status (inr is) = inr (ap number_of is)

module _ {D : Type 0} (view : D → DiskView) (IsRead : List ℕ → Type 0) (before after : List D) where
  pub said_causes : (lines : List ℕ) (status : Status) → IsReportStatus lines status → counts view after ≡ counts view before → CausesOf view IsRead before status after
  said_causes lines status (inl is) same = subst (λ (s : Status). CausesOf view IsRead before s after) (sym is) same
  said_causes lines status (inr is) same = subst (λ (s : Status). CausesOf view IsRead before s after) (sym is) same

-- ---- where a fault is told

pub fault_words : (fault : AuditFault) → number_of (audit_status fault) ≡ 2 → ⊥
fault_words (faults.NotJournal book) two = absurd (cc two)
fault_words (faults.BadRecord book place) two = absurd (cc two)
fault_words (faults.BadChain book place stood computed) two = absurd (cc two)
fault_words (faults.Unlawful book place) two = absurd (cc two)
fault_words (faults.Disk book) two = absurd (cc two)
fault_words faults.BadBooks two = absurd (cc two)
fault_words (faults.MissingBook name) two = absurd (cc two)
fault_words (faults.Stranger book name id) two = absurd (cc two)
fault_words faults.NoMemory two = absurd (cc two)

module _ (A : Type 0) {D : Type 0} (view : D → DiskView) (IsRead : List ℕ → Type 0) (before after : List D) where
  pub fault_causes : (causes : Causes) (fault : AuditFault) → FaultOfFirst view causes IsRead before fault → CountsBy {A = A} (Err fault) (counts view before) (counts view after) → CausesOf view IsRead before (audit_status fault) after
  fault_causes causes (faults.NotJournal book) first is = is
  fault_causes causes (faults.BadRecord book place) first is = is
  fault_causes causes (faults.BadChain book place stood computed) first is = is
  fault_causes causes (faults.Unlawful book place) first is = is
  fault_causes causes (faults.Disk book) first is = record { book = book; rose = is; first = first }
  fault_causes causes faults.BadBooks first is = is
  fault_causes causes (faults.MissingBook name) first is = is
  fault_causes causes (faults.Stranger book name id) first is = is
  fault_causes causes faults.NoMemory first is = is

-- ---- books that are not reported

module _ (R : Type 0) {D : Type 0} (view : D → DiskView) (before after : List D) where
  fault_ends : (fault : AuditFault) → IsOfLawful {A = R} (Err fault) → AreCalm view before after → CountsBy {A = R} (Err fault) (counts view before) (counts view after) → EndsReport (number_of (audit_status fault))
  fault_ends (faults.NotJournal book) lawful calm is = absurd lawful
  fault_ends (faults.BadRecord book place) lawful calm is = absurd lawful
  fault_ends (faults.BadChain book place stood computed) lawful calm is = absurd lawful
  fault_ends (faults.Unlawful book place) lawful calm is = absurd lawful
  fault_ends (faults.Disk book) lawful calm is = absurd (calm book is)
  fault_ends faults.BadBooks lawful calm is = inr (inr (inl refl))
  fault_ends (faults.MissingBook name) lawful calm is = inr (inr (inl refl))
  fault_ends (faults.Stranger book name id) lawful calm is = inr (inr (inr refl))
  fault_ends faults.NoMemory lawful calm is = inr (inl refl)

or_told : {A B C E : Type 0} → A ⊎ B → A ⊎ (B ⊎ (C ⊎ E))
or_told (inl a) = inl a
or_told (inr b) = inr (inl b)

-- ---- whatever was found, by an audit that answers so and of which these lines are said

module _ {R : Type 0} (Audits : List History → Result R BooksFault → Type 0) (said : R → List ℕ) where
  module _ {D : Type 0} (view : D → DiskView) (disks : List D) where
    fault_reports : (fault : AuditFault) → IfSome (told_book {A = R} (Err fault)) (λ book. book < length disks) → FaultOfFirst view audit_causes IsLawfulBook disks fault
        → ((contents : List (List ℕ)) → AreTold view disks contents → FindsBy Audits contents (Err fault)) → ReportsBy view Audits said disks (audit_status fault)
    fault_reports (faults.NotJournal book) there first finds = (book, first)
    fault_reports (faults.BadRecord book place) there first finds = (book, first)
    fault_reports (faults.BadChain book place stood computed) there first finds = (stood, computed, (book, first))
    fault_reports (faults.Unlawful book place) there first finds = (book, first)
    fault_reports (faults.Disk book) there first finds = tt
    fault_reports faults.BadBooks there first finds = (tt, record { read = first; holds = finds })
    fault_reports (faults.MissingBook name) there first finds = (tt, record { read = first; holds = finds })
    fault_reports (faults.Stranger book name id) there first finds = (book, there, record { read = first; holds = finds })
    fault_reports faults.NoMemory there first finds = tt

    said_reports : (r : R) (status : Status) → IsReportStatus (said r) status → TellsAll view IsLawfulBook disks (λ books. AreAuditedBy Audits books (Ok r)) → ReportsBy view Audits said disks status
    said_reports r status (inl is) audited = subst (λ (s : Status). ReportsBy view Audits said disks s) (sym is) (r, refl, audited)
    said_reports r status (inr is) audited = subst (λ (s : Status). ReportsBy view Audits said disks s) (sym is) tt

    pub found_reports : (found : Result R AuditFault) (status : Status) → TellsBy said found status → IfSome (told_book found) (λ book. book < length disks) → FirstDecides view audit_causes IsLawfulBook disks found
        → ((contents : List (List ℕ)) → AreTold view disks contents → FindsBy Audits contents found) → ReportsBy view Audits said disks status
    found_reports (Ok r) status tells there first finds = said_reports r status tells (record { read = first; holds = finds })
    found_reports (Err fault) status tells there first finds = subst (λ (s : Status). ReportsBy view Audits said disks s) (sym tells) (fault_reports fault there first finds)

  pub found_words : (found : Result R AuditFault) (status : Status) → TellsBy said found status → number_of status ≡ 2 → ⊥
  found_words (Ok r) status tells two = said_words (said r) status tells two
  found_words (Err fault) status tells two = fault_words fault (ap number_of (sym tells) ∙ two)

  module _ {D : Type 0} (view : D → DiskView) (before after : List D) where
    pub found_causes : (found : Result R AuditFault) (status : Status) → TellsBy said found status → FirstDecides view audit_causes IsLawfulBook before found → CountsBy found (counts view before) (counts view after) → ReportCauses view before status after
    found_causes (Ok r) status tells first is = said_causes view IsLawfulBook before after (said r) status tells is
    found_causes (Err fault) status tells first is = subst (λ (s : Status). ReportCauses view before s after) (sym tells) (fault_causes R view IsLawfulBook before after audit_causes fault first is)

    pub found_ends : (found : Result R AuditFault) (status : Status) → TellsBy said found status → IsOfLawful found → AreCalm view before after → CountsBy found (counts view before) (counts view after) → EndsReport (number_of status)
    found_ends (Ok r) status tells lawful calm is = or_told (said_ends (said r) status tells)
    found_ends (Err fault) status tells lawful calm is = subst (λ (s : Status). EndsReport (number_of s)) (sym tells) (fault_ends R view before after fault lawful calm is)
