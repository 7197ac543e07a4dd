-- How telling the chains of books ends, by what was found of them.
use Rattle.std.proofs.Common.{◌≡◌, ◌<◌, inl, inr, ℕ, List, length, Ok, Err, Result, refl, sym, ap, ◌∙◌, subst}
use Rattle.std.specs.Prelude.{IfOk, IfErr}
use Rattle.std.specs.Global.{Vec}
use Rattle.std.specs.List.{AllZip}
use Rattle.mc_outside.specs.DiskView.{DiskView}
use Rattle.audit_cmd.specs.declared.chain_reading.ChainLine.{ChainLine}
use Rattle.audit_cmd.specs.declared.fault.AuditFault.{AuditFault}
use Rattle.audit_cmd.specs.declared.fault.AuditFault.TheVariants as faults
use Rattle.audit_cmd.specs.Books.{AreTold, counts, FaultOfFirst, EndsReading, IsOfLawful, CountsBy}
use Rattle.audit_cmd.specs.Chains.{IsLineOf, HasLine, chain_causes, ChainsDecide}
use Rattle.command_status.specs.declared.status.Status.{Status}
use Rattle.command_status.specs.Statuses.{number_of}
use Rattle.audit_cmd.specs.Reports.{chain_lines, IsReportStatus, audit_status, TellsLines, TellsAll, TellsChains, ChainCauses, AreCalm, EndsChains}
use Rattle.audit_cmd.proofs.ReportLaws.{said_words, said_ends, said_causes, fault_words, fault_causes}

-- ---- where a book has no line

module _ {D : Type 0} (view : D → DiskView) (disks : List D) where
  fault_tells : (fault : AuditFault) → EndsReading (λ book. book < length disks) fault → FaultOfFirst view chain_causes HasLine disks fault → TellsChains view disks (audit_status fault)
  fault_tells (faults.NotJournal book) there first = (book, first)
  fault_tells (faults.BadRecord book place) there first = (book, first)
  fault_tells (faults.BadChain book place stood computed) there first = (stood, computed, (book, first))
  fault_tells (faults.Unlawful book place) there first = (book, first)
  fault_tells (faults.Disk book) there first = tt
  fault_tells faults.BadBooks there first = absurd there
  fault_tells (faults.MissingBook name) there first = absurd there
  fault_tells (faults.Stranger book name id) there first = absurd there
  fault_tells faults.NoMemory there first = tt

  said_tells : (lines : List ChainLine) (status : Status) → IsReportStatus (chain_lines lines) status → TellsAll view HasLine disks (λ books. AllZip IsLineOf books lines) → TellsChains view disks status
  said_tells lines status (inl is) are = subst (λ (s : Status). TellsChains view disks s) (sym is) (lines, refl, are)
  said_tells lines status (inr is) are = subst (λ (s : Status). TellsChains view disks s) (sym is) tt

module _ {D : Type 0} (view : D → DiskView) (before after : List D) where
  fault_ends : (fault : AuditFault) → IsOfLawful {A = Vec ChainLine} (Err fault) → EndsReading (λ book. book < length before) fault → AreCalm view before after → CountsBy {A = Vec ChainLine} (Err fault) (counts view before) (counts view after)
      → EndsChains (number_of (audit_status fault))
  fault_ends (faults.NotJournal book) lawful there calm is = absurd lawful
  fault_ends (faults.BadRecord book place) lawful there calm is = absurd lawful
  fault_ends (faults.BadChain book place stood computed) lawful there calm is = absurd lawful
  fault_ends (faults.Unlawful book place) lawful there calm is = absurd lawful
  fault_ends (faults.Disk book) lawful there calm is = absurd (calm book is)
  fault_ends faults.BadBooks lawful there calm is = absurd there
  fault_ends (faults.MissingBook name) lawful there calm is = absurd there
  fault_ends (faults.Stranger book name id) lawful there calm is = absurd there
  fault_ends faults.NoMemory lawful there calm is = inr refl

-- ---- whatever was found

pub lines_words : (found : Result (Vec ChainLine) AuditFault) (status : Status) → TellsLines found status → number_of status ≡ 2 → ⊥
lines_words (Ok lines) status tells two = said_words (chain_lines lines.items) status tells two
lines_words (Err fault) status tells two = fault_words fault (ap number_of (sym tells) ∙ two)

pub lines_tell : {D : Type 0} (view : D → DiskView) (disks : List D) (found : Result (Vec ChainLine) AuditFault) (status : Status) → TellsLines found status → IfErr found (EndsReading (λ book. book < length disks)) → ChainsDecide view disks found
    → IfOk found (λ lines. (contents : List (List ℕ)) → AreTold view disks contents → AllZip IsLineOf contents lines.items) → TellsChains view disks status
lines_tell view disks (Ok lines) status tells there first finds = said_tells view disks lines.items status tells (record { read = first; holds = finds })
lines_tell view disks (Err fault) status tells there first finds = subst (λ (s : Status). TellsChains view disks s) (sym tells) (fault_tells view disks fault there first)

module _ {D : Type 0} (view : D → DiskView) (before after : List D) where
  pub lines_causes : (found : Result (Vec ChainLine) AuditFault) (status : Status) → TellsLines found status → ChainsDecide view before found → CountsBy found (counts view before) (counts view after) → ChainCauses view before status after
  lines_causes (Ok lines) status tells first is = said_causes view HasLine before after (chain_lines lines.items) status tells is
  lines_causes (Err fault) status tells first is = subst (λ (s : Status). ChainCauses view before s after) (sym tells) (fault_causes (Vec ChainLine) view HasLine before after chain_causes fault first is)

  pub lines_end : (found : Result (Vec ChainLine) AuditFault) (status : Status) → TellsLines found status → IsOfLawful found → IfErr found (EndsReading (λ book. book < length before)) → AreCalm view before after
      → CountsBy found (counts view before) (counts view after) → EndsChains (number_of status)
  lines_end (Ok lines) status tells lawful there calm is = said_ends (chain_lines lines.items) status tells
  lines_end (Err fault) status tells lawful there calm is = subst (λ (s : Status). EndsChains (number_of s)) (sym tells) (fault_ends view before after fault lawful there calm is)
