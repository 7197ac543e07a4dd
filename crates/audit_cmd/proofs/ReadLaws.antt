-- What a reader that learned a history has kept of it.
use Rattle.std.proofs.Common.{[], ◌∷◌, Err}
use Rattle.std.specs.List.{AllByRecursion}
use Rattle.mc_records.specs.Entry.{Entry, Fits}
use Rattle.mc_records.specs.Following.{AllFollowBy}
use Rattle.mc_requests.specs.declared.limits.Limits.{Limits}
use Rattle.mc_requests.specs.declared.limits.TheConstants.Limits.{FULL}
use Rattle.ledger_model.specs.Histories.{History}
use Rattle.ledger_model.specs.Houses.{IsHouseKind}
use Rattle.ledger_model.specs.Lawful.{MayFollow, IsLawful}
use Rattle.scrip_journal.specs.declared.fault.LearnFault.{LearnFault}
use Rattle.scrip_journal.specs.declared.fault.LearnFault.TheVariants as faults
use Rattle.book_opening.specs.Opener.{Learns}
use Rattle.book_opening.specs.Opening.{AreOfSite, HasLearned}
use Rattle.house_state.specs.Learning.{Passes}
use Rattle.house_state.specs.Trade.{TradeView}
use Rattle.house_core.specs.BenchView.{BenchView}
use Rattle.house_core.specs.Bench.{Replays}
use Rattle.audit_sums.specs.Learned.{SumsRepresent}
use Rattle.audit_search.specs.Audit.{IsLearned}
use Rattle.audit_cmd.specs.Reading.{HasRead, kept_by, auditor}
use Rattle.audit_cmd.specs.declared.reading.BookReader.{BookReader}
use Rattle.audit_cmd.specs.declared.reading.BookReader.TheVariants as readers

sums_of_reader : (r : BookReader) (h : History) → HasRead r h → SumsRepresent (kept_by r) h
sums_of_reader (readers.Vendor r) h reads = reads.sums'
sums_of_reader (readers.Broker r) h reads = reads.sums'

lawful_is : (h : History) → AllFollowBy (MayFollow FULL) [] h → AreOfSite IsHouseKind h → IsLawful FULL h
lawful_is [] follow site = absurd site
lawful_is (e ∷ es) follow site = follow

pub kept_learned : (r : BookReader) (h : History) → HasLearned auditor r h → AllByRecursion Fits h → IsLearned FULL (kept_by r) h
kept_learned r h learned fits = record { sums = sums_of_reader r h learned.holds'; lawful = lawful_is h learned.follow learned.of_site; fits = fits }

-- why an entry was not learned by a house whose trade takes it where it is a Note
pub fault_told : {T A : Type 0} (X : Type 0) (trade : T → TradeView) (passes : History → Entry → Type 0) (b : BenchView T) (limits : Limits) (holds : A → History → Type 0) (h : History) (e : Entry) → Passes passes h e
    → (fault : LearnFault) → Replays {X = X} trade passes b limits h e (Err fault) → Learns (MayFollow limits) holds h e (Err fault)
fault_told X trade passes b limits holds h e passed faults.Unlawful replays = λ may. replays (record { follows = may; passed = passed })
fault_told X trade passes b limits holds h e passed faults.NoMemory replays = tt
