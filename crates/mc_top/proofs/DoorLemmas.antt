-- How serving a book with a door for its operator ends, where the book encodes a lawful history and no call failed: as without one.
use Rattle.std.proofs.Common.{◌≡◌, ◌≤◌, ◌⊎◌, inl, inr, ℕ, List, Option, Some, None, refl, ap, subst, arith}
use Rattle.mc_outside.specs.DiskView.{DiskView}
use Rattle.mc_outside.specs.LinkView.{LinkView, IsWhose}
use Rattle.house_core.specs.Session.{State}
use Rattle.house_state.specs.declared.offer.SiteKind.{SiteKind}
use Rattle.house_state.specs.Views.{kind_number}
use Rattle.house_state.specs.Learning.{Test, AllPass, untested}
use Rattle.house_state.proofs.PartLaws.{all_pass}
use Rattle.house_doors.specs.Commands.{Endings, Doubts}
use Rattle.house_doors.specs.declared.command.TheConstants.{MOST_TOLD}
use Rattle.house_doors.specs.Links.{Course, DoubtCourse, HadEither, DoubtsEither}
use Rattle.door_commands.specs.Open.{OpensLinksOf, OpensBook}
use Rattle.command_status.specs.declared.status.Status.{Status}
use Rattle.command_status.specs.declared.status.Status.TheVariants as ends
use Rattle.command_status.specs.Statuses.{number_of}
use Rattle.site_commands.specs.Serving.{HasSite, NotOpened, ServeCauses, ServeEnds}
use Rattle.site_commands.proofs.EndLemmas.{Calm, served_grew, served_well, unopened_grew, only_memory}
use Rattle.mc_top.specs.Programs.{ServesAt, Opens}

module _ {O : Type 0} (link : O → LinkView) (disk : O → DiskView) (Had : Course State) (Doubt : DoubtCourse State) (kind links : ℕ) (a b : O) where
  opened_grew : (bytes : List ℕ) (status : Status) → Calm link disk a b → ServeCauses link disk links a status b → OpensLinksOf link disk Had Doubt kind links bytes a status b → (link a).faults ≤ (link b).faults
  opened_grew bytes (ends.Served n) calm causes served = causes.1.0
  opened_grew bytes ends.DiskFault calm causes served = absurd (calm.disk' causes)
  opened_grew bytes ends.NoMemory calm causes served = let same : (link b).faults ≡ (link a).faults = ap (λ (u : LinkView). u.faults) served.link' in omega (arith, same)
  opened_grew bytes ends.LinkFault calm causes served = absurd (calm.link' causes.1.0)
  opened_grew bytes ends.Done calm causes served = absurd served
  opened_grew bytes (ends.Founded name) calm causes served = absurd served
  opened_grew bytes (ends.Proxied n paid) calm causes served = absurd served
  opened_grew bytes (ends.Did line) calm causes served = absurd served
  opened_grew bytes ends.BadWords calm causes served = absurd served
  opened_grew bytes (ends.Stranger name id) calm causes served = absurd served
  opened_grew bytes ends.NotJournal calm causes served = absurd served
  opened_grew bytes (ends.BadEntry place) calm causes served = absurd served
  opened_grew bytes (ends.BadChain place) calm causes served = absurd served
  opened_grew bytes (ends.UnlawfulEntry place) calm causes served = absurd served
  opened_grew bytes (ends.Refused f) calm causes served = absurd served

  opened_well : (bytes : List ℕ) (status : Status) → Calm link disk a b → ServeCauses link disk links a status b → OpensLinksOf link disk Had Doubt kind links bytes a status b → (number_of status ≡ 0) ⊎ (number_of status ≡ 5)
  opened_well bytes (ends.Served n) calm causes served = inl refl
  opened_well bytes ends.NoMemory calm causes served = inr refl
  opened_well bytes ends.DiskFault calm causes served = absurd (calm.disk' causes)
  opened_well bytes ends.LinkFault calm causes served = absurd (calm.link' causes.1.0)
  opened_well bytes ends.Done calm causes served = absurd served
  opened_well bytes (ends.Founded name) calm causes served = absurd served
  opened_well bytes (ends.Proxied n paid) calm causes served = absurd served
  opened_well bytes (ends.Did line) calm causes served = absurd served
  opened_well bytes ends.BadWords calm causes served = absurd served
  opened_well bytes (ends.Stranger name id) calm causes served = absurd served
  opened_well bytes ends.NotJournal calm causes served = absurd served
  opened_well bytes (ends.BadEntry place) calm causes served = absurd served
  opened_well bytes (ends.BadChain place) calm causes served = absurd served
  opened_well bytes (ends.UnlawfulEntry place) calm causes served = absurd served
  opened_well bytes (ends.Refused f) calm causes served = absurd served

  book_grew : (passes : Test) (bytes : List ℕ) (status : Status) → Calm link disk a b → ServeCauses link disk links a status b → OpensBook link disk Had Doubt passes kind links bytes a status b → (link a).faults ≤ (link b).faults
  book_grew passes bytes status calm causes (inl not) = unopened_grew link disk passes kind bytes a b status not
  book_grew passes bytes status calm causes (inr served) = opened_grew bytes status calm causes served

  book_well : (passes : Test) (status : Status) (has : HasSite kind (disk a)) → AllPass passes has.history → Calm link disk a b → ServeCauses link disk links a status b → OpensBook link disk Had Doubt passes kind links has.bytes a status b
      → (number_of status ≡ 0) ⊎ (number_of status ≡ 5)
  book_well passes status has pass calm causes (inl not) =
      inr (only_memory link disk passes kind (ServeEnds link disk links) has.history has.bytes a b status has.stands has.lawful pass has.of_kind calm causes not)
  book_well passes status has pass calm causes (inr served) = opened_well has.bytes status calm causes served

-- with a door or without
pub serving_grew : {O : Type 0} (link : O → LinkView) (disk : O → DiskView) (kind : SiteKind) (ends : Endings) (doubts : Doubts) (door : Option (List ℕ)) (links : ℕ) (a b : O) (status : Status) → HasSite (kind_number kind) (disk a)
    → Calm link disk a b → ServesAt link disk kind ends doubts door links a status b → (link a).faults ≤ (link b).faults
serving_grew link disk kind ends doubts None links a b status has calm serves = served_grew link disk untested (kind_number kind) links has.bytes a b status calm serves.0 (serves.1 has.bytes has.told)
serving_grew link disk kind ends doubts (Some path) links a b status has calm serves = book_grew link disk (HadEither IsWhose ends MOST_TOLD) (DoubtsEither IsWhose doubts MOST_TOLD) (kind_number kind) links a b untested has.bytes status calm serves.0 (serves.1 has.bytes has.told)

pub serving_well : {O : Type 0} (link : O → LinkView) (disk : O → DiskView) (kind : SiteKind) (ends : Endings) (doubts : Doubts) (door : Option (List ℕ)) (links : ℕ) (a b : O) (status : Status) (has : HasSite (kind_number kind) (disk a))
    → Calm link disk a b → ServesAt link disk kind ends doubts door links a status b → (number_of status ≡ 0) ⊎ (number_of status ≡ 5)
serving_well link disk kind ends doubts None links a b status has calm serves = served_well link disk untested (kind_number kind) links a b status has (all_pass has.history) calm serves.0 (serves.1 has.bytes has.told)
serving_well link disk kind ends doubts (Some path) links a b status has calm serves = book_well link disk (HadEither IsWhose ends MOST_TOLD) (DoubtsEither IsWhose doubts MOST_TOLD) (kind_number kind) links a b untested status has (all_pass has.history) calm serves.0 (serves.1 has.bytes has.told)

-- with one, of so many links
pub opens_at : {O : Type 0} (link : O → LinkView) (disk : O → DiskView) (kind : SiteKind) (ends : Endings) (doubts : Doubts) (path : List ℕ) (door : Option (List ℕ)) (n links : ℕ) (a b : O) (status : Status) → Some path ≡ door → n ≡ links
    → Opens link disk kind ends doubts n a status b → ServesAt link disk kind ends doubts door links a status b
opens_at link disk kind ends doubts path door n links a b status is so opens =
    subst (λ (d : Option (List ℕ)). ServesAt link disk kind ends doubts d links a status b) is (subst (λ (m : ℕ). Opens link disk kind ends doubts m a status b) so opens)
