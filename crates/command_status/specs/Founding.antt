-- What founding a book does with the clock and the disk, whoever founds it.
use Rattle.std.specs.Prelude.{◌≡◌, ℕ, List, [], ◌∷◌, IsSome}
use Rattle.mc_outside.specs.DiskView.{DiskView, Ran}
use Rattle.mc_outside.specs.LinkView.{LinkView}
use Rattle.mc_records.specs.Entry.{Entry}
use Rattle.scrip_journal.specs.Founds.{FoundImage}
use Rattle.millicent_http.specs.declared.clock.Clock.TheVariants.{OfLinks}
use Rattle.millicent_http.specs.Courses.{AreRead, with_readings}
use Rattle.command_status.specs.declared.status.Status.{Status}
use Rattle.command_status.specs.declared.status.Status.TheVariants as ends

-- The image of a crash pair, by how the command ended: where nothing was founded, one that a crash before could have left;
-- else one of founding by the Site entry.
abbrev pub FoundingImage : DiskView → Entry → Status → List ℕ → Type 0
FoundingImage before site (ends.Refused f) image = before.leaves image
FoundingImage before site ends.NoMemory image = before.leaves image
FoundingImage before site _ image = FoundImage before site image

-- A crash pair of it. Where what is sent is told, nothing was sent.
abbrev pub FoundPair : Type 0 → DiskView → Entry → Status → List ℕ → List ℕ → Type 0
FoundPair tells before site status image sent = FoundingImage before site status image × (tells → sent ≡ before.aside)

-- The clock was read once, at this moment, and each crash pair is of the Site entry.
pub record FoundAt {O : Type 0} (link : O → LinkView) (disk : O → DiskView) (site : Entry) (a : O) (status : Status) (b : O) (moment : ℕ) : Type 0 where
  pub read : AreRead OfLinks (moment ∷ []) (link a).readings (link b).readings
  pub rest : link b ≡ with_readings (link b).readings (link a)
  pub pairs : Ran (disk a) (disk b) (FoundPair (IsSome (link a).sessions) (disk a) site status)
