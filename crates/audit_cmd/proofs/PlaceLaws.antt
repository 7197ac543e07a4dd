-- What is found of the book at a place.
use Rattle.std.proofs.Common.{◌≡◌, ◌<◌, ℕ, List, length, Some, Result, Ok, Err, refl, ap, ◌∙◌}
use Rattle.std.specs.Prelude.{IfErr, slice_get, slice_set}
use Rattle.std.specs.List.{insert, remove}
use Rattle.mc_outside.specs.DiskView.{DiskView, OnlyRead}
use Rattle.scrip_journal.specs.declared.fault.HouseFault.{HouseFault}
use Rattle.scrip_journal.specs.declared.fault.HouseFault.TheVariants.{NotJournal, BadRecord, BadChain, Unlawful, WrongKind, NotEmpty, Disk, NoMemory}
use Rattle.book_opening.specs.Opening.{CountedBy}
use Rattle.audit_cmd.specs.OneBook.{Causes, ReadsBy, read_disk, said_of}
use Rattle.audit_cmd.specs.Books.{EndsReading}
use Rattle.audit_cmd.specs.Places.{FindsBook, CountsBook, ReadsAt}
use Rattle.audit_cmd.proofs.Zips.{put_back}

said_finds : {D X : Type 0} (causes : Causes) (keeps : List ℕ → X → Type 0) (place : ℕ) (bytes : List ℕ) (read : Result (D × X) (HouseFault D)) → ReadsBy causes keeps bytes read → FindsBook causes keeps place bytes (said_of place read)
said_finds causes keeps place bytes (Ok x) reads = reads
said_finds causes keeps place bytes (Err (NotJournal d)) reads = (refl, reads)
said_finds causes keeps place bytes (Err (BadRecord d at)) reads = (refl, reads)
said_finds causes keeps place bytes (Err (BadChain d at stood computed)) reads = (refl, reads)
said_finds causes keeps place bytes (Err (Unlawful d at)) reads = (refl, reads)
said_finds causes keeps place bytes (Err (WrongKind d)) reads = absurd reads
said_finds causes keeps place bytes (Err (NotEmpty d count)) reads = absurd reads
said_finds causes keeps place bytes (Err (Disk d)) reads = refl
said_finds causes keeps place bytes (Err (NoMemory d)) reads = tt

said_counts : {D X : Type 0} (place before after : ℕ) (read : Result (D × X) (HouseFault D)) → CountedBy read before after → CountsBook place (said_of place read) before after
said_counts place before after (Ok x) counts = counts
said_counts place before after (Err (NotJournal d)) counts = counts
said_counts place before after (Err (BadRecord d at)) counts = counts
said_counts place before after (Err (BadChain d at stood computed)) counts = counts
said_counts place before after (Err (Unlawful d at)) counts = counts
said_counts place before after (Err (WrongKind d)) counts = counts
said_counts place before after (Err (NotEmpty d count)) counts = absurd counts
said_counts place before after (Err (Disk d)) counts = (refl, counts)
said_counts place before after (Err (NoMemory d)) counts = counts

said_there : {D X : Type 0} (place : ℕ) (read : Result (D × X) (HouseFault D)) → IfErr (said_of place read) (EndsReading (λ book. book ≡ place))
said_there place (Ok x) = tt
said_there place (Err (NotJournal d)) = refl
said_there place (Err (BadRecord d at)) = refl
said_there place (Err (BadChain d at stood computed)) = refl
said_there place (Err (Unlawful d at)) = refl
said_there place (Err (WrongKind d)) = refl
said_there place (Err (NotEmpty d count)) = refl
said_there place (Err (Disk d)) = refl
said_there place (Err (NoMemory d)) = tt

-- what was read is put back where it was
pub put_read : {D : Type 0} (before middle after : List D) (place : ℕ) (disk read : D) → place < length before → middle ≡ remove before place → after ≡ insert middle place disk → disk ≡ read → after ≡ slice_set before place read
put_read {D = D} before middle after place disk read there taken put is =
    put ∙ ap (λ (l : List D). insert l place disk) taken ∙ put_back before place disk there ∙ ap (λ (d : D). slice_set before place d) is

-- what was read of a book, and how it is told
pub record IsRead {D X : Type 0} (view : D → DiskView) (moved : D → D → Type 0) (causes : Causes) (keeps : List ℕ → X → Type 0) (old : D) (read : Result (D × X) (HouseFault D)) : Type 0 where
  pub moves : moved old (read_disk read)
  pub only : OnlyRead (view old) (view (read_disk read))
  pub reads : (bytes : List ℕ) → (view old).contents ≡ Some bytes → ReadsBy causes keeps bytes read
  pub counts : CountedBy read (view old).faults (view (read_disk read)).faults

pub reads_at : {D X : Type 0} (view : D → DiskView) (moved : D → D → Type 0) (causes : Causes) (keeps : List ℕ → X → Type 0) (place : ℕ) (before after : List D) (old : D) (read : Result (D × X) (HouseFault D))
    → IsRead view moved causes keeps old read → slice_get before place ≡ Some old → after ≡ slice_set before place (read_disk read) → ReadsAt view moved causes keeps place before after (said_of place read)
reads_at view moved causes keeps place before after old read is there put = record {
  old = old;
  new = read_disk read;
  there = there;
  put = put;
  read = is.only;
  moves = is.moves;
  told = λ bytes told. said_finds causes keeps place bytes read (is.reads bytes told);
  count = said_counts place (view old).faults (view (read_disk read)).faults read is.counts;
  at = said_there place read;
}
