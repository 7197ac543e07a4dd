-- The disk of a journal, while an entry is staged and its gate is opened.
use Rattle.std.proofs.Common.{◌≡◌, ℕ, ◌+◌, List, Result, Err, inl, ap, subst, arith}
use Rattle.mc_outside.specs.DiskView.{DiskView, DiskGoes, OnlyRead, Ran}
use Rattle.mc_outside.proofs.Runs.{ran_then, ran_weaker}
use Rattle.mc_records.specs.Entry.{Entry}
use Rattle.mc_records.specs.Chains.{has_switch}
use Rattle.mc_records.specs.Sizes.{tail_bytes, size, entry_size}
use Rattle.mc_records.proofs.SizeLaws.{length-tail, tail_size-by}
use Rattle.scrip_journal.specs.States.{AtRest, IsJournal}
use Rattle.scrip_journal.specs.Rests.{journal_leaves}
use Rattle.scrip_journal.specs.Exits.{staged_disk, written_disk, size_with, RoomBy, EncodesNoOutput, EitherNoOutput}
use Rattle.scrip_journal.specs.declared.journal.StageFault.{StageFault}
use Rattle.scrip_journal.specs.declared.journal.StageFault.TheVariants.{Full, Disk}

-- first it was staged, and then its gate was opened
pub ran_written : (a b d : DiskView) (h : List Entry) (e : Entry) → DiskGoes a b → Ran a b (EncodesNoOutput h a.aside) → Ran b d (EitherNoOutput h e b.aside) → Ran a d (EitherNoOutput h e a.aside)
ran_written a b d h e goes first then' =
    ran_then a b d (EitherNoOutput h e a.aside) (ran_weaker a b (EncodesNoOutput h a.aside) (EitherNoOutput h e a.aside) first (λ c s quiet. (inl quiet.0, quiet.1)))
    (subst (λ (x : List ℕ). Ran b d (EitherNoOutput h e x)) goes.aside then')

-- it was not staged
pub ran_unstaged : {D : Type 0} (view : D → DiskView) (a : DiskView) (h : List Entry) (e : Entry) (aside : List ℕ) (f : StageFault D)
    → Ran a (view (staged_disk (Err f))) (EncodesNoOutput h aside) → Ran a (view (written_disk (Err f))) (EitherNoOutput h e aside)
ran_unstaged view a h e aside (Full j) ran = ran_weaker a (view j.disk) _ _ ran (λ c s quiet. (inl quiet.0, quiet.1))
ran_unstaged view a h e aside (Disk d) ran = ran_weaker a (view d) _ _ ran (λ c s quiet. (inl quiet.0, quiet.1))

-- the disk of a journal was read
pub ran_read : {D : Type 0} (view : D → DiskView) (j : AtRest D) (h : List Entry) (b : DiskView) → IsJournal view j h → OnlyRead (view j.disk) b → Ran (view j.disk) b (EncodesNoOutput h (view j.disk).aside)
ran_read view j h b is read = ran_weaker (view j.disk) b _ _ read.ran (λ c s quiet. (journal_leaves view j h is c quiet.0, quiet.1))

-- and then an entry was staged
pub ran_read_then : {D : Type 0} (view : D → DiskView) (j : AtRest D) (h : List Entry) (b d : DiskView) → IsJournal view j h → OnlyRead (view j.disk) b → Ran b d (EncodesNoOutput h b.aside) → Ran (view j.disk) d (EncodesNoOutput h (view j.disk).aside)
ran_read_then view j h b d is read then' =
    ran_then (view j.disk) b d (EncodesNoOutput h (view j.disk).aside) (ran_read view j h b is read) (subst (λ (x : List ℕ). Ran b d (EncodesNoOutput h x)) read.aside then')

-- what the journal needs for an entry, by its entries
pub room_by : {D A : Type 0} (j : AtRest D) (e : Entry) (r : Result A (StageFault D)) (h : List Entry) → j.size ≡ size h → j.switched ≡ has_switch h → RoomBy r j.limit (size_with j e) → RoomBy r j.limit (size h + entry_size h e)
room_by j e r h size_is switched room = subst (λ (n : ℕ). RoomBy r j.limit n) (omega (arith, size_is, ap tail_bytes switched, length-tail h e, tail_size-by h)) room
