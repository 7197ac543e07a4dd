-- What founding a book leaves on the disk, step by step.
use Rattle.std.proofs.Common.{◌≡◌, inl, inr, ⊎_elim, ℕ, ◌≤◌, max, Some, Result, Ok, Err, List, [], ◌∷◌, ◌++◌, length, drop, append-nil, sym, ◌∙◌, ap, subst, arith}
use Rattle.mc_outside.specs.Bytes.{BeginsWith}
use Rattle.mc_outside.specs.DiskView.{DiskView, DiskGoes, LinkKeeps, IsSynced, OnlyRead, Ran}
use Rattle.mc_outside.proofs.Runs.{ran_then, ran_weaker, read_then}
use Rattle.mc_records.specs.Entry.{Entry}
use Rattle.scrip_journal.specs.Layout.{header, body, Encodes}
use Rattle.scrip_journal.specs.States.{AtRest, Reading, IsReading}
use Rattle.scrip_journal.specs.declared.fault.HouseFault.{HouseFault}
use Rattle.scrip_journal.specs.declared.fault.HouseFault.TheVariants.{NotJournal, BadRecord, BadChain, Unlawful, WrongKind, NotEmpty, Disk, NoMemory}
use Rattle.scrip_journal.specs.Opens.{NoLonger}
use Rattle.scrip_journal.specs.Exits.{EitherNoOutput}
use Rattle.scrip_journal.proofs.Reading.{some_same}
use Rattle.scrip_journal.specs.Founds.{IsFree, WasFree, NeedsEmptying, EmptiedImage, FoundsBookBy, ReadsOnly, ShortNoOutput, FoundImage, FoundNoOutput, ClearsSmall, EntersFirst, IsOfWriting}

pub ran_at : {D : Type 0} (view : D → DiskView) (a : DiskView) (d e : D) (P : List ℕ → List ℕ → Type 0) → e ≡ d → Ran a (view d) P → Ran a (view e) P
ran_at {D = D} view a d e P is ran = subst (λ (x : D). Ran a (view x) P) (sym is) ran

-- by the bytes that the disk tells
needs_emptying : (d : DiskView) (x : List ℕ) → d.contents ≡ Some x → length x ≤ 9 → (Encodes [] x → ⊥) → NeedsEmptying d
needs_emptying d x told small other bytes here =
    let same = some_same bytes x (sym here ∙ told) in
    (subst (λ (z : List ℕ). length z ≤ 9) (sym same) small, λ stands. other (subst (Encodes []) same stands))

was_free : (d : DiskView) (x : List ℕ) → d.contents ≡ Some x → IsFree x → WasFree d
was_free d x told free bytes here = subst (λ (z : List ℕ). IsFree z) (sym (some_same bytes x (sym here ∙ told))) free

-- such an image of a disk whose bytes were the same before
emptied_before : (a b : DiskView) (c : List ℕ) → b.contents ≡ a.contents → (b.leaves c → a.leaves c) → EmptiedImage b c → EmptiedImage a c
emptied_before a b c same left image = ⊎_elim (λ short. inl (short.0, λ bytes told. short.1 bytes (same ∙ told))) (λ l. inr (left l)) image

-- and of one at which only links worked since
pub found_before : (a b : DiskView) (e : Entry) (c : List ℕ) → LinkKeeps a b → FoundImage b e c → FoundImage a e c
found_before a b e c keeps image =
    ⊎_elim (λ emptied. inl (emptied_before a b c keeps.contents (keeps.leaves c).0 emptied)) (λ encoded. inr (λ bytes told. encoded.0 bytes (keeps.contents ∙ told), encoded.1)) image

-- what was only read left nothing new
pub read_short : (a b : DiskView) → OnlyRead a b → Ran a b (ShortNoOutput a)
read_short a b read = ran_weaker a b _ (ShortNoOutput a) read.ran (λ c s p. (inr p.0, p.1))

-- what was done to a disk that was read before
pub short_then : (a b d : DiskView) → OnlyRead a b → Ran b d (ShortNoOutput b) → Ran a d (ShortNoOutput a)
short_then a b d read ran = ran_then a b d (ShortNoOutput a) (read_short a b read) (ran_weaker b d (ShortNoOutput b) (ShortNoOutput a) ran (λ c s p. (emptied_before a b c read.contents (read.leaves c) p.0, p.1 ∙ read.aside)))

-- a small disk that was synced, and then founded; it did not encode the empty history
pub founded_short : (a b d : DiskView) (x : List ℕ) → OnlyRead a b → a.contents ≡ Some x → IsSynced a → length x ≤ 9 → (Encodes [] x → ⊥) → Ran b d (NoLonger b) → Ran a d (ShortNoOutput a)
founded_short a b d x read told synced small other ran =
    short_then a b d read (ran_weaker b d (NoLonger b) (ShortNoOutput b) ran (λ c s p. (inl (short c p.0.0 p.0.1 p.0.2, needs_emptying b x (read.contents ∙ told) small other), p.1)))
  where
    short : (c e : List ℕ) → b.leaves e → length c ≤ max 9 (length e) → length c ≤ 9
    short c e l le =
        let is : length e ≡ length x = ap (λ (z : List ℕ). length z) (synced x told e (read.leaves e l)) in
        omega (arith, le, is, small)

-- a reading was synced, and still is where it was only read since
reading_synced : {D : Type 0} (view : D → DiskView) (r : Reading D) (h : List Entry) (b : DiskView) → IsReading view r h → OnlyRead (view r.disk) b → IsSynced b
reading_synced view r h b is read x told c l = is.synced c (read.leaves c l) ∙ some_same is.bytes x (sym is.told ∙ (sym read.contents ∙ told))

-- a journal was opened and read on, and then emptied
pub read_then_emptied : {D : Type 0} (view : D → DiskView) (a : DiskView) (r : Reading D) (b d : D) (x : List ℕ) → OnlyRead a (view r.disk) → IsReading view r [] → a.contents ≡ Some x → OnlyRead (view r.disk) (view b) → (Encodes [] x → ⊥)
    → ((z : List ℕ) → (view b).contents ≡ Some z → (Encodes [] z → ⊥) → IsSynced (view b) → Ran (view b) (view d) (ShortNoOutput (view b))) → Ran a (view d) (ShortNoOutput a)
read_then_emptied view a r b d x opened is told read other emptied =
    let all = read_then a (view r.disk) (view b) opened read in
    short_then a (view b) (view d) all (emptied x (all.contents ∙ told) other (reading_synced view r [] (view b) is read))

-- no entry was written
pub short_found : (a b : DiskView) (e : Entry) → Ran a b (ShortNoOutput a) → Ran a b (FoundNoOutput a e)
short_found a b e ran = ran_weaker a b (ShortNoOutput a) (FoundNoOutput a e) ran (λ c s p. (inl p.0, p.1))

-- and then the entry was written
pub found_quiet : (a b d : DiskView) (e : Entry) (x : List ℕ) → a.contents ≡ Some x → IsFree x → DiskGoes a b → Ran a b (ShortNoOutput a) → Ran b d (EitherNoOutput [] e b.aside) → Ran a d (FoundNoOutput a e)
found_quiet a b d e x told free goes first then' =
    ran_then a b d (FoundNoOutput a e) (short_found a b e first) (ran_weaker b d (EitherNoOutput [] e b.aside) (FoundNoOutput a e) then' (λ c s p. (inr (was_free a x told free, p.0), p.1 ∙ goes.aside)))

-- ---- which bytes encode no entries

head_same : {A : Type 0} (x y : A) (xs ys : List A) → x ∷ xs ≡ y ∷ ys → x ≡ y
head_same x y xs ys e = cc

-- those that do begin with the header
pub empty_begins : (x : List ℕ) → Encodes [] x → BeginsWith header x
empty_begins x st = (st.gate ∷ st.rest, st.shape ∙ ap (λ (l : List ℕ). l ++ st.gate ∷ st.rest) (append-nil header))

-- those with an open gate behind it do not
pub no_more : (bytes x rest : List ℕ) → bytes ≡ body [] ++ 1 ∷ rest → bytes ≡ x → Encodes [] x → ⊥
unfolding header
no_more bytes x rest is same st = st.closed (sym (head_same 1 st.gate _ _ (ap (λ (l : List ℕ). drop 8 l) (sym is ∙ same ∙ st.shape))))

-- a small disk is free, and one that is not is taken, where it does not stand for no entries
pub cleared : {D : Type 0} (view : D → DiskView) (x : List ℕ) (result : Result (AtRest D) (HouseFault D)) → (Encodes [] x → ⊥) → ClearsSmall view x result → FoundsBookBy view [] x result
cleared view x (Ok j) other is = (is.0, inr is.1)
cleared view x (Err (NotJournal d)) other is = is
cleared view x (Err (BadRecord d place)) other is = is
cleared view x (Err (BadChain d place stood computed)) other is = is
cleared view x (Err (Unlawful d place)) other is = is
cleared view x (Err (WrongKind d)) other is = is
cleared view x (Err (NotEmpty d count)) other is = record { count_is = is.0; many = is.1; other = other }
cleared view x (Err (Disk d)) other is = tt
cleared view x (Err (NoMemory d)) other is = tt

-- and where the first entry was written on a free disk the book is founded
pub founded : {D : Type 0} (view : D → DiskView) (e : Entry) (x : List ℕ) (result : Result (AtRest D) (HouseFault D)) → IsFree x → EntersFirst view e result → FoundsBookBy view (e ∷ []) x result
founded view e x (Ok j) free is = (is, free)
founded view e x (Err (NotJournal d)) free is = is
founded view e x (Err (BadRecord d place)) free is = is
founded view e x (Err (BadChain d place stood computed)) free is = is
founded view e x (Err (Unlawful d place)) free is = is
founded view e x (Err (WrongKind d)) free is = is
founded view e x (Err (NotEmpty d count)) free is = absurd is
founded view e x (Err (Disk d)) free is = tt
founded view e x (Err (NoMemory d)) free is = tt

-- what no fault leaves unwritten, on a disk that was free
pub wrote : {D A : Type 0} (view : D → DiskView) (disk : D) (result : Result A (HouseFault D)) → WasFree (view disk) → IsOfWriting result → ReadsOnly view disk result
wrote view disk (Ok x) free is = tt
wrote view disk (Err (NotJournal d)) free is = tt
wrote view disk (Err (BadRecord d place)) free is = tt
wrote view disk (Err (BadChain d place stood computed)) free is = tt
wrote view disk (Err (Unlawful d place)) free is = tt
wrote view disk (Err (WrongKind d)) free is = tt
wrote view disk (Err (NotEmpty d count)) free is = absurd is
wrote view disk (Err (Disk d)) free is = λ x told taken. absurd (taken (free x told))
wrote view disk (Err (NoMemory d)) free is = absurd is

-- what was read before
pub read_before : {D A : Type 0} (view : D → DiskView) (disk m : D) (result : Result A (HouseFault D)) → OnlyRead (view disk) (view m) → ReadsOnly view m result → ReadsOnly view disk result
read_before view disk m (Ok x) read is = tt
read_before view disk m (Err (NotJournal d)) read is = tt
read_before view disk m (Err (BadRecord d place)) read is = tt
read_before view disk m (Err (BadChain d place stood computed)) read is = tt
read_before view disk m (Err (Unlawful d place)) read is = tt
read_before view disk m (Err (WrongKind d)) read is = tt
read_before view disk m (Err (NotEmpty d count)) read is = read_then (view disk) (view m) (view d) read is
read_before view disk m (Err (Disk d)) read is = λ x told taken. read_then (view disk) (view m) (view d) read (is x (read.contents ∙ told) taken)
read_before view disk m (Err (NoMemory d)) read is = read_then (view disk) (view m) (view d) read is
