-- What comes of reading the entries of a book one by one.
use Rattle.std.proofs.Common.{◌≡◌, ℕ, ◌+◌, ◌≤◌, Option, Some, None, Result, Ok, Err, List, [], ◌∷◌, ◌++◌, MatchResult, inl, inr, refl, sym, ◌∙◌, subst, arith, append-nil, append_assoc}
use Rattle.mc_outside.specs.DiskView.{DiskView, OnlyRead}
use Rattle.mc_outside.proofs.Runs.{read_then}
use Rattle.mc_records.specs.Entry.{Entry}
use Rattle.mc_records.specs.Following.{AllFollowBy}
use Rattle.mc_records.specs.Sizes.{size, entry_size}
use Rattle.mc_requests.specs.declared.limits.TheConstants.Limits.{MOST_JOURNAL}
use Rattle.scrip_journal.specs.Layout.{Encodes, IsSpoiled, IsUnchained}
use Rattle.scrip_journal.specs.States.{Reading, IsReading}
use Rattle.scrip_journal.specs.Replays.{Finds, IsMalformed, ReadsOn}
use Rattle.scrip_journal.specs.declared.ending.ReplayFault.{ReplayFault}
use Rattle.scrip_journal.specs.declared.ending.ReplayFault.TheVariants.{BadRecord, BadChain, Disk}
use Rattle.scrip_journal.specs.Causes.{IsOfKind, IsOfOther, BeginsWithEntries, IsUnlawfulAt}
use Rattle.scrip_journal.proofs.Bodies.{size_more}
use Rattle.scrip_journal.proofs.Reading.{bytes_told}
use Rattle.scrip_journal.proofs.Beginnings.{first_tells, empty_tells, kind_tells}
use Rattle.book_opening.specs.declared.opening.Halt.{Halt}
use Rattle.book_opening.specs.declared.opening.Halt.TheVariants as halts
use Rattle.book_opening.specs.Opener.{OpenerView}
use Rattle.book_opening.specs.Opening.{AreOfSite, HasLearned, ReadOn, LearnedSome, LearnedAll, HaltsBy, BeginsBy}

abbrev some : {A : Type 0} → A → Option A
some x = Some x

some_same : {A : Type 0} (x y : A) → some x ≡ some y → x ≡ y
some_same x y e = cc

-- ---- entries that follow one another

all_more : (may : List Entry → Entry → Type 0) (before h : List Entry) (e : Entry) → AllFollowBy may before h → may (before ++ h) e → AllFollowBy may before (h ++ e ∷ [])
all_more may before [] e follow more = (subst (λ (l : List Entry). may l e) (append-nil before) more, tt)
all_more may before (f ∷ h) e follow more = (follow.0, all_more may (before ++ f ∷ []) h e follow.1 (subst (λ (l : List Entry). may l e) (sym (append_assoc before (f ∷ []) h)) more))

module _ (kinds : ℕ → Type 0) where
  of_kind : (h : List Entry) → AreOfSite kinds h → IsOfKind kinds h
  of_kind [] is = tt
  of_kind (e ∷ es) is = is

  site_stays : (h : List Entry) (e : Entry) → AreOfSite kinds h → AreOfSite kinds (h ++ e ∷ [])
  site_stays [] e is = absurd is
  site_stays (f ∷ h) e is = is

  site_tells : (h : List Entry) (bytes : List ℕ) → AreOfSite kinds h → BeginsWithEntries h bytes → IsOfOther kinds bytes → ⊥
  site_tells [] bytes is begins other = is
  site_tells (e ∷ es) bytes is begins other = kind_tells kinds e es bytes is begins other

-- ---- a reading

-- a reading begins with the entries that were read
begins_so : {D : Type 0} (view : D → DiskView) (r : Reading D) (h : List Entry) (x : List ℕ) (is : IsReading view r h) → (view r.disk).contents ≡ Some x → BeginsWithEntries h x
begins_so view r h x is told = record { fits = is.fits; most = is.most; begins = (is.rest, sym (bytes_told view r h x is told) ∙ is.shape) }

-- there is room for it
pub entry_fits : {D : Type 0} (view : D → DiskView) (h : List Entry) (new : Reading D) (f : Entry) → IsReading view new (h ++ f ∷ []) → size h + entry_size h f ≤ MOST_JOURNAL
entry_fits view h new f is = omega (arith, size_more h f, is.most)

-- one stretch of a reading after another
pub read_on_then : {D : Type 0} (view : D → DiskView) (moved : D → D → Type 0) (a b c : Reading D) → moved a.disk c.disk → ReadOn view moved a b → ReadOn view moved b c → ReadOn view moved a c
read_on_then view moved a b c goes m n = record { disk_moved = goes; only_read = read_then (view a.disk) (view b.disk) (view c.disk) m.only_read n.only_read; limit = n.limit ∙ m.limit }

-- ---- behind entries that were learned

-- why no entry was read behind those that may follow one another
faulted : {D L : Type 0} (view : D → DiskView) (opener : OpenerView L) (x bytes : List ℕ) (gate : ℕ) (new : Reading D) (h : List Entry) → AllFollowBy opener.may [] h → IsOfKind opener.kinds h → bytes ≡ x
    → (fault : ReplayFault) → ReadsOn view h bytes gate (Err fault) new → HaltsBy opener x (halts.Reading fault)
faulted view opener x bytes gate new h follow of same (BadRecord place) reads = record { before = h; follow = follow; of_kind = of; reads = subst (λ (l : List ℕ). IsSpoiled h l place) same reads.0 }
faulted view opener x bytes gate new h follow of same (BadChain place stood computed) reads = record { before = h; follow = follow; of_kind = of; reads = subst (λ (l : List ℕ). IsUnchained h l place stood computed) same reads.0 }
faulted view opener x bytes gate new h follow of same Disk reads = tt

-- the payload found behind them is malformed
malformed : {D L : Type 0} (view : D → DiskView) (opener : OpenerView L) (x bytes : List ℕ) (new : Reading D) (h : List Entry) → AllFollowBy opener.may [] h → IsOfKind opener.kinds h → bytes ≡ x
    → (fault : ReplayFault) → IsMalformed new fault → Finds view h bytes new → HaltsBy opener x (halts.Reading fault)
malformed view opener x bytes new h follow of same fault (place, read, is) finds =
    subst (λ (f : ReplayFault). HaltsBy opener x (halts.Reading f)) (sym is)
    (record { before = h; follow = follow; of_kind = of; reads = subst (λ (l : List ℕ). IsSpoiled h l (new.at + place)) same (finds.malformed place read) })

module _ {D L : Type 0} (view : D → DiskView) (opener : OpenerView L) (x : List ℕ) (old new : Reading D) (learner : L)
    (told : (view old.disk).contents ≡ Some x) (h : List Entry) (reading : IsReading view old h) (l : HasLearned opener learner h) where
  pub none_left : ReadsOn view h reading.bytes old.gate (Ok None) new → LearnedAll view opener x new learner
  none_left reads = (h, subst (Encodes h) (bytes_told view old h x reading told) reads.0, reads.1, l)

  pub faults_here : (fault : ReplayFault) → ReadsOn view h reading.bytes old.gate (Err fault) new → HaltsBy opener x (halts.Reading fault)
  faults_here fault reads = faulted view opener x reading.bytes old.gate new h l.follow (of_kind opener.kinds h l.of_site) (bytes_told view old h x reading told) fault reads

  pub malformed_here : (fault : ReplayFault) → IsMalformed new fault → Finds view h reading.bytes new → HaltsBy opener x (halts.Reading fault)
  malformed_here fault bad finds = malformed view opener x reading.bytes new h l.follow (of_kind opener.kinds h l.of_site) (bytes_told view old h x reading told) fault bad finds

  pub learned_more : (m : L) (f : Entry) → IsReading view new (h ++ f ∷ []) → opener.may h f × opener.holds m (h ++ f ∷ []) → LearnedSome view opener new m
  learned_more m f is learns = (
    h ++ f ∷ [],
    is,
    record {
      holds' = learns.1;
      follow = all_more opener.may [] h f l.follow learns.0;
      of_site = site_stays opener.kinds h f l.of_site;
    },
  )

  pub breaks_here : (place : ℕ) (f : Entry) → OnlyRead (view old.disk) (view new.disk) → place ≡ old.gate → IsReading view new (h ++ f ∷ []) → (opener.may h f → ⊥) → IsUnlawfulAt opener.may opener.kinds x place
  breaks_here place f read at is breaks =
      let begins = begins_so view new (h ++ f ∷ []) x is (read.contents ∙ told) in (
        site_tells opener.kinds (h ++ f ∷ []) x (site_stays opener.kinds h f l.of_site) begins,
        inr (record {
          before = h;
          next = f;
          follow = l.follow;
          of_kind = of_kind opener.kinds h l.of_site;
          begins = begins;
          place_is = omega (arith, at, reading.gate_is);
          breaks = breaks;
        }),
      )

-- ---- the first entry

module _ {D L : Type 0} (view : D → DiskView) (opener : OpenerView L) (x : List ℕ) (old new : Reading D) (told : (view old.disk).contents ≡ Some x) where
  pub no_entries : (r : IsReading view old []) → ReadsOn view [] r.bytes old.gate (Ok None) new → IsUnlawfulAt opener.may opener.kinds x 8
  no_entries r reads =
      let stands : Encodes [] x = subst (Encodes []) (bytes_told view old [] x r told) reads.0 in
      (empty_tells opener.kinds x stands, inl (stands, refl))

  pub faults_first : (r : IsReading view old []) (fault : ReplayFault) → ReadsOn view [] r.bytes old.gate (Err fault) new → HaltsBy opener x (halts.Reading fault)
  faults_first r fault reads = faulted view opener x r.bytes old.gate new [] tt tt (bytes_told view old [] x r told) fault reads

  pub malformed_first : (r : IsReading view old []) (fault : ReplayFault) → IsMalformed new fault → Finds view [] r.bytes new → HaltsBy opener x (halts.Reading fault)
  malformed_first r fault bad finds = malformed view opener x r.bytes new [] tt tt (bytes_told view old [] x r told) fault bad finds

  pub first_learned : OnlyRead (view old.disk) (view new.disk) → (e : Entry) → IsReading view new (e ∷ []) → (result : Result L Halt) → BeginsBy opener e result → MatchResult result (LearnedSome view opener new) (HaltsBy opener x)
  first_learned read e is (Ok learner) begun = (e ∷ [], is, begun)
  first_learned read e is (Err (halts.Reading fault)) begun = absurd begun
  first_learned read e is (Err (halts.Unlawful place)) begun =
      let begins = begins_so view new (e ∷ []) x is (read.contents ∙ told) in (
        first_tells opener.kinds e [] x begins begun.2,
        inr (record {
          before = [];
          next = e;
          follow = tt;
          of_kind = tt;
          begins = begins;
          place_is = omega (arith, begun.0);
          breaks = begun.1;
        }),
      )
  first_learned read e is (Err halts.WrongKind) begun = record { first = e; other = begun; begins = begins_so view new (e ∷ []) x is (read.contents ∙ told) }
  first_learned read e is (Err halts.NoMemory) begun = tt
