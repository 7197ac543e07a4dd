-- How entries that were read are passed once more.
use Rattle.std.proofs.Common.{◌≡◌, ℕ, ◌+◌, ◌<◌, ◌≤◌, false, List, [], ◌∷◌, ◌++◌, length, drop, Option, Some, None, refl, sym, ◌∙◌, ap, subst, arith, append-nil, append_assoc}
use Rattle.std.specs.Prelude.{IsSome}
use Rattle.std.specs.List.{AllByRecursion}
use Rattle.std.specs.Int.{to_be_bytes, from_be_bytes, w32}
use Rattle.std.proofs.lemmas.List.{append_cancel_left}
use Rattle.std.proofs.lemmas.Nat.{from_be_bytes-to_be_bytes_4}
use Rattle.mc_outside.specs.Bytes.{BeginsWith}
use Rattle.mc_outside.specs.DiskView.{DiskView, OnlyRead}
use Rattle.mc_requests.specs.declared.limits.TheConstants.Limits.{MOST_JOURNAL}
use Rattle.mc_records.specs.Entry.{Entry, Fits, payload}
use Rattle.mc_records.specs.Chains.{first_chain, chain}
use Rattle.mc_records.specs.Sizes.{size, tail, tail_by}
use Rattle.mc_records.specs.declared.sizes.TheConstants.{PAYLOAD_BOUND}
use Rattle.mc_records.proofs.PayloadSizes.{payload_is_short}
use Rattle.mc_records.proofs.ChainLaws.{chain-none}
use Rattle.scrip_journal.specs.Layout.{header, framed, gated, body, Encodes, Next, entered, next_of}
use Rattle.scrip_journal.specs.States.{AtRest, Reading, IsJournal, IsReading, IsChainOf, EndedBy, known_chain}
use Rattle.scrip_journal.specs.Replays.{ReadAhead, EndsHere, IsFrame, TookEntry, LookedOn, Passes, RestsBehind}
use Rattle.scrip_journal.specs.declared.ending.Ending.{Ending}
use Rattle.scrip_journal.specs.declared.ending.Ending.TheVariants.{Closed, Spoiled, Unchained, Failed}
use Rattle.scrip_journal.specs.declared.replay.Found.{Found}
use Rattle.scrip_journal.proofs.Beginnings.{size_apart, size_grows}
use Rattle.scrip_journal.proofs.Known.{chain_known}
use Rattle.scrip_journal.proofs.Looked.{ends_reading}
use Rattle.scrip_journal.proofs.Reading.{some_same, still_reading, next_reading}
use Rattle.scrip_journal.proofs.Unique.{append_split, entered_there}

-- ---- the entry that comes next

gated_apart : (front before es : List Entry) → gated front (before ++ es) ≡ gated front before ++ gated (front ++ before) es
gated_apart front [] es = ap (λ (l : List Entry). gated l es) (sym (append-nil front))
gated_apart front (x ∷ xs) es =
    ap (λ (l : List ℕ). 1 ∷ (framed front x ++ l)) (gated_apart (front ++ x ∷ []) xs es ∙ ap (λ (b : List Entry). gated (front ++ x ∷ []) xs ++ gated b es) (append_assoc front (x ∷ []) xs))
    ∙ sym (append_assoc (1 ∷ framed front x) (gated (front ++ x ∷ []) xs) (gated (front ++ x ∷ xs) es))

body_apart : (before es : List Entry) → body (before ++ es) ≡ body before ++ gated before es
body_apart before es = ap (λ (l : List ℕ). header ++ l) (gated_apart [] before es) ∙ sym (append_assoc header (gated [] before) (gated before es))

fits_at : (before es : List Entry) (x : Entry) → AllByRecursion Fits (before ++ x ∷ es) → Fits x
fits_at [] es x all = all.0
fits_at (y ∷ before) es x all = fits_at before es x all.1

-- behind some entries the bytes go on with this one, where they begin with them and with it
goes_on : (before more : List Entry) (x : Entry) (bytes rest s : List ℕ) → bytes ≡ body before ++ rest → bytes ≡ body (before ++ x ∷ more) ++ s → rest ≡ 1 ∷ (framed before x ++ (gated (before ++ x ∷ []) more ++ s))
goes_on before more x bytes rest s shape begins =
    let left : List ℕ = gated (before ++ x ∷ []) more ++ s in
    let whole : body before ++ rest ≡ body before ++ (1 ∷ (framed before x ++ left)) =
    sym shape ∙ begins ∙ ap (λ (l : List ℕ). l ++ s) (body_apart before (x ∷ more)) ∙ append_assoc (body before) (gated before (x ∷ more)) s
    ∙ ap (λ (l : List ℕ). body before ++ (1 ∷ l)) (append_assoc (framed before x) (gated (before ++ x ∷ []) more) s) in
    append_cancel_left (body before) rest (1 ∷ (framed before x ++ left)) whole

-- so it comes next
comes_next : (before more : List Entry) (x : Entry) (bytes rest s : List ℕ) → AllByRecursion Fits (before ++ x ∷ more) → size (before ++ x ∷ more) ≤ MOST_JOURNAL → bytes ≡ body before ++ rest → bytes ≡ body (before ++ x ∷ more) ++ s
    → next_of before rest ≡ entered x
comes_next before more x bytes rest s fits most shape begins =
    ap (next_of before) (goes_on before more x bytes rest s shape begins) ∙ entered_there before x (gated (before ++ x ∷ []) more ++ s) (fits_at before more x fits) (size_grows before more x most)

-- a length that is spelled, and so many bytes behind it, are those of an entry that stands there
one_payload : (before : List Entry) (x : Entry) (n : ℕ) (p r s : List ℕ) → Fits x → n < PAYLOAD_BOUND → length p ≡ n → 1 ∷ (to_be_bytes w32 n ++ (p ++ r)) ≡ 1 ∷ (framed before x ++ s) → p ≡ payload x
unfolding framed
one_payload before x n p r s fits short len same =
    let m = length (payload x) in
    let front = to_be_bytes w32 n in
    let spelled = to_be_bytes w32 m in
    let back : List ℕ = tail before x ++ s in
    let right : framed before x ++ s ≡ spelled ++ (payload x ++ back) = append_assoc spelled (payload x ++ tail before x) s ∙ ap (λ (l : List ℕ). spelled ++ l) (append_assoc (payload x) (tail before x) s) in
    let parts = append_split front spelled (p ++ r) (payload x ++ back) refl (ap (λ (l : List ℕ). drop 1 l) same ∙ right) in
    let of_n = from_be_bytes-to_be_bytes_4 n (omega (arith, short)) in
    let of_m = from_be_bytes-to_be_bytes_4 m (omega (arith, payload_is_short x fits)) in
    let lengths : n ≡ m = sym of_n ∙ ap (λ (l : List ℕ). from_be_bytes w32 l) parts.0 ∙ of_m in
    (append_split p (payload x) r back (len ∙ lengths) parts.1).0

-- a reading does not end there
abbrev pub IsFailed : Ending → Type 0
IsFailed Failed = Unit {0}
IsFailed _ = ⊥

no_stop : (e : Ending) (n : Next) (x : Entry) → n ≡ entered x → EndedBy (Some e) n → IsFailed e
no_stop Closed n x is by = cc (sym by ∙ is)
no_stop (Spoiled place) n x is by = cc (sym by ∙ is)
no_stop (Unchained place stood computed) n x is by = cc (sym by ∙ is)
no_stop Failed n x is by = tt

-- ---- entries that are passed

module _ {D : Type 0} (view : D → DiskView) (a : Reading D) (h : List Entry) (p : Passes view a h) where
  -- some are behind the gate
  some_behind : a.gate + 1 < size h → (x : Entry) × (more : List Entry) × (p.behind ≡ x ∷ more)
  some_behind less = go p.behind p.parts where
    go : (es : List Entry) → h ≡ p.passed ++ es → (x : Entry) × (more : List Entry) × (es ≡ x ∷ more)
    go [] is = absurd (omega (arith, less, p.reading.gate_is, ap (λ (l : List Entry). size l) (is ∙ append-nil p.passed)))
    go (x ∷ more) is = (x, more, refl)

  -- one of them is next
  next_there : (x : Entry) (more : List Entry) → p.behind ≡ x ∷ more → next_of p.passed p.reading.rest ≡ entered x
  next_there x more is =
      let parts : h ≡ p.passed ++ x ∷ more = p.parts ∙ ap (λ (l : List Entry). p.passed ++ l) is in
      comes_next p.passed more x p.reading.bytes p.reading.rest p.begins.0 (subst (AllByRecursion Fits) parts p.fits) (subst (λ (l : List Entry). size l ≤ MOST_JOURNAL) parts p.most) p.reading.shape
      (p.begins.1 ∙ ap (λ (l : List Entry). body l ++ p.begins.0) parts)

  -- none are left behind the gate
  pub all_passed : IsSome a.chain → size h ≤ a.gate + 1 → known_chain a.chain ≡ chain h
  all_passed known most = chain_known a.chain p.passed p.reading.chain_is known ∙ ap (λ (l : List Entry). chain l) (sym (go p.behind p.parts)) where
    go : (es : List Entry) → h ≡ p.passed ++ es → h ≡ p.passed
    go [] is = is ∙ append-nil p.passed
    go (x ∷ more) is = absurd (omega (arith, most, p.reading.gate_is, ap (λ (l : List Entry). size l) is, size_apart [] p.passed (x ∷ more)))

  -- a reading that goes on before that gate ends by a fault of the disk alone
  pub ends_not : (e : Ending) → a.gate + 1 < size h → EndsHere view a e → IsFailed e
  ends_not e less ends =
      let b = some_behind less in
      no_stop e (next_of p.passed p.reading.rest) b.0 (next_there b.0 b.1 b.2) (ends_reading view a e ends p.passed p.reading)

  -- the next one is passed
  pub passes_more : (b new : Reading D) (f : Found) (place : ℕ) → a.gate + 1 < size h → ReadAhead view a b → a.ended ≡ None → IsSome b.chain → (g : IsFrame f b.switched b.chain b.gate b.held) → TookEntry b f place new → Passes view new h
  passes_more b new f place less ahead on known g took =
      let behind = some_behind less in
      let x = behind.0 in
      let more = behind.1 in
      let parts : h ≡ p.passed ++ x ∷ more = p.parts ∙ ap (λ (l : List Entry). p.passed ++ l) behind.2 in
      let fits : Fits x = fits_at p.passed more x (subst (AllByRecursion Fits) parts p.fits) in
      let still = still_reading view a p.passed p.reading b ahead in
      let there = goes_on p.passed more x p.reading.bytes p.reading.rest p.begins.0 p.reading.shape (p.begins.1 ∙ ap (λ (l : List Entry). body l ++ p.begins.0) parts) in
      let end : List ℕ = tail_by b.switched (known_chain f.chain) ++ g.rest in
      let front = to_be_bytes w32 f.bytes in
      let held : 1 ∷ (front ++ (g.bytes ++ (end ++ still.held_is.0))) ≡ p.reading.rest =
      sym (still.held_is.1 ∙ ap (λ (l : List ℕ). l ++ still.held_is.0) g.shape
      ∙ ap (λ (l : List ℕ). 1 ∷ l) (append_assoc front (g.bytes ++ end) still.held_is.0 ∙ ap (λ (l : List ℕ). front ++ l) (append_assoc g.bytes end still.held_is.0))) in
      let one : g.bytes ≡ payload x = one_payload p.passed x f.bytes g.bytes (end ++ still.held_is.0) _ fits g.short g.length_is (held ∙ there) in
      let is : IsReading view new (p.passed ++ x ∷ []) = next_reading view b p.passed still new f g x fits one (ahead.same.ended ∙ on) (λ _. known) took.2 in
      let bytes : is.bytes ≡ p.reading.bytes = some_same is.bytes p.reading.bytes (sym is.told ∙ (ap (λ (v : Reading D). (view v.disk).contents) took.2 ∙ ahead.only_read.contents ∙ p.reading.told)) in
      record {
        passed = p.passed ++ x ∷ [];
        behind = more;
        parts = parts ∙ sym (append_assoc p.passed (x ∷ []) more);
        fits = p.fits;
        most = p.most;
        reading = is;
        begins = subst (BeginsWith (body h)) (sym bytes) p.begins;
      }

-- ---- from the first gate on

module _ {D : Type 0} (view : D → DiskView) (old : Reading D) (h : List Entry) (r : IsReading view old h) where
  -- none are passed yet
  pub passes_none : (a : Reading D) → old.ended ≡ None → a ≡ record old { gate = 8; entries = 0; switched = false; chain = Some first_chain; held = []; last = []; at = 0 } → Passes view a h
  passes_none a on is = subst (λ (v : Reading D). Passes view v h) (sym is) (record {
    passed = [];
    behind = h;
    parts = refl;
    fits = r.fits;
    most = r.most;
    reading = record {
      bytes = r.bytes;
      told = r.told;
      fits = tt;
      most = omega arith;
      rest = gated [] h ++ r.rest;
      shape = r.shape ∙ append_assoc header (gated [] h) r.rest ∙ ap (λ (l : List ℕ). l ++ (gated [] h ++ r.rest)) (sym (append-nil header));
      gate_is = refl;
      entries_is = refl;
      switched_is = refl;
      chain_is = sym chain-none;
      held_is = (gated [] h ++ r.rest, refl);
      ended_by = subst (λ (e : Option Ending). EndedBy e (next_of [] (gated [] h ++ r.rest))) (sym on) tt;
      synced = r.synced;
    };
    begins = (r.rest, r.shape);
  })

  -- it stands at the gate again
  pub stands_again : (new : Reading D) → OnlyRead (view old.disk) (view new.disk) → new.gate ≡ old.gate → new.entries ≡ old.entries → new.switched ≡ old.switched → IsChainOf new.chain h → new.held ≡ [] → new.ended ≡ None → IsReading view new h
  stands_again new read gate entries switched chain_is held ended = record {
    bytes = r.bytes;
    told = read.contents ∙ r.told;
    fits = r.fits;
    most = r.most;
    rest = r.rest;
    shape = r.shape;
    gate_is = ap (λ (n : ℕ). n + 1) gate ∙ r.gate_is;
    entries_is = entries ∙ r.entries_is;
    switched_is = switched ∙ r.switched_is;
    chain_is = chain_is;
    held_is = subst (λ (l : List ℕ). BeginsWith l r.rest) (sym held) (r.rest, refl);
    ended_by = subst (λ (e : Option Ending). EndedBy e (next_of h r.rest)) (sym ended) tt;
    synced = λ c l. r.synced c (read.leaves c l);
  }

-- The entries were passed once more, and then it stands at the gate again: whatever was read, only what is known of the
-- chain may be more.
pub found_again : {D : Type 0} (view : D → DiskView) (old a b new : Reading D) (gate entries : ℕ) (c : Option (List ℕ)) → old.ended ≡ None → old.switched ≡ false → gate ≡ old.gate → entries ≡ old.entries
    → a ≡ record old { gate = 8; entries = 0; switched = false; chain = Some first_chain; held = []; last = []; at = 0 } → OnlyRead (view a.disk) (view b.disk) → b.limit ≡ a.limit → b.ended ≡ None
    → ((h : List Entry) → IsReading view old h → IsChainOf c h) → new ≡ record b { gate = gate; entries = entries; switched = false; chain = c; held = []; last = []; at = 0 } → LookedOn view old new
found_again {D = D} view old a b new gate entries c on off gate_is entries_is first read limit going chain_is last =
    let from : a.disk ≡ old.disk = ap (λ (v : Reading D). v.disk) first in
    let to : new.disk ≡ b.disk = ap (λ (v : Reading D). v.disk) last in
    let only : OnlyRead (view old.disk) (view new.disk) =
    subst (λ (d : D). OnlyRead (view old.disk) (view d)) (sym to) (subst (λ (d : D). OnlyRead (view d) (view b.disk)) from read) in
    let gates : new.gate ≡ old.gate = ap (λ (v : Reading D). v.gate) last ∙ gate_is in
    let counts : new.entries ≡ old.entries = ap (λ (v : Reading D). v.entries) last ∙ entries_is in
    let switches : new.switched ≡ old.switched = ap (λ (v : Reading D). v.switched) last ∙ sym off in
    let ends : new.ended ≡ None = ap (λ (v : Reading D). v.ended) last ∙ going in
    record {
      gate = gates;
      entries = counts;
      limit = ap (λ (v : Reading D). v.limit) last ∙ limit ∙ ap (λ (v : Reading D). v.limit) first;
      switched = switches;
      ended = ends ∙ sym on;
      only_read = only;
      reading = λ h r.
          let known : IsChainOf new.chain h = subst (λ (k : Option (List ℕ)). IsChainOf k h) (sym (ap (λ (v : Reading D). v.chain) last)) (chain_is h r) in
          stands_again view old h r new only gates counts switches known (ap (λ (v : Reading D). v.held) last) ends;
    }

-- ---- a journal that is read so

module _ {D : Type 0} (view : D → DiskView) (j : AtRest D) (h : List Entry) (is : IsJournal view j h) (a : Reading D) (rests : RestsBehind a j) (held : a.held ≡ []) (ended : a.ended ≡ None) where
  reading_of : IsReading view a h
  reading_of = record {
    bytes = is.bytes;
    told = ap (λ (d : D). (view d).contents) (sym rests.disk) ∙ is.told;
    fits = is.stands.fits;
    most = is.stands.most;
    rest = is.stands.gate ∷ is.stands.rest;
    shape = is.stands.shape;
    gate_is = sym rests.size_is ∙ is.size_is;
    entries_is = sym rests.entries ∙ is.entries_is;
    switched_is = sym rests.switched ∙ is.switched_is;
    chain_is = subst (λ (c : Option (List ℕ)). IsChainOf c h) rests.chain is.chain_is;
    held_is = subst (λ (l : List ℕ). BeginsWith l (is.stands.gate ∷ is.stands.rest)) (sym held) (is.stands.gate ∷ is.stands.rest, refl);
    ended_by = subst (λ (e : Option Ending). EndedBy e (next_of h (is.stands.gate ∷ is.stands.rest))) (sym ended) tt;
    synced = λ c l. is.synced c (subst (λ (d : D). (view d).leaves c) (sym rests.disk) l);
  }

  pub rests_again : (b : Reading D) (k : AtRest D) → LookedOn view a b → RestsBehind b k → IsJournal view k h
  rests_again b k looked rests_now =
      let r = looked.reading h reading_of in
      let told = ap (λ (d : D). (view d).contents) rests_now.disk ∙ r.told in
      let bytes : r.bytes ≡ is.bytes = some_same r.bytes is.bytes (sym r.told ∙ (looked.only_read.contents ∙ (ap (λ (d : D). (view d).contents) (sym rests.disk) ∙ is.told))) in
      record {
        bytes = r.bytes;
        told = told;
        stands = subst (Encodes h) (sym bytes) is.stands;
        size_is = rests_now.size_is ∙ r.gate_is;
        entries_is = rests_now.entries ∙ r.entries_is;
        switched_is = rests_now.switched ∙ r.switched_is;
        chain_is = subst (λ (c : Option (List ℕ)). IsChainOf c h) (sym rests_now.chain) r.chain_is;
        synced = λ c l. r.synced c (subst (λ (d : D). (view d).leaves c) rests_now.disk l);
      }
