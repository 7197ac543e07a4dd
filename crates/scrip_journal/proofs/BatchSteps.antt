-- What gathering entries and committing them leaves, from what the disk's calls promise.
use Rattle.std.proofs.Common.{◌≡◌, ◌⊎◌, inl, inr, ℕ, Bool, ◌+◌, ◌-◌, ◌≤◌, ◌<◌, List, [], ◌∷◌, ◌++◌, length, drop, take, Option, Some, refl, sym, ◌∙◌, ap, subst, arith, append_assoc, append-nil, length-append}
use Rattle.std.specs.Prelude.{option_map, slice_range}
use Rattle.std.proofs.lemmas.List.{drop-take, take-take, take_at}
use Rattle.std.specs.List.{AllByRecursion}
use Rattle.std.specs.Int.{w32, to_be_bytes}
use Rattle.std.proofs.lemmas.Bool.{cases_eq}
use Rattle.mc_outside.specs.Bytes.{put}
use Rattle.mc_outside.specs.DiskView.{DiskView, DiskGoes, CallPairs, Follows, LeavesNoMore, IsSynced, Torn, Ran}
use Rattle.mc_outside.proofs.Runs.{ran_quiet, ran_then, ran_weaker}
use Rattle.mc_requests.specs.declared.limits.TheConstants.Limits.{MOST_JOURNAL}
use Rattle.mc_records.specs.Entry.{Entry, Fits, payload}
use Rattle.mc_records.specs.Chains.{has_switch, is_switch}
use Rattle.mc_records.specs.Sizes.{size, entry_size}
use Rattle.scrip_journal.specs.Layout.{framed, gated, body, header, Encodes}
use Rattle.scrip_journal.specs.States.{AtRest, IsJournal, IsChainOf}
use Rattle.scrip_journal.specs.Exits.{EncodesNoOutput}
use Rattle.scrip_journal.specs.Batches.{InBatch, IsBatch, IsBatchWritten, AllOrNone}
use Rattle.scrip_journal.proofs.Bytes.{torn_behind, written_behind, torn_gate, written_gate}
use Rattle.scrip_journal.proofs.Bodies.{body_long, fits_more, gated_more}

-- ---- entries behind others

pub gated_append : (before h es : List Entry) → gated before (h ++ es) ≡ gated before h ++ gated (before ++ h) es
gated_append before [] es = ap (λ (b : List Entry). gated b es) (sym (append-nil before))
gated_append before (x ∷ h) es =
    ap (λ (l : List ℕ). 1 ∷ (framed before x ++ l)) (gated_append (before ++ x ∷ []) h es ∙ ap (λ (b : List Entry). gated (before ++ x ∷ []) h ++ gated b es) (append_assoc before (x ∷ []) h))
    ∙ sym (append_assoc (1 ∷ framed before x) (gated (before ++ x ∷ []) h) (gated (before ++ x ∷ h) es))

pub body_append : (h es : List Entry) → body (h ++ es) ≡ body h ++ gated h es
body_append h es = ap (λ (l : List ℕ). header ++ l) (gated_append [] h es) ∙ sym (append_assoc header (gated [] h) (gated h es))

pub size_append : (h es : List Entry) → size (h ++ es) ≡ size h + length (gated h es)
size_append h es = omega (arith, body_long h, body_long (h ++ es), ap (λ (l : List ℕ). length l) (body_append h es), length-append (body h) (gated h es))

pub fits_append : (h es : List Entry) → AllByRecursion Fits h → AllByRecursion Fits es → AllByRecursion Fits (h ++ es)
fits_append [] es all more = more
fits_append (x ∷ h) es all more = (all.0, fits_append h es all.1 more)

-- where something is gathered, its first byte is an open gate
pub opens : (h es : List Entry) → 0 < length (gated h es) → gated h es ≡ 1 ∷ drop 1 (gated h es)
opens h [] some = absurd (omega (arith, some))
opens h (e ∷ es) some = refl

-- an open gate and a closed one behind: the entries and those gathered
pub stands_all : (h es : List Entry) (rest c : List ℕ) → AllByRecursion Fits h → AllByRecursion Fits es → size (h ++ es) ≤ MOST_JOURNAL → 0 < length (gated h es)
    → c ≡ body h ++ 1 ∷ (drop 1 (gated h es) ++ 0 ∷ rest) → Encodes (h ++ es) c
stands_all h es rest c all more most some is = record {
  fits = fits_append h es all more;
  most = most;
  gate = 0;
  rest = rest;
  closed = λ zero_is. absurd (cc zero_is);
  shape = is ∙ ap (λ (l : List ℕ). body h ++ (l ++ 0 ∷ rest)) (sym (opens h es some)) ∙ sym (append_assoc (body h) (gated h es) (0 ∷ rest)) ∙ ap (λ (l : List ℕ). l ++ 0 ∷ rest) (sym (body_append h es));
}

-- any gate: all of those gathered count, or none does
pub stands_all_or_none : (h es : List Entry) (rest c : List ℕ) (g : ℕ) → AllByRecursion Fits h → AllByRecursion Fits es → size h ≤ MOST_JOURNAL → size (h ++ es) ≤ MOST_JOURNAL → 0 < length (gated h es)
    → c ≡ body h ++ g ∷ (drop 1 (gated h es) ++ 0 ∷ rest) → Encodes h c ⊎ Encodes (h ++ es) c
stands_all_or_none h es rest c g all more least most some is = elim (cases_eq g 1) [
  | inl opened ↦ inr (stands_all h es rest c all more most some (is ∙ ap (λ (k : ℕ). body h ++ k ∷ (drop 1 (gated h es) ++ 0 ∷ rest)) opened))
  | inr shut ↦ inl (record { fits = all; most = least; gate = g; rest = drop 1 (gated h es) ++ 0 ∷ rest; closed = shut; shape = is })
]

-- ---- the buffer

behind_first : (l : List ℕ) → 0 < length l → drop 1 (l ++ 0 ∷ []) ≡ drop 1 l ++ 0 ∷ []
behind_first [] some = absurd (omega (arith, some))
behind_first (x ∷ l) some = refl

-- what is written behind the gate: the bytes gathered but for the first gate, and a closed gate
pub block_behind : (buf : List ℕ) (n : ℕ) → take (n + 1) buf ≡ take n buf ++ 0 ∷ [] → 0 < length (take n buf) → slice_range buf 1 (n + 1) ≡ drop 1 (take n buf) ++ 0 ∷ []
block_behind buf n closed some =
    let one : n + 1 - 1 ≡ n = omega arith in
    let same : 1 + n ≡ n + 1 = omega arith in
    ap (λ (k : ℕ). take k (drop 1 buf)) one
    ∙ sym (drop-take 1 n buf)
    ∙ ap (λ (k : ℕ). drop 1 (take k buf)) same
    ∙ ap (λ (l : List ℕ). drop 1 l) closed
    ∙ behind_first (take n buf) some

-- a frame and a closed gate
pub frame_closed : (a p t : List ℕ) → a ++ (p ++ (t ++ 0 ∷ [])) ≡ (a ++ (p ++ t)) ++ 0 ∷ []
frame_closed a p t = ap (λ (l : List ℕ). a ++ l) (sym (append_assoc p t (0 ∷ []))) ∙ sym (append_assoc a (p ++ t) (0 ∷ []))

pub frame_long : (n : ℕ) (p t : List ℕ) → length (to_be_bytes w32 n ++ (p ++ t)) + 1 ≡ length p + length t + 5
frame_long n p t = omega (arith, length-append (to_be_bytes w32 n) (p ++ t), length-append p t)

-- the buffer with one entry more
pub buffer_grown : (new old frame : List ℕ) (m n : ℕ) → take (m + 1 + n) new ≡ old ++ 1 ∷ (frame ++ 0 ∷ []) → length old ≡ m → length frame + 1 ≡ n
    → (take (m + n) new ≡ old ++ 1 ∷ frame) × (take (m + n + 1) new ≡ take (m + n) new ++ 0 ∷ [])
buffer_grown new old frame m n is old_long frame_long =
    let order : m + n + 1 ≡ m + 1 + n = omega arith in
    let whole : take (m + n + 1) new ≡ (old ++ 1 ∷ frame) ++ 0 ∷ [] = ap (λ (k : ℕ). take k new) order ∙ is ∙ sym (append_assoc old (1 ∷ frame) (0 ∷ [])) in
    let long : length (old ++ 1 ∷ frame) ≡ m + n = omega (arith, length-append old (1 ∷ frame), old_long, frame_long) in
    let front : take (m + n) new ≡ old ++ 1 ∷ frame = sym (take-take (m + n) (m + n + 1) new (omega arith)) ∙ ap (λ (l : List ℕ). take (m + n) l) whole ∙ take_at (old ++ 1 ∷ frame) (0 ∷ []) (m + n) long in
    (front, whole ∙ ap (λ (l : List ℕ). l ++ 0 ∷ []) (sym front))

-- ---- writing behind the gate

module _ {D : Type 0} (view : D → DiskView) (b : InBatch D) (h es : List Entry) (is : IsBatch view b h es) where
  place : b.gate ≡ length (body h)
  place = omega (arith, is.gate_is, body_long h)

  pub batch_stands : (c : List ℕ) → (view b.disk).leaves c → Encodes h c
  batch_stands c l = subst (Encodes h) (sym (is.synced c l)) is.stands

  pub write_leaves : (x : DiskView) (n : ℕ) → Follows (Torn (b.gate + 1) n) (view b.disk) x → (c : List ℕ) → x.leaves c → Encodes h c
  write_leaves x n follows c l =
      let from = follows c l in
      let torn : Torn (b.gate + 1) n is.bytes c = subst (λ (d : List ℕ). Torn (b.gate + 1) n d c) (is.synced from.0 from.1) from.2 in
      let t = torn_behind (body h) b.gate place is.stands.gate is.stands.rest is.bytes is.stands.shape n c torn in
      record { fits = is.stands.fits; most = is.stands.most; gate = is.stands.gate; rest = t.0; closed = is.stands.closed; shape = t.1 }

  pub write_ran : (x : DiskView) (n : ℕ) → DiskGoes (view b.disk) x → CallPairs (view b.disk) x → Follows (Torn (b.gate + 1) n) (view b.disk) x
      → Ran (view b.disk) x (EncodesNoOutput h (view b.disk).aside)
  write_ran x n g pairs follows = ran_quiet (view b.disk) x (Encodes h) (view b.disk).aside refl g pairs batch_stands (write_leaves x n follows)

  pub write_sync_ran : (x y : DiskView) (n : ℕ) → DiskGoes (view b.disk) x → CallPairs (view b.disk) x → Follows (Torn (b.gate + 1) n) (view b.disk) x
      → DiskGoes x y → CallPairs x y → LeavesNoMore x y → Ran (view b.disk) y (EncodesNoOutput h (view b.disk).aside)
  write_sync_ran x y n g pairs follows g2 pairs2 less =
      ran_then (view b.disk) x y (EncodesNoOutput h (view b.disk).aside) (write_ran x n g pairs follows)
      (ran_quiet x y (Encodes h) (view b.disk).aside g.aside g2 pairs2 (write_leaves x n follows) (λ i l. write_leaves x n follows i (less i l)))

  pub is_written : (x : DiskView) (d : D) (block : List ℕ) (w : InBatch D) → x.contents ≡ option_map (put (b.gate + 1) block) (view b.disk).contents → (view d).contents ≡ x.contents
      → IsSynced (view d) → block ≡ drop 1 b.block ++ 0 ∷ [] → w ≡ record b { disk = d } → IsBatchWritten view w h es
  is_written x d block w written same synced block_is w_is =
      let bytes = put (b.gate + 1) block is.bytes in
      let dr = drop (b.gate + 1 + length block) is.bytes in
      let told : (view d).contents ≡ Some bytes = same ∙ written ∙ ap (λ (o : Option (List ℕ)). option_map (put (b.gate + 1) block) o) is.told in
      let tail : block ++ dr ≡ drop 1 b.block ++ 0 ∷ dr = ap (λ (l : List ℕ). l ++ dr) block_is ∙ append_assoc (drop 1 b.block) (0 ∷ []) dr in
      subst (λ (t : InBatch D). IsBatchWritten view t h es) (sym w_is) (record {
        bytes = bytes;
        told = told;
        fits = is.stands.fits;
        more_fit = is.more_fit;
        gate = is.stands.gate;
        rest = dr;
        closed = is.stands.closed;
        shape = written_behind (body h) b.gate place is.stands.gate is.stands.rest is.bytes is.stands.shape block ∙ ap (λ (l : List ℕ). body h ++ is.stands.gate ∷ l) tail;
        gate_is = is.gate_is;
        block_is = is.block_is;
        first_is = is.first_is;
        entries_is = is.entries_is;
        switched_is = is.switched_is;
        chain_is = is.chain_is;
        synced = synced bytes told;
      })

  -- one entry more is gathered
  pub is_gathered : (e : Entry) (w : InBatch D) → Fits e → w.disk ≡ b.disk → w.gate ≡ b.gate → w.first ≡ b.first → w.block ≡ b.block ++ 1 ∷ framed (h ++ es) e → w.entries ≡ b.entries + 1
      → w.switched ≡ has_switch ((h ++ es) ++ e ∷ []) → IsChainOf w.chain ((h ++ es) ++ e ∷ []) → IsBatch view w h (es ++ e ∷ [])
  is_gathered e w fits disk gate first block entries switched chain =
      let more : (h ++ es) ++ e ∷ [] ≡ h ++ (es ++ e ∷ []) = append_assoc h es (e ∷ []) in
      record {
        bytes = is.bytes;
        told = ap (λ (d : D). (view d).contents) disk ∙ is.told;
        stands = is.stands;
        more_fit = fits_more es e is.more_fit fits;
        gate_is = omega (arith, gate, is.gate_is);
        block_is = block ∙ ap (λ (l : List ℕ). l ++ 1 ∷ framed (h ++ es) e) is.block_is ∙ sym (gated_more h es e);
        first_is = first ∙ is.first_is;
        entries_is = omega (arith, entries, is.entries_is, ap (λ (l : List Entry). length l) more, length-append (h ++ es) (e ∷ []));
        switched_is = switched ∙ ap has_switch more;
        chain_is = subst (λ (l : List Entry). IsChainOf w.chain l) more chain;
        synced = λ c l. is.synced c (subst (λ (d : D). (view d).leaves c) disk l);
      }

-- ---- opening the gate

module _ {D : Type 0} (view : D → DiskView) (b : InBatch D) (h es : List Entry) (k : IsBatchWritten view b h es) (some : 0 < length b.block) (most : b.gate + length b.block + 1 ≤ MOST_JOURNAL) where
  place_of : b.gate ≡ length (body h)
  place_of = omega (arith, k.gate_is, body_long h)

  least : size h ≤ MOST_JOURNAL
  least = omega (arith, k.gate_is, most)

  long : length b.block ≡ length (gated h es)
  long = ap (λ (l : List ℕ). length l) k.block_is

  some_more : 0 < length (gated h es)
  some_more = omega (arith, some, long)

  new_most : size (h ++ es) ≤ MOST_JOURNAL
  new_most = omega (arith, k.gate_is, most, size_append h es, long)

  shape_of : (c rest : List ℕ) (g : ℕ) → c ≡ body h ++ g ∷ (drop 1 b.block ++ 0 ∷ rest) → c ≡ body h ++ g ∷ (drop 1 (gated h es) ++ 0 ∷ rest)
  shape_of c rest g is = is ∙ ap (λ (l : List ℕ). body h ++ g ∷ (drop 1 l ++ 0 ∷ rest)) k.block_is

  pub written_stands : (c : List ℕ) → (view b.disk).leaves c → Encodes h c ⊎ Encodes (h ++ es) c
  written_stands c l = inl (record { fits = k.fits; most = least; gate = k.gate; rest = drop 1 b.block ++ 0 ∷ k.rest; closed = k.closed; shape = k.synced c l ∙ k.shape })

  pub open_leaves : (x : DiskView) → Follows (Torn b.gate 1) (view b.disk) x → (c : List ℕ) → x.leaves c → Encodes h c ⊎ Encodes (h ++ es) c
  open_leaves x follows c l =
      let from = follows c l in
      let torn : Torn b.gate 1 k.bytes c = subst (λ (d : List ℕ). Torn b.gate 1 d c) (k.synced from.0 from.1) from.2 in
      let is = torn_gate (body h) b.gate place_of k.gate (drop 1 b.block ++ 0 ∷ k.rest) k.bytes k.shape c torn in
      stands_all_or_none h es (k.rest ++ is.1) c is.0 k.fits k.more_fit least new_most some_more
      (shape_of c (k.rest ++ is.1) is.0 (is.2 ∙ ap (λ (l : List ℕ). body h ++ is.0 ∷ l) (append_assoc (drop 1 b.block) (0 ∷ k.rest) is.1)))

  pub open_ran : (x : DiskView) → DiskGoes (view b.disk) x → CallPairs (view b.disk) x → Follows (Torn b.gate 1) (view b.disk) x → Ran (view b.disk) x (AllOrNone h es (view b.disk).aside)
  open_ran x g pairs follows = ran_quiet (view b.disk) x (λ c. Encodes h c ⊎ Encodes (h ++ es) c) (view b.disk).aside refl g pairs written_stands (open_leaves x follows)

  pub open_sync_ran : (x y : DiskView) → DiskGoes (view b.disk) x → CallPairs (view b.disk) x → Follows (Torn b.gate 1) (view b.disk) x
      → DiskGoes x y → CallPairs x y → LeavesNoMore x y → Ran (view b.disk) y (AllOrNone h es (view b.disk).aside)
  open_sync_ran x y g pairs follows g2 pairs2 less =
      ran_then (view b.disk) x y (AllOrNone h es (view b.disk).aside) (open_ran x g pairs follows)
      (ran_quiet x y (λ i. Encodes h i ⊎ Encodes (h ++ es) i) (view b.disk).aside g.aside g2 pairs2 (open_leaves x follows) (λ i l. open_leaves x follows i (less i l)))

  pub is_committed : (x : DiskView) (d : D) (w : InBatch D) → x.contents ≡ option_map (put b.gate (1 ∷ [])) (view b.disk).contents → (view d).contents ≡ x.contents → IsSynced (view d)
      → w ≡ record b { disk = d; gate = b.gate + length b.block; block = []; first = b.entries } → IsBatch view w (h ++ es) []
  is_committed x d w written same synced w_is =
      let bytes = put b.gate (1 ∷ []) k.bytes in
      let told : (view d).contents ≡ Some bytes = same ∙ written ∙ ap (λ (o : Option (List ℕ)). option_map (put b.gate (1 ∷ [])) o) k.told in
      let none : (h ++ es) ++ [] ≡ h ++ es = append-nil (h ++ es) in
      subst (λ (t : InBatch D). IsBatch view t (h ++ es) []) (sym w_is) (record {
        bytes = bytes;
        told = told;
        stands = stands_all h es k.rest bytes k.fits k.more_fit new_most some_more (shape_of bytes k.rest 1 (written_gate (body h) b.gate place_of k.gate (drop 1 b.block ++ 0 ∷ k.rest) k.bytes k.shape));
        more_fit = tt;
        gate_is = omega (arith, k.gate_is, size_append h es, long);
        block_is = refl;
        first_is = k.entries_is;
        entries_is = k.entries_is ∙ ap (λ (l : List Entry). length l) (sym none);
        switched_is = k.switched_is ∙ ap has_switch (sym none);
        chain_is = subst (λ (l : List Entry). IsChainOf b.chain l) (sym none) k.chain_is;
        synced = synced bytes told;
      })

-- ---- both

-- where nothing is gathered, it is committed
pub none_gathered : (h es : List Entry) → length (gated h es) ≡ 0 → es ≡ []
none_gathered h [] none = refl
none_gathered h (e ∷ es) none = absurd (omega (arith, none))

pub committed_none : {D : Type 0} (view : D → DiskView) (b : InBatch D) (h es : List Entry) → length b.block ≡ 0 → IsBatch view b h es → IsBatch view b (h ++ es) []
committed_none view b h es none is =
    let empty : es ≡ [] = none_gathered h es (omega (arith, none, ap (λ (l : List ℕ). length l) is.block_is)) in
    let same : h ≡ h ++ es = sym (append-nil h) ∙ ap (λ (l : List Entry). h ++ l) (sym empty) in
    subst (λ (x : List Entry). IsBatch view b x []) same (subst (λ (x : List Entry). IsBatch view b h x) empty is)

-- it was written, and perhaps no more
pub ran_half : (a b : DiskView) (h es : List Entry) (aside : List ℕ) → Ran a b (EncodesNoOutput h aside) → Ran a b (AllOrNone h es aside)
ran_half a b h es aside ran = ran_weaker a b _ _ ran (λ c s quiet. (inl quiet.0, quiet.1))

-- it was written, and then the gate was opened
pub ran_both : (a b d : DiskView) (h es : List Entry) → DiskGoes a b → Ran a b (EncodesNoOutput h a.aside) → Ran b d (AllOrNone h es b.aside) → Ran a d (AllOrNone h es a.aside)
ran_both a b d h es goes first then' = ran_then a b d (AllOrNone h es a.aside) (ran_half a b h es a.aside first) (subst (λ (x : List ℕ). Ran b d (AllOrNone h es x)) goes.aside then')

-- ---- from a journal and back

pub starts_batch : {D : Type 0} (view : D → DiskView) (j : AtRest D) (h : List Entry) (w : InBatch D) → IsJournal view j h
    → w.disk ≡ j.disk → w.gate + 1 ≡ j.size → w.block ≡ [] → w.first ≡ j.entries → w.entries ≡ j.entries → w.switched ≡ j.switched → w.chain ≡ j.chain → IsBatch view w h []
starts_batch {D = D} view j h w is disk gate block first entries switched chain =
    let none : h ++ [] ≡ h = append-nil h in
    record {
      bytes = is.bytes;
      told = ap (λ (d : D). (view d).contents) disk ∙ is.told;
      stands = is.stands;
      more_fit = tt;
      gate_is = gate ∙ is.size_is;
      block_is = block;
      first_is = first ∙ is.entries_is;
      entries_is = entries ∙ is.entries_is ∙ ap (λ (l : List Entry). length l) (sym none);
      switched_is = switched ∙ is.switched_is ∙ ap has_switch (sym none);
      chain_is = subst (λ (l : List Entry). IsChainOf w.chain l) (sym none) (subst (λ (c : Option (List ℕ)). IsChainOf c h) (sym chain) is.chain_is);
      synced = λ c l. is.synced c (subst (λ (d : D). (view d).leaves c) disk l);
    }

pub ends_batch : {D : Type 0} (view : D → DiskView) (b : InBatch D) (h : List Entry) (j : AtRest D) → IsBatch view b h []
    → j.disk ≡ b.disk → j.size ≡ b.gate + 1 → j.entries ≡ b.entries → j.switched ≡ b.switched → j.chain ≡ b.chain → IsJournal view j h
ends_batch {D = D} view b h j is disk size entries switched chain =
    let none : h ++ [] ≡ h = append-nil h in
    record {
      bytes = is.bytes;
      told = ap (λ (d : D). (view d).contents) disk ∙ is.told;
      stands = is.stands;
      size_is = size ∙ is.gate_is;
      entries_is = entries ∙ is.entries_is ∙ ap (λ (l : List Entry). length l) none;
      switched_is = switched ∙ is.switched_is ∙ ap has_switch none;
      chain_is = subst (λ (c : Option (List ℕ)). IsChainOf c h) (sym chain) (subst (λ (l : List Entry). IsChainOf b.chain l) none is.chain_is);
      synced = λ c l. is.synced c (subst (λ (d : D). (view d).leaves c) disk l);
    }
