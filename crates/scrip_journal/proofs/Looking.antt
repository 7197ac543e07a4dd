-- How a reading ends at a gate, and what is held where it goes on.
use Rattle.std.proofs.Common.{◌≡◌, ◌≢◌, ◌⊎◌, ⊎_elim, inl, inr, Bool, true, ℕ, ◌+◌, ◌≤◌, ◌<◌, List, [], ◌∷◌, ◌++◌, length, take, drop, Option, Some, Err, refl, sym, ◌∙◌, ap, ap₂, subst, arith, append_assoc, length-append}
use Rattle.std.specs.Int.{to_be_bytes, from_be_bytes, w32}
use Rattle.std.proofs.lemmas.List.{take-append-le, take-append-drop, length-drop, length-take, take_at, drop_at, drop-drop}
use Rattle.std.proofs.lemmas.Bool.{cases_lt}
use Rattle.std.proofs.lemmas.Nat.{from_be_bytes-to_be_bytes_4}
use Rattle.mc_outside.specs.Bytes.{BeginsWith}
use Rattle.mc_outside.specs.DiskView.{DiskView}
use Rattle.mc_outside.proofs.Runs.{read_then}
use Rattle.mc_records.specs.declared.sizes.TheConstants.{PAYLOAD_BOUND}
use Rattle.mc_requests.specs.declared.limits.TheConstants.Limits.{MOST_JOURNAL}
use Rattle.mc_records.specs.Entry.{Entry, Fits, payload}
use Rattle.mc_records.specs.Chains.{has_switch, is_switch}
use Rattle.mc_records.specs.Sizes.{tail, tail_by, tail_bytes, tail_size}
use Rattle.mc_records.proofs.SizeLaws.{tail-by, tail_size-by}
use Rattle.mc_records.specs.Forms.{entry_of}
use Rattle.scrip_journal.specs.Layout.{body, spoiled, unchained, next_tail, next_of}
use Rattle.scrip_journal.specs.States.{Reading, EndedBy, IsChainOf, known_chain, chain_with}
use Rattle.scrip_journal.specs.Answers.{unless_failed}
use Rattle.scrip_journal.specs.Replays.{HeldOf, ReadAhead, IsCut, AllHeld, IsPayload, IsFrame, IsTold, EndsHere, EndsBehind}
use Rattle.scrip_journal.specs.declared.replay.Found.{Found}
use Rattle.scrip_journal.specs.declared.ending.Ending.{Ending}
use Rattle.scrip_journal.specs.declared.ending.Ending.TheVariants.{Closed, Spoiled, Unchained, Failed}
use Rattle.scrip_journal.proofs.Nexts.{nothing_there, closed_there, length_cut, long_there, far_there, payload_cut, payload_there, behind_payload, tail_cut, tail_other}
use Rattle.scrip_journal.proofs.Known.{chain_at_switch}

begins_then : (a b c : List ℕ) → BeginsWith a b → BeginsWith b c → BeginsWith a c
begins_then a b c x y = (x.0 ++ y.0, y.1 ∙ ap (λ (l : List ℕ). l ++ y.0) x.1 ∙ append_assoc a x.0 y.0)

-- ---- reading ahead, again and again

pub ahead_then : {D : Type 0} (view : D → DiskView) (a b c : Reading D) → ReadAhead view a b → ReadAhead view b c → ReadAhead view a c
ahead_then view a b c x y = record {
  same = record { gate = y.same.gate ∙ x.same.gate; entries = y.same.entries ∙ x.same.entries; limit = y.same.limit ∙ x.same.limit; switched = y.same.switched ∙ x.same.switched; chain = y.same.chain ∙ x.same.chain; ended = y.same.ended ∙ x.same.ended };
  only_read = read_then (view a.disk) (view b.disk) (view c.disk) x.only_read y.only_read;
  more = begins_then a.held b.held c.held x.more y.more;
  held = λ bytes told of. y.held bytes (x.only_read.contents ∙ told) (x.held bytes told of);
}

-- all that is held in the end is held of what was told first
pub all_then : {D : Type 0} (view : D → DiskView) (a b c : Reading D) → ReadAhead view a b → AllHeld view b c → AllHeld view a c
all_then view a b c x all bytes told of = all bytes (x.only_read.contents ∙ told) (x.held bytes told of)

pub cut_then : {D : Type 0} (view : D → DiskView) (a b c : Reading D) (count : ℕ) (e : Ending) → ReadAhead view a b → IsCut view b c count e → IsCut view a c count e
cut_then view a b c count Closed x cut = cut
cut_then view a b c count (Spoiled place) x cut = (cut.0, cut.1, all_then view a b c x cut.2)
cut_then view a b c count (Unchained place stood computed) x cut = cut
cut_then view a b c count Failed x cut = cut

-- how a reading ends after more was read ahead is how it ends
pub ends_then : {D : Type 0} (view : D → DiskView) (a b : Reading D) (e : Ending) → ReadAhead view a b → EndsHere view b e → EndsHere view a e
ends_then view a b e x ends h bytes told gate switched chained of =
    subst (λ (g : ℕ). EndedBy (Some e) (next_of h (drop g bytes))) x.same.gate
    (ends h bytes (x.only_read.contents ∙ told) (x.same.gate ∙ gate) (x.same.switched ∙ switched) (subst (λ (c : Option (List ℕ)). IsChainOf c h) (sym x.same.chain) chained) (x.held bytes told of))

-- ---- the ends

module _ {D : Type 0} (view : D → DiskView) (a b : Reading D) (ahead : ReadAhead view a b) where
  -- how many bytes the tail of the next entry has
  tail_size-of : (h : List Entry) → a.switched ≡ has_switch h → tail_size h ≡ tail_bytes a.switched
  tail_size-of h switched = tail_size-by h ∙ ap tail_bytes (sym switched)

  -- what a length is, by the reading of before
  pub far_before : (n : ℕ) → (PAYLOAD_BOUND ≤ n) ⊎ (MOST_JOURNAL < b.gate + n + tail_bytes b.switched + 6) → (PAYLOAD_BOUND ≤ n) ⊎ (MOST_JOURNAL < a.gate + n + tail_bytes a.switched + 6)
  far_before n which = ⊎_elim (λ long. inl long) (λ far. inr (omega (arith, far, ahead.same.gate, ap tail_bytes ahead.same.switched))) which

  pub near_before : (n : ℕ) → b.gate + n + tail_bytes b.switched + 6 ≤ MOST_JOURNAL → a.gate + n + tail_bytes a.switched + 6 ≤ MOST_JOURNAL
  near_before n near = omega (arith, near, ahead.same.gate, ap tail_bytes ahead.same.switched)

  -- what is held now begins what comes at the gate of before
  now_held : (bytes : List ℕ) → (view a.disk).contents ≡ Some bytes → HeldOf bytes a → BeginsWith b.held (drop a.gate bytes)
  now_held bytes told of = subst (λ (g : ℕ). BeginsWith b.held (drop g bytes)) ahead.same.gate (ahead.held bytes told of)

  all_now : AllHeld view a b → (bytes : List ℕ) → (view a.disk).contents ≡ Some bytes → HeldOf bytes a → drop a.gate bytes ≡ b.held
  all_now all bytes told of = ap (λ (g : ℕ). drop g bytes) (sym ahead.same.gate) ∙ all bytes told of

  -- the disk ends at the gate
  pub ends_at_gate : (e : Ending) → IsCut view a b 1 e → EndsHere view a e
  ends_at_gate Closed cut h bytes told gate switched chained of = absurd cut
  ends_at_gate (Unchained place stood computed) cut h bytes told gate switched chained of = absurd cut
  ends_at_gate Failed cut h bytes told gate switched chained of = tt
  ends_at_gate (Spoiled place) cut h bytes told gate switched chained of = go b.held (cut.0) (all_now cut.2 bytes told of) (cut.1) where
    go : (held : List ℕ) → length held < 1 → drop a.gate bytes ≡ held → place ≡ b.gate + length held → next_of h (drop a.gate bytes) ≡ spoiled place
    go [] few is place_is = ap (next_of h) is ∙ nothing_there h a.gate gate ∙ ap spoiled (omega (arith, place_is, ahead.same.gate))
    go (x ∷ xs) few is place_is = absurd (omega (arith, few))

  -- the gate is closed
  pub ends_closed : (byte : ℕ) → BeginsWith (byte ∷ []) b.held → byte ≢ 1 → EndsHere view a Closed
  ends_closed byte begins shut h bytes told gate switched chained of =
      let front = begins_then (byte ∷ []) b.held (drop a.gate bytes) begins (now_held bytes told of) in
      ap (next_of h) front.1 ∙ closed_there h a.gate gate byte front.0 shut

  -- the disk ends in the length
  pub ends_in_length : (e : Ending) → BeginsWith (1 ∷ []) b.held → IsCut view a b 5 e → EndsHere view a e
  ends_in_length Closed begins cut h bytes told gate switched chained of = absurd cut
  ends_in_length (Unchained place stood computed) begins cut h bytes told gate switched chained of = absurd cut
  ends_in_length Failed begins cut h bytes told gate switched chained of = tt
  ends_in_length (Spoiled place) begins cut h bytes told gate switched chained of =
      let is : drop a.gate bytes ≡ 1 ∷ begins.0 = all_now cut.2 bytes told of ∙ begins.1 in
      let long : length b.held ≡ 1 + length begins.0 = omega (arith, ap (λ (l : List ℕ). length l) begins.1) in
      ap (next_of h) is ∙ length_cut h a.gate gate begins.0 (omega (arith, cut.0, long)) ∙ ap spoiled (omega (arith, cut.1, long, ahead.same.gate))

  -- behind a whole length
  module _ (begins : BeginsWith (1 ∷ []) b.held) (five : 5 ≤ length b.held) (n : ℕ) (n_is : from_be_bytes w32 (take 4 (drop 1 b.held)) ≡ n) where
    -- what comes at the gate begins with an open gate and this length
    pub opened : (bytes : List ℕ) → (view a.disk).contents ≡ Some bytes → HeldOf bytes a → (rest : List ℕ) × (drop a.gate bytes ≡ 1 ∷ rest) × (from_be_bytes w32 (take 4 rest) ≡ n) × (4 ≤ length rest)
    opened bytes told of =
        let all = now_held bytes told of in
        let rest : List ℕ = begins.0 ++ all.0 in
        let is : drop a.gate bytes ≡ 1 ∷ rest = all.1 ∙ ap (λ (l : List ℕ). l ++ all.0) begins.1 in
        let four : 4 ≤ length begins.0 = omega (arith, five, ap (λ (l : List ℕ). length l) begins.1) in
        let front : take 4 rest ≡ take 4 begins.0 = take-append-le 4 begins.0 all.0 four in
        (rest, is, ap (λ (l : List ℕ). from_be_bytes w32 l) (front ∙ ap (λ (l : List ℕ). take 4 (drop 1 l)) (sym begins.1)) ∙ n_is, omega (arith, four, length-append begins.0 all.0))

    -- the length may not stand
    pub ends_at_length : (PAYLOAD_BOUND ≤ n) ⊎ (MOST_JOURNAL < a.gate + n + tail_bytes a.switched + 6) → EndsHere view a (Spoiled (a.gate + 1))
    ends_at_length which h bytes told gate switched chained of =
        let o = opened bytes told of in
        let long : PAYLOAD_BOUND ≤ n → next_of h (1 ∷ o.0) ≡ spoiled (a.gate + 1) = λ l. long_there h a.gate gate n o.0 o.2 o.3 l in
        ap (next_of h) o.1 ∙ ⊎_elim long (λ far. ⊎_elim (λ short. far_there h a.gate gate n o.0 o.2 o.3 short (omega (arith, far, tail_size-of h switched))) long (cases_lt n PAYLOAD_BOUND)) which

    -- the disk ends in the payload
    pub ends_in_payload : n < PAYLOAD_BOUND → a.gate + n + tail_bytes a.switched + 6 ≤ MOST_JOURNAL → (e : Ending) → IsCut view a b (n + 5) e → EndsHere view a e
    ends_in_payload short near Closed cut h bytes told gate switched chained of = absurd cut
    ends_in_payload short near (Unchained place stood computed) cut h bytes told gate switched chained of = absurd cut
    ends_in_payload short near Failed cut h bytes told gate switched chained of = tt
    ends_in_payload short near (Spoiled place) cut h bytes told gate switched chained of =
        let is : drop a.gate bytes ≡ 1 ∷ begins.0 = all_now cut.2 bytes told of ∙ begins.1 in
        let long : length b.held ≡ 1 + length begins.0 = omega (arith, ap (λ (l : List ℕ). length l) begins.1) in
        let front : from_be_bytes w32 (take 4 begins.0) ≡ n = ap (λ (l : List ℕ). from_be_bytes w32 (take 4 (drop 1 l))) (sym begins.1) ∙ n_is in
        ap (next_of h) is ∙ payload_cut h a.gate gate n begins.0 front (omega (arith, five, long)) short (omega (arith, near, tail_size-of h switched)) (omega (arith, length-drop 4 begins.0, cut.0, long))
        ∙ ap spoiled (omega (arith, cut.1, long, five, length-drop 4 begins.0, ahead.same.gate))

    -- a payload is there
    pub payload_here : (switched : Bool) → n < PAYLOAD_BOUND → b.gate + n + tail_bytes switched + 6 ≤ MOST_JOURNAL → n + 5 ≤ length b.held → take 4 (drop 1 b.held) ≡ to_be_bytes w32 n → IsPayload n switched b.gate b.held
    payload_here switched short near whole spelled =
        let long : length b.held ≡ 1 + length begins.0 = omega (arith, ap (λ (l : List ℕ). length l) begins.1) in
        let front : take 4 begins.0 ≡ to_be_bytes w32 n = ap (λ (l : List ℕ). take 4 (drop 1 l)) (sym begins.1) ∙ spelled in
        let middle : List ℕ = take n (drop 4 begins.0) in
        let rest : List ℕ = drop n (drop 4 begins.0) in
        let parts : begins.0 ≡ to_be_bytes w32 n ++ (middle ++ rest) =
        sym (take-append-drop 4 begins.0) ∙ ap (λ (l : List ℕ). l ++ drop 4 begins.0) front ∙ ap (λ (l : List ℕ). to_be_bytes w32 n ++ l) (sym (take-append-drop n (drop 4 begins.0))) in
        record {
          bytes = middle;
          length_is = omega (arith, length-take n (drop 4 begins.0), length-drop 4 begins.0, whole, long);
          short = short;
          rest = rest;
          shape = begins.1 ∙ ap (λ (l : List ℕ). 1 ∷ l) parts;
          within = near;
        }

-- ---- behind a payload

-- the parts of what is held
module _ (n : ℕ) (p : List ℕ) (len : length p ≡ n) (rest held : List ℕ) (shape : held ≡ 1 ∷ (to_be_bytes w32 n ++ (p ++ rest))) where
  split : held ≡ (1 ∷ to_be_bytes w32 n) ++ (p ++ rest)
  split = shape

  pub payload_held : take n (drop 5 held) ≡ p
  payload_held = ap (λ (l : List ℕ). take n l) (ap (λ (l : List ℕ). drop 5 l) split ∙ drop_at (1 ∷ to_be_bytes w32 n) (p ++ rest) 5 refl) ∙ take_at p rest n len

  pub behind_held : drop (n + 5) held ≡ rest
  behind_held =
      ap (λ (k : ℕ). drop k held) (plus n)
      ∙ sym (drop-drop n 5 held)
      ∙ ap (λ (l : List ℕ). drop n l) (ap (λ (l : List ℕ). drop 5 l) split ∙ drop_at (1 ∷ to_be_bytes w32 n) (p ++ rest) 5 refl)
      ∙ drop_at p rest n len
    where
      plus : (m : ℕ) → m + 5 ≡ 5 + m
      plus m = omega arith

  pub held_long : length held ≡ n + 5 + length rest
  held_long = omega (arith, ap (λ (l : List ℕ). length l) shape, length-append (to_be_bytes w32 n) (p ++ rest), length-append p rest, len)

-- more that is held leaves the payload as it is
abbrev pub payload_stays : (n : ℕ) (switched : Bool) (gate : ℕ) (old new : List ℕ) → BeginsWith old new → IsPayload n switched gate old → IsPayload n switched gate new
payload_stays n switched gate old new more p = record {
  bytes = p.bytes;
  length_is = p.length_is;
  short = p.short;
  rest = p.rest ++ more.0;
  shape =
      more.1 ∙ ap (λ (l : List ℕ). l ++ more.0) p.shape
      ∙ ap (λ (l : List ℕ). 1 ∷ l) (append_assoc (to_be_bytes w32 n) (p.bytes ++ p.rest) more.0 ∙ ap (λ (l : List ℕ). to_be_bytes w32 n ++ l) (append_assoc p.bytes p.rest more.0));
  within = p.within;
}

-- the payload that was held, after more was read ahead
pub payload_after : {D : Type 0} (view : D → DiskView) (a b : Reading D) → ReadAhead view a b → (n : ℕ) (p : IsPayload n a.switched a.gate a.held) → IsPayload n b.switched b.gate b.held
payload_after view a b ahead n p = record {
  bytes = p.bytes;
  length_is = p.length_is;
  short = p.short;
  rest = p.rest ++ ahead.more.0;
  shape = (payload_stays n a.switched a.gate a.held b.held ahead.more p).shape;
  within = omega (arith, p.within, ahead.same.gate, ap tail_bytes ahead.same.switched);
}

pub payload_whole : (n : ℕ) (switched : Bool) (gate : ℕ) (held : List ℕ) → IsPayload n switched gate held → n + 5 ≤ length held
payload_whole n switched gate held p = omega (arith, held_long n p.bytes p.length_is p.rest held p.shape)

-- a malformed payload is held
pub malformed_here : {D : Type 0} (view : D → DiskView) (r : Reading D) (n : ℕ) (p : IsPayload n r.switched r.gate r.held) (fault : ℕ) → entry_of p.bytes ≡ Err fault → EndsHere view r (Spoiled (r.gate + 5 + fault))
malformed_here view r n p fault read h bytes told gate switched chained of =
    let front = to_be_bytes w32 n in
    let back : List ℕ = p.rest ++ of.0 in
    let all : List ℕ = front ++ (p.bytes ++ back) in
    let is : drop r.gate bytes ≡ 1 ∷ all =
    of.1 ∙ ap (λ (l : List ℕ). l ++ of.0) p.shape
    ∙ ap (λ (l : List ℕ). 1 ∷ l) (append_assoc front (p.bytes ++ p.rest) of.0 ∙ ap (λ (l : List ℕ). front ++ l) (append_assoc p.bytes p.rest of.0)) in
    let behind : drop 4 all ≡ p.bytes ++ back = drop_at front (p.bytes ++ back) 4 refl in
    let n_is : from_be_bytes w32 (take 4 all) ≡ n = ap (λ (l : List ℕ). from_be_bytes w32 l) (take_at front (p.bytes ++ back) 4 refl) ∙ from_be_bytes-to_be_bytes_4 n (omega (arith, p.short)) in
    let four : 4 ≤ length all = omega (arith, length-append front (p.bytes ++ back)) in
    let whole : n ≤ length (drop 4 all) = omega (arith, ap (λ (l : List ℕ). length l) behind, length-append p.bytes back, p.length_is) in
    let size : tail_size h ≡ tail_bytes r.switched = tail_size-by h ∙ ap tail_bytes (sym switched) in
    ap (next_of h) is
    ∙ payload_there h r.gate gate n all n_is four p.short (omega (arith, p.within, size)) whole (Err fault) (ap (λ (l : List ℕ). entry_of (take n l)) behind ∙ ap entry_of (take_at p.bytes back n p.length_is) ∙ read)

module _ {D : Type 0} (view : D → DiskView) (a b : Reading D) (ahead : ReadAhead view a b) (n : ℕ) (p : IsPayload n a.switched a.gate a.held) where
  abbrev here : IsPayload n a.switched a.gate b.held
  here = payload_stays n a.switched a.gate a.held b.held ahead.more p

  -- a payload that is an entry's
  module _ (e : Entry) (fits : Fits e) (of_entry : p.bytes ≡ payload e) where
    -- what comes at the gate, where this begins it behind the payload
    comes : (h : List Entry) (bytes rest : List ℕ) → a.gate ≡ length (body h) → a.switched ≡ has_switch h → drop a.gate bytes ≡ 1 ∷ (to_be_bytes w32 n ++ (p.bytes ++ rest))
        → next_of h (drop a.gate bytes) ≡ next_tail h (a.gate + 5 + n) e rest
    comes h bytes rest gate switched is =
        let len : length (payload e) ≡ n = ap (λ (l : List ℕ). length l) (sym of_entry) ∙ p.length_is in
        ap (next_of h) (is ∙ ap (λ (l : List ℕ). 1 ∷ (to_be_bytes w32 n ++ (l ++ rest))) of_entry ∙ ap (λ (m : ℕ). 1 ∷ (to_be_bytes w32 m ++ (payload e ++ rest))) (sym len))
        ∙ behind_payload h a.gate gate e rest fits (omega (arith, p.within, len, tail_size-of view a b ahead h switched))
        ∙ ap (λ (m : ℕ). next_tail h (a.gate + 5 + m) e rest) len

    -- the disk ends in the chain
    pub ends_in_chain : (ending : Ending) → IsCut view a b (n + 5 + tail_bytes a.switched) ending → EndsHere view a ending
    ends_in_chain Closed cut h bytes told gate switched chained of = absurd cut
    ends_in_chain (Unchained place stood computed) cut h bytes told gate switched chained of = absurd cut
    ends_in_chain Failed cut h bytes told gate switched chained of = tt
    ends_in_chain (Spoiled place) cut h bytes told gate switched chained of =
        let is : drop a.gate bytes ≡ 1 ∷ (to_be_bytes w32 n ++ (p.bytes ++ here.rest)) = all_now view a b ahead cut.2 bytes told of ∙ here.shape in
        let long = held_long n p.bytes p.length_is here.rest b.held here.shape in
        comes h bytes here.rest gate switched is
        ∙ tail_cut h (a.gate + 5 + n) e here.rest (omega (arith, cut.0, long, tail_size-of view a b ahead h switched))
        ∙ ap spoiled (omega (arith, cut.1, long, ahead.same.gate))

    -- another chain stands there
    pub ends_unchained : (stood computed : List ℕ) → a.switched ≡ true → n + 37 ≤ length b.held → stood ≡ take 32 (drop (n + 5) b.held) → computed ≡ known_chain (chain_with a.chain (take n (drop 5 b.held))) → stood ≢ computed
        → EndsHere view a (Unchained (a.gate + 5 + n) stood computed)
    ends_unchained stood computed on whole stood_is computed_is other h bytes told gate switched chained of =
        let all = now_held view a b ahead bytes told of in
        let is : drop a.gate bytes ≡ 1 ∷ (to_be_bytes w32 n ++ (p.bytes ++ (here.rest ++ all.0))) =
        all.1 ∙ ap (λ (l : List ℕ). l ++ all.0) here.shape
        ∙ ap (λ (l : List ℕ). 1 ∷ l) (append_assoc (to_be_bytes w32 n) (p.bytes ++ here.rest) all.0 ∙ ap (λ (l : List ℕ). to_be_bytes w32 n ++ l) (append_assoc p.bytes here.rest all.0)) in
        let long = held_long n p.bytes p.length_is here.rest b.held here.shape in
        let size : tail_size h ≡ 32 = tail_size-of view a b ahead h switched ∙ ap tail_bytes on in
        let there : take (tail_size h) (here.rest ++ all.0) ≡ stood =
        ap (λ (k : ℕ). take k (here.rest ++ all.0)) size ∙ take-append-le 32 here.rest all.0 (omega (arith, whole, long))
        ∙ ap (λ (l : List ℕ). take 32 l) (sym (behind_held n p.bytes p.length_is here.rest b.held here.shape)) ∙ sym stood_is in
        let read : take n (drop 5 b.held) ≡ payload e = payload_held n p.bytes p.length_is here.rest b.held here.shape ∙ of_entry in
        let tail_is : tail h e ≡ computed =
        tail-by h e ∙ ap₂ tail_by (sym switched ∙ on) (sym (chain_at_switch a.chain h e chained (sym switched ∙ on)) ∙ ap (λ (l : List ℕ). known_chain (chain_with a.chain l)) (sym read) ∙ sym computed_is) in
        comes h bytes (here.rest ++ all.0) gate switched is
        ∙ tail_other h (a.gate + 5 + n) e (here.rest ++ all.0) (omega (arith, whole, long, size, length-append here.rest all.0)) (λ same. other (sym there ∙ same ∙ tail_is))
        ∙ ap₂ (λ (s c : List ℕ). unchained (a.gate + 5 + n) s c) there tail_is

  held_is : take n (drop 5 b.held) ≡ p.bytes
  held_is = payload_held n p.bytes p.length_is here.rest b.held here.shape

  spoils : (fault : ℕ) → entry_of p.bytes ≡ Err fault → EndsHere view a (Spoiled (b.gate + 5 + fault))
  spoils fault read = subst (λ (g : ℕ). EndsHere view a (Spoiled (g + 5 + fault))) (sym ahead.same.gate) (malformed_here view a n p fault read)

  -- where the payload is malformed, it ends there
  unless : (behind : Ending) (fault : ℕ) → entry_of p.bytes ≡ Err fault → EndsHere view a (unless_failed behind (b.gate + 5 + fault))
  unless Failed fault read = λ h bytes told gate switched chained of. tt
  unless Closed fault read = spoils fault read
  unless (Spoiled place) fault read = spoils fault read
  unless (Unchained place stood computed) fault read = spoils fault read

  -- how it ends behind the payload is how it ends, unless that is malformed
  pub ends_so : (behind ending : Ending) → ((e : Entry) → Fits e → p.bytes ≡ payload e → EndsHere view a behind) → EndsBehind (take n (drop 5 b.held)) (b.gate + 5) behind ending → EndsHere view a ending
  ends_so behind ending there (inl (e, fits, is, same)) = subst (λ (x : Ending). EndsHere view a x) (sym same) (there e fits (sym held_is ∙ is))
  ends_so behind ending there (inr (fault, read, same)) = subst (λ (x : Ending). EndsHere view a x) (sym same) (unless behind fault (ap entry_of (sym held_is) ∙ read))

-- the frame of a payload is there, with its chain
pub framed_here : (f : Found) {D : Type 0} (r : Reading D) → (p : IsPayload f.bytes r.switched r.gate r.held) → ((e : Entry) → take f.bytes (drop 5 r.held) ≡ payload e → f.switches ≡ is_switch e) → IsTold f.bytes r f.chain → IsFrame f r.switched r.chain r.gate r.held
framed_here f r p switches told =
    let n = f.bytes in
    let read = payload_held n p.bytes p.length_is p.rest r.held p.shape in
    let behind = behind_held n p.bytes p.length_is p.rest r.held p.shape in
    let rest : List ℕ = drop (tail_bytes r.switched) p.rest in
    let parts : p.rest ≡ tail_by r.switched (known_chain f.chain) ++ rest =
    sym (take-append-drop (tail_bytes r.switched) p.rest) ∙ ap (λ (l : List ℕ). l ++ rest) (ap (λ (l : List ℕ). take (tail_bytes r.switched) l) (sym behind) ∙ told.2) in
    record {
      bytes = p.bytes;
      length_is = p.length_is;
      short = p.short;
      switch_is = λ e is. switches e (read ∙ is);
      chain_is = told.0 ∙ ap (chain_with r.chain) read;
      rest = rest;
      shape = p.shape ∙ ap (λ (l : List ℕ). 1 ∷ (to_be_bytes w32 n ++ (p.bytes ++ l))) parts;
      within = p.within;
    }

-- the payload of a frame
abbrev pub payload_of : {D : Type 0} (b : Reading D) (f : Found) → IsFrame f b.switched b.chain b.gate b.held → IsPayload f.bytes b.switched b.gate b.held
payload_of b f g = record { bytes = g.bytes; length_is = g.length_is; short = g.short; rest = tail_by b.switched (known_chain f.chain) ++ g.rest; shape = g.shape; within = g.within }

-- what was known of the length is known still
pub length_stays : (old new : List ℕ) → BeginsWith old new → 5 ≤ length old → take 4 (drop 1 new) ≡ take 4 (drop 1 old)
length_stays [] new b five = absurd (omega (arith, five))
length_stays (x ∷ old) new b five = ap (λ (l : List ℕ). take 4 (drop 1 l)) b.1 ∙ take-append-le 4 old b.0 (omega (arith, five))

pub begins_still : (front old new : List ℕ) → BeginsWith front old → BeginsWith old new → BeginsWith front new
begins_still front old new x y = begins_then front old new x y

pub longer : (old new : List ℕ) → BeginsWith old new → (n : ℕ) → n ≤ length old → n ≤ length new
longer old new b n le = omega (arith, ap (λ (l : List ℕ). length l) b.1, length-append old b.0, le)
