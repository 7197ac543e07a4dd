-- How a journal is read on.
use Rattle.std.proofs.Common.{◌≡◌, ℕ, ◌+◌, Bool, ◌||◌, List, [], ◌∷◌, ◌++◌, length, drop, Option, Some, None, true, sym, ◌∙◌, ap, ap₂, subst, arith, append_assoc, length-append}
use Rattle.std.specs.Prelude.{IsSome}
use Rattle.std.specs.Int.{to_be_bytes, w32}
use Rattle.std.proofs.lemmas.List.{drop_at}
use Rattle.mc_outside.specs.Bytes.{BeginsWith}
use Rattle.mc_outside.specs.DiskView.{DiskView}
use Rattle.mc_records.specs.Entry.{Entry, Fits, payload}
use Rattle.mc_records.specs.Chains.{is_switch}
use Rattle.mc_records.specs.Sizes.{tail, tail_by, tail_bytes, size}
use Rattle.mc_records.proofs.ChainLaws.{has_switch-more}
use Rattle.mc_records.proofs.SizeLaws.{length-tail, tail_size-by}
use Rattle.scrip_journal.specs.Layout.{body, framed, next_of, at_end, spoiled, unchained, Encodes, IsSpoiled, IsUnchained}
use Rattle.scrip_journal.specs.States.{Reading, AtRest, IsReading, IsJournal, EndedBy, IsChainOf, known_chain, chain_with}
use Rattle.scrip_journal.specs.Replays.{HeldOf, ReadAhead, IsFrame, frame_size, RestsBehind}
use Rattle.scrip_journal.specs.declared.replay.Found.{Found}
use Rattle.scrip_journal.specs.declared.ending.Ending.{Ending}
use Rattle.scrip_journal.specs.declared.ending.Ending.TheVariants.{Closed}
use Rattle.scrip_journal.proofs.Bodies.{body_long, body_more, size_more, fits_more}
use Rattle.scrip_journal.proofs.Nexts.{at_end_is}
use Rattle.scrip_journal.proofs.Known.{chain_goes_on, tail_of}

-- a length, the payload of that length and its tail are the frame of an entry
frame_is : (before : List Entry) (e : Entry) (m : ℕ) (end : List ℕ) → length (payload e) ≡ m → end ≡ tail before e → 1 ∷ (to_be_bytes w32 m ++ (payload e ++ end)) ≡ 1 ∷ framed before e
unfolding framed
frame_is before e m end is end_is =
    ap (λ (k : ℕ). 1 ∷ (to_be_bytes w32 k ++ (payload e ++ end))) (sym is) ∙ ap (λ (l : List ℕ). 1 ∷ (to_be_bytes w32 (length (payload e)) ++ (payload e ++ l))) end_is

pub some_same : (x y : List ℕ) → Some x ≡ Some y → x ≡ y
some_same x y e = cc

-- the bytes of a reading are those of its disk
pub bytes_told : {D : Type 0} (view : D → DiskView) (r : Reading D) (h : List Entry) (x : List ℕ) (is : IsReading view r h) → (view r.disk).contents ≡ Some x → is.bytes ≡ x
bytes_told view r h x is told = some_same is.bytes x (sym is.told ∙ told)

module _ {D : Type 0} (view : D → DiskView) (a : Reading D) (h : List Entry) (r : IsReading view a h) where
  pub gate_place : a.gate ≡ length (body h)
  gate_place = omega (arith, r.gate_is, body_long h)

  pub behind_gate : drop a.gate r.bytes ≡ r.rest
  behind_gate = ap (λ (l : List ℕ). drop a.gate l) r.shape ∙ drop_at (body h) r.rest a.gate (sym gate_place)

  pub of_disk : HeldOf r.bytes a
  of_disk = subst (BeginsWith a.held) (sym behind_gate) r.held_is

  -- more was read ahead
  abbrev pub still_reading : (b : Reading D) → ReadAhead view a b → IsReading view b h
  still_reading b x = record {
    bytes = r.bytes;
    told = x.only_read.contents ∙ r.told;
    fits = r.fits;
    most = r.most;
    rest = r.rest;
    shape = r.shape;
    gate_is = ap (λ (n : ℕ). n + 1) x.same.gate ∙ r.gate_is;
    entries_is = x.same.entries ∙ r.entries_is;
    switched_is = x.same.switched ∙ r.switched_is;
    chain_is = subst (λ (c : Option (List ℕ)). IsChainOf c h) (sym x.same.chain) r.chain_is;
    held_is = subst (BeginsWith b.held) (ap (λ (g : ℕ). drop g r.bytes) x.same.gate ∙ behind_gate) (x.held r.bytes r.told of_disk);
    ended_by = subst (λ (e : Option Ending). EndedBy e (next_of h r.rest)) (sym x.same.ended) r.ended_by;
    synced = λ c l. r.synced c (x.only_read.leaves c l);
  }

  -- the reading ended
  pub ended_reading : (b : Reading D) (e : Ending) → b ≡ record a { ended = Some e } → EndedBy (Some e) (next_of h r.rest) → IsReading view b h
  ended_reading b e is by = subst (λ (v : Reading D). IsReading view v h) (sym is) (record {
    bytes = r.bytes;
    told = r.told;
    fits = r.fits;
    most = r.most;
    rest = r.rest;
    shape = r.shape;
    gate_is = r.gate_is;
    entries_is = r.entries_is;
    switched_is = r.switched_is;
    chain_is = r.chain_is;
    held_is = r.held_is;
    ended_by = by;
    synced = r.synced;
  })

  -- the payload of the next entry was taken off
  pub next_reading : (b : Reading D) (f : Found) (g : IsFrame f a.switched a.chain a.gate a.held) (e : Entry) → Fits e → g.bytes ≡ payload e → a.ended ≡ None → (f.switches ≡ true → IsSome a.chain)
      → b ≡ record a { gate = a.gate + frame_size f a.switched; entries = a.entries + 1; switched = a.switched || f.switches; chain = f.chain; before = known_chain a.chain; held = drop (frame_size f a.switched) a.held; last = b.last; at = a.gate + 5 }
      → IsReading view b (h ++ e ∷ [])
  next_reading b f g e fits of_entry on known is =
      let more = r.held_is in
      let n = f.bytes in
      let bytes = to_be_bytes w32 n in
      let end = tail_by a.switched (known_chain f.chain) in
      let switch_is : f.switches ≡ is_switch e = g.switch_is e of_entry in
      let length_is : length (payload e) ≡ n = ap (λ (l : List ℕ). length l) (sym of_entry) ∙ g.length_is in
      let chain_is : IsChainOf f.chain (h ++ e ∷ []) =
      subst (λ (c : Option (List ℕ)). IsChainOf c (h ++ e ∷ [])) (sym (g.chain_is ∙ ap (chain_with a.chain) of_entry)) (chain_goes_on a.chain h e r.chain_is (λ on. known (switch_is ∙ on))) in
      let end_is : end ≡ tail h e = tail_of a.switched f.chain h e r.switched_is chain_is in
      let end_long : length end ≡ tail_bytes a.switched = ap (λ (l : List ℕ). length l) end_is ∙ length-tail h e ∙ tail_size-by h ∙ ap tail_bytes (sym r.switched_is) in
      let front : List ℕ = 1 ∷ (bytes ++ (payload e ++ end)) in
      let long : length front ≡ frame_size f a.switched = omega (arith, length-append bytes (payload e ++ end), length-append (payload e) end, length_is, end_long) in
      let held : a.held ≡ front ++ g.rest =
      g.shape ∙ ap (λ (l : List ℕ). 1 ∷ (bytes ++ (l ++ (end ++ g.rest)))) of_entry
      ∙ ap (λ (l : List ℕ). 1 ∷ (bytes ++ l)) (sym (append_assoc (payload e) end g.rest)) ∙ ap (λ (l : List ℕ). 1 ∷ l) (sym (append_assoc bytes (payload e ++ end) g.rest)) in
      let rest : r.rest ≡ front ++ (g.rest ++ more.0) = more.1 ∙ ap (λ (l : List ℕ). l ++ more.0) held ∙ append_assoc front g.rest more.0 in
      let frame : front ≡ 1 ∷ framed h e = frame_is h e n end length_is end_is in
      let whole : r.bytes ≡ body (h ++ e ∷ []) ++ (g.rest ++ more.0) =
      r.shape ∙ ap (λ (l : List ℕ). body h ++ l) (rest ∙ ap (λ (l : List ℕ). l ++ (g.rest ++ more.0)) frame)
      ∙ sym (append_assoc (body h) (1 ∷ framed h e) (g.rest ++ more.0)) ∙ ap (λ (l : List ℕ). l ++ (g.rest ++ more.0)) (sym (body_more h e)) in
      let grown : size (h ++ e ∷ []) ≡ size h + frame_size f a.switched = omega (arith, size_more h e, length_is, end_long, ap (λ (l : List ℕ). length l) end_is) in
      subst (λ (v : Reading D). IsReading view v (h ++ e ∷ [])) (sym is) (record {
        bytes = r.bytes;
        told = r.told;
        fits = fits_more h e r.fits fits;
        most = omega (arith, grown, g.within, r.gate_is);
        rest = g.rest ++ more.0;
        shape = whole;
        gate_is = omega (arith, grown, r.gate_is);
        entries_is = omega (arith, r.entries_is, length-append h (e ∷ []));
        switched_is = ap₂ (λ (x y : Bool). x || y) r.switched_is switch_is ∙ sym (has_switch-more h e);
        chain_is = chain_is;
        held_is = (more.0, ap (λ (l : List ℕ). l ++ more.0) (sym (ap (λ (l : List ℕ). drop (frame_size f a.switched) l) held ∙ drop_at front g.rest (frame_size f a.switched) long)));
        ended_by = subst (λ (x : Option Ending). EndedBy x (next_of (h ++ e ∷ []) (g.rest ++ more.0))) (sym on) tt;
        synced = r.synced;
      })

  -- at a closed gate
  pub stands_here : next_of h r.rest ≡ at_end → Encodes h r.bytes
  stands_here e =
      let g = at_end_is h r.rest e in
      record { fits = r.fits; most = r.most; gate = g.0; rest = g.1; closed = g.2; shape = r.shape ∙ ap (λ (l : List ℕ). body h ++ l) g.3 }

  pub spoiled_here : (place : ℕ) → next_of h r.rest ≡ spoiled place → IsSpoiled h r.bytes place
  spoiled_here place e = record { fits = r.fits; most = r.most; rest = r.rest; shape = r.shape; next_is = e }

  pub unchained_here : (place : ℕ) (stood computed : List ℕ) → next_of h r.rest ≡ unchained place stood computed → IsUnchained h r.bytes place stood computed
  unchained_here place stood computed e = record { fits = r.fits; most = r.most; rest = r.rest; shape = r.shape; next_is = e }

-- a reading that ended at a closed gate leaves a journal
pub finished : {D : Type 0} (view : D → DiskView) (a : Reading D) (h : List Entry) (j : AtRest D) → a.ended ≡ Some Closed → RestsBehind a j → IsReading view a h → IsJournal view j h
finished {D = D} view a h j ended rests r = record {
  bytes = r.bytes;
  told = ap (λ (d : D). (view d).contents) rests.disk ∙ r.told;
  stands = stands_here view a h r (subst (λ (e : Option Ending). EndedBy e (next_of h r.rest)) ended r.ended_by);
  size_is = rests.size_is ∙ r.gate_is;
  entries_is = rests.entries ∙ r.entries_is;
  switched_is = rests.switched ∙ r.switched_is;
  chain_is = subst (λ (c : Option (List ℕ)). IsChainOf c h) (sym rests.chain) r.chain_is;
  synced = λ c l. r.synced c (subst (λ (d : D). (view d).leaves c) rests.disk l);
}
