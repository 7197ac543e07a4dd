-- What a piece read ahead and an entry taken off leave of a reading.
use Rattle.std.proofs.Common.{◌≡◌, ℕ, ◌+◌, ◌≤◌, Bool, List, [], ◌∷◌, ◌++◌, length, take, drop, Option, Some, refl, sym, ◌∙◌, ap, subst, arith, append-nil, length-append, length-drop}
use Rattle.std.specs.Int.{to_be_bytes, w32}
use Rattle.std.proofs.lemmas.List.{drop-drop, take_at, drop_at}
use Rattle.mc_outside.specs.Bytes.{BeginsWith}
use Rattle.mc_outside.specs.DiskView.{DiskView, OnlyRead}
use Rattle.mc_records.specs.Sizes.{tail_by, tail_bytes}
use Rattle.scrip_journal.specs.States.{Reading, known_chain}
use Rattle.scrip_journal.specs.Replays.{ReadAhead, AllHeld, IsFrame, frame_size}
use Rattle.scrip_journal.specs.declared.replay.Found.{Found}
use Rattle.scrip_journal.proofs.Windows.{held_grows, held_all}
use Rattle.scrip_journal.proofs.Known.{tail_long}

module _ {D : Type 0} (view : D → DiskView) (old new : Reading D) (n : ℕ) (piece : List ℕ) (gate : new.gate ≡ old.gate) (grown : new.held ≡ old.held ++ piece) (only : OnlyRead (view old.disk) (view new.disk)) where
  at_gate : (bytes : List ℕ) → drop new.gate bytes ≡ drop old.gate bytes
  at_gate bytes = ap (λ (g : ℕ). drop g bytes) gate

  pub piece_ahead : new.entries ≡ old.entries → new.limit ≡ old.limit → new.switched ≡ old.switched → new.chain ≡ old.chain → new.ended ≡ old.ended
      → ((bytes : List ℕ) → (view old.disk).contents ≡ Some bytes → piece ≡ take n (drop (old.gate + length old.held) bytes)) → ReadAhead view old new
  piece_ahead entries limit switched chain ended is = record {
    same = record { gate = gate; entries = entries; limit = limit; switched = switched; chain = chain; ended = ended };
    only_read = only;
    more = (piece, grown);
    held = λ bytes told of.
        let part : piece ≡ take n (drop (length old.held) (drop old.gate bytes)) = is bytes told ∙ ap (λ (l : List ℕ). take n l) (sym (drop-drop (length old.held) old.gate bytes)) in
        subst (λ (l : List ℕ). BeginsWith new.held l) (sym (at_gate bytes)) (subst (λ (l : List ℕ). BeginsWith l (drop old.gate bytes)) (sym grown) (held_grows (drop old.gate bytes) old.held piece n of part));
  }

  pub all_read : length piece ≡ 0 → ((bytes : List ℕ) → (view old.disk).contents ≡ Some bytes → length bytes ≤ old.gate + length old.held) → AllHeld view old new
  all_read none ends bytes told of =
      let all : drop old.gate bytes ≡ old.held = held_all (drop old.gate bytes) old.held of (omega (arith, length-drop old.gate bytes, ends bytes told)) in
      at_gate bytes ∙ all ∙ sym (grown ∙ nothing piece none)
    where
      nothing : (p : List ℕ) → length p ≡ 0 → old.held ++ p ≡ old.held
      nothing [] e = append-nil old.held
      nothing (x ∷ p) e = absurd (omega (arith, e))

-- the payload of a frame stands behind the gate and the length
pub payload_in : (f : Found) (switched : Bool) (chain : Option (List ℕ)) (gate : ℕ) (held : List ℕ) (g : IsFrame f switched chain gate held) → take f.bytes (drop 5 held) ≡ g.bytes
payload_in f switched chain gate held g =
    let bytes = to_be_bytes w32 f.bytes in
    let rest = tail_by switched (known_chain f.chain) ++ g.rest in
    ap (λ (l : List ℕ). take f.bytes (drop 5 l)) g.shape
    ∙ ap (λ (l : List ℕ). take f.bytes l) (drop_at bytes (g.bytes ++ rest) 4 refl)
    ∙ take_at g.bytes rest f.bytes g.length_is

pub frame_long : (f : Found) (switched : Bool) (chain : Option (List ℕ)) (gate : ℕ) (held : List ℕ) (g : IsFrame f switched chain gate held) → frame_size f switched ≤ length held
frame_long f switched chain gate held g =
    let rest = tail_by switched (known_chain f.chain) ++ g.rest in
    omega (arith, ap (λ (l : List ℕ). length l) g.shape, length-append (to_be_bytes w32 f.bytes) (g.bytes ++ rest), length-append g.bytes rest, length-append (tail_by switched (known_chain f.chain)) g.rest, g.length_is, chain_long)
  where
    chain_long : length (tail_by switched (known_chain f.chain)) ≡ tail_bytes switched
    chain_long = ap (λ (c : Option (List ℕ)). length (tail_by switched (known_chain c))) g.chain_is ∙ tail_long switched chain g.bytes
