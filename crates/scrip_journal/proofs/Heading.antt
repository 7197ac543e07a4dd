-- Whether a disk begins with the header of a journal.
use Rattle.std.proofs.Common.{◌≡◌, ℕ, ◌≤◌, ◌<◌, false, List, [], ◌++◌, length, take, drop, Some, None, refl, sym, ◌∙◌, ap, subst, arith, append_assoc, append-nil, length-append, Option}
use Rattle.std.proofs.lemmas.List.{take_at, take-append-le, take-append-drop}
use Rattle.mc_outside.specs.Bytes.{BeginsWith}
use Rattle.mc_records.specs.Chains.{first_chain}
use Rattle.mc_outside.specs.DiskView.{DiskView, OnlyRead, IsSynced}
use Rattle.scrip_journal.specs.Layout.{header, next_of}
use Rattle.scrip_journal.specs.States.{Reading, IsReading, EndedBy, IsChainOf}
use Rattle.scrip_journal.specs.declared.ending.Ending.{Ending}
use Rattle.scrip_journal.specs.Replays.{HeldOf, AllHeld, ReadAhead, FoundHeader}
use Rattle.scrip_journal.proofs.Bodies.{header_long}

module _ {D : Type 0} (view : D → DiskView) (old new : Reading D) (front : old ≡ record { disk = old.disk; gate = 0; entries = 0; limit = old.limit; switched = false; chain = None; before = first_chain; held = []; last = []; at = 0; ended = None }) where
  gate : old.gate ≡ 0
  gate = ap (λ (v : Reading D). v.gate) front

  held : old.held ≡ []
  held = ap (λ (v : Reading D). v.held) front

  -- nothing is held at first
  at_first : (x : List ℕ) → HeldOf x old
  at_first x = subst (λ (l : List ℕ). BeginsWith l (drop old.gate x)) (sym held) (drop old.gate x, refl)

  -- the disk has fewer bytes than the header
  pub cut_header : length new.held < 8 → AllHeld view old new → new.gate ≡ old.gate → (x : List ℕ) → (view old.disk).contents ≡ Some x → BeginsWith header x → ⊥
  cut_header few all same x told begins =
      let is : x ≡ new.held = ap (λ (k : ℕ). drop k x) (sym (same ∙ gate)) ∙ all x told (at_first x) in
      omega (arith, few, ap (λ (l : List ℕ). length l) is, ap (λ (l : List ℕ). length l) begins.1, length-append header begins.0, header_long)

  module _ (ahead : ReadAhead view old new) (enough : 8 ≤ length new.held) (x : List ℕ) (told : (view old.disk).contents ≡ Some x) where
    -- what is held begins the disk
    pub held_first : BeginsWith new.held x
    held_first = subst (λ (k : ℕ). BeginsWith new.held (drop k x)) (ahead.same.gate ∙ gate) (ahead.held x told (at_first x))

    pub front_is : take 8 x ≡ take 8 new.held
    front_is = ap (λ (l : List ℕ). take 8 l) held_first.1 ∙ take-append-le 8 new.held held_first.0 enough

    -- the disk begins with other bytes
    pub other_header : (take 8 new.held ≡ header → ⊥) → BeginsWith header x → ⊥
    other_header not begins = not (sym front_is ∙ ap (λ (l : List ℕ). take 8 l) begins.1 ∙ take_at header begins.0 8 header_long)

    -- the disk begins with the header and what is held behind it
    pub found_header : take 8 new.held ≡ header → (l : List ℕ) → l ≡ drop 8 new.held → BeginsWith (header ++ l) x
    found_header is l back =
        (held_first.0, held_first.1 ∙ ap (λ (z : List ℕ). z ++ held_first.0) (sym (take-append-drop 8 new.held) ∙ ap (λ (z : List ℕ). z ++ drop 8 new.held) is ∙ ap (λ (z : List ℕ). header ++ z) (sym back)))

-- a disk that was synced and begins with the header is read from its first gate on
pub opened_reading : {D : Type 0} (view : D → DiskView) (d : D) (old r : Reading D) (x : List ℕ) → old.disk ≡ d → (view d).contents ≡ Some x → IsSynced (view d) → OnlyRead (view old.disk) (view r.disk)
    → FoundHeader old r → old.entries ≡ 0 → old.switched ≡ false → old.chain ≡ None → old.ended ≡ None → BeginsWith (header ++ r.held) x → IsReading view r []
opened_reading {D = D} view d old r x is told synced only found entries switched none ended begins =
    let at_old = ap (λ (e : D). (view e).contents) is ∙ told in
    record {
      bytes = x;
      told = only.contents ∙ at_old;
      fits = tt;
      most = omega arith;
      rest = r.held ++ begins.0;
      shape = begins.1 ∙ append_assoc header r.held begins.0 ∙ ap (λ (l : List ℕ). l ++ (r.held ++ begins.0)) (sym (append-nil header));
      gate_is = omega (arith, found.gate);
      entries_is = found.entries ∙ entries;
      switched_is = found.switched ∙ switched;
      chain_is = subst (λ (c : Option (List ℕ)). IsChainOf c []) (sym (found.chain ∙ none)) refl;
      held_is = (begins.0, refl);
      ended_by = subst (λ (e : Option Ending). EndedBy e (next_of [] (r.held ++ begins.0))) (sym (found.ended ∙ ended)) tt;
      synced = λ c l. subst (λ (e : D). IsSynced (view e)) (sym is) synced x at_old c (only.leaves c l);
    }
