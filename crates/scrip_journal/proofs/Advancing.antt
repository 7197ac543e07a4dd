-- What one call of `next_record` does, from its steps.
use Rattle.std.proofs.Common.{◌≡◌, ℕ, ◌+◌, ◌++◌, true, List, Option, Some, None, Ok, Err, refl, sym, ◌∙◌, ap, subst, arith}
use Rattle.std.specs.Prelude.{IsSome}
use Rattle.mc_outside.specs.DiskView.{DiskView}
use Rattle.mc_records.specs.Entry.{Entry, payload}
use Rattle.mc_records.specs.Forms.{entry_of}
use Rattle.scrip_journal.specs.Layout.{body, next_of}
use Rattle.scrip_journal.specs.States.{Reading, IsReading, EndedBy}
use Rattle.scrip_journal.specs.Answers.{Given, answer_of}
use Rattle.scrip_journal.specs.Replays.{LookedOn, FaultsBy, CausedBy, IsFrame, EndsReading, TookEntry, ReadsOn, Advanced, ending_of}
use Rattle.scrip_journal.specs.declared.ending.Ending.{Ending}
use Rattle.scrip_journal.specs.declared.replay.Found.{Found}
use Rattle.scrip_journal.specs.declared.ending.Ending.TheVariants.{Closed, Spoiled, Unchained, Failed}
use Rattle.scrip_journal.proofs.Known.{chain_known}
use Rattle.scrip_journal.proofs.Looked.{same_rest, ends_reading}
use Rattle.scrip_journal.proofs.Looking.{payload_of, malformed_here}
use Rattle.scrip_journal.proofs.Reading.{ended_reading, next_reading, stands_here, spoiled_here, unchained_here}

pub none_of : {A : Type 0} (o : Option A) → ((x : A) → o ≡ Some x → ⊥) → o ≡ None
none_of None not = refl
none_of (Some x) not = absurd (not x refl)

-- the payload read last says nothing of what is read
abbrev pub relast : {D : Type 0} (view : D → DiskView) (a : Reading D) (h : List Entry) (last : List ℕ) → IsReading view a h → IsReading view (record a { last = last }) h
relast view a h last r = record {
  bytes = r.bytes;
  told = r.told;
  fits = r.fits;
  most = r.most;
  rest = r.rest;
  shape = r.shape;
  gate_is = r.gate_is;
  entries_is = r.entries_is;
  switched_is = r.switched_is;
  chain_is = r.chain_is;
  held_is = r.held_is;
  ended_by = r.ended_by;
  synced = r.synced;
}

-- what has ended gives no place
pub no_place : (e : Ending) (place : ℕ) → answer_of e ≡ Ok (Some place) → ⊥
no_place Closed place is = cc
no_place (Spoiled at) place is = cc
no_place (Unchained at stood computed) place is = cc
no_place Failed place is = cc

module _ {D : Type 0} (view : D → DiskView) (moved : D → D → Type 0) (old b : Reading D) (last : List ℕ) (on : old.ended ≡ None) (goes : moved old.disk b.disk) (looked : LookedOn view (record old { last = last }) b) where
  not_again : (given : Given) (new : Reading D) (e : Ending) → old.ended ≡ Some e → (given ≡ answer_of e) × (new ≡ old)
  not_again given new e is = absurd (cc (sym on ∙ is))

  pub advanced_on : (f : Found) (gate : ℕ) (new : Reading D) → (view b.disk).faults ≡ (view old.disk).faults → IsFrame f b.switched b.chain b.gate b.held → (f.switches ≡ true → IsSome b.chain) → TookEntry b f gate new → Advanced view moved old (Ok (Some gate)) new
  advanced_on f gate new faults frame known took = subst (λ (v : Reading D). Advanced view moved old (Ok (Some gate)) v) (sym took.2) (record {
    disk_moved = goes;
    only_read = looked.only_read;
    again = not_again (Ok (Some gate)) _;
    ended = looked.ended ∙ on;
    limit = looked.limit;
    rises = λ place is. (omega (arith, looked.gate), omega (arith, frame.within));
    counted = λ place is. ap (λ (n : ℕ). n + 1) looked.entries;
    stays = λ is. absurd (cc is);
    still = λ is. absurd (cc is);
    cause = λ _. faults;
    reads = λ h r. (
      took.0 ∙ looked.gate,
      record {
        behind = _;
        opened =
            let before = relast view old h last r in
            let still = looked.reading h before in
            r.shape ∙ ap (λ (l : List ℕ). body h ++ l) (sym (same_rest view (record old { last = last }) b looked h before still) ∙ still.held_is.1 ∙ ap (λ (l : List ℕ). l ++ still.held_is.0) frame.shape);
        entry = λ e fits is.
            let still = looked.reading h (relast view old h last r) in
            let of_entry : frame.bytes ≡ payload e = sym (took.1 frame) ∙ is in
            (next_reading view b h still _ f frame e fits of_entry (looked.ended ∙ on) known refl, λ switch. chain_known b.chain h still.chain_is (known (frame.switch_is e of_entry ∙ switch)));
        malformed = λ fault read.
            let before = relast view old h last r in
            let still = looked.reading h before in
            let ends = ends_reading view b (Spoiled (b.gate + 5 + fault)) (malformed_here view b f.bytes (payload_of b f frame) fault (ap entry_of (sym (took.1 frame)) ∙ read)) h still in
            spoiled_here view old h r (b.gate + 5 + fault) (ap (next_of h) (sym (same_rest view (record old { last = last }) b looked h before still)) ∙ ends);
      },
    );
  })

  -- what a reading that ended answers
  reads_no_more : (e : Ending) → EndsReading view (record old { last = last }) e → (h : List Entry) (r : IsReading view old h) → ReadsOn view h r.bytes old.gate (answer_of e) (record b { ended = Some e })
  reads_no_more e ends h r =
      let before = relast view old h last r in
      let still = looked.reading h before in
      let by : EndedBy (Some e) (next_of h r.rest) = ends h before in
      let same = same_rest view (record old { last = last }) b looked h before still in
      let now : IsReading view (record b { ended = Some e }) h = ended_reading view b h still (record b { ended = Some e }) e refl (subst (λ (l : List ℕ). EndedBy (Some e) (next_of h l)) (sym same) by) in
      go e by now
    where
      go : (f : Ending) → EndedBy (Some f) (next_of h r.rest) → IsReading view (record b { ended = Some f }) h → ReadsOn view h r.bytes old.gate (answer_of f) (record b { ended = Some f })
      go Closed by now = (stands_here view old h r by, now)
      go (Spoiled place) by now = (spoiled_here view old h r place by, now)
      go (Unchained place stood computed) by now = (unchained_here view old h r place stood computed by, now)
      go Failed by now = now

  caused : (e : Ending) → FaultsBy {X = ℕ} (Err e) (view old.disk).faults (view b.disk).faults → CausedBy (answer_of e) (view old.disk).faults (view b.disk).faults
  caused Closed f = f
  caused (Spoiled place) f = f
  caused (Unchained place stood computed) f = f
  caused Failed f = f

  ended_so : (e : Ending) → Some e ≡ ending_of (answer_of e)
  ended_so Closed = refl
  ended_so (Spoiled place) = refl
  ended_so (Unchained place stood computed) = refl
  ended_so Failed = refl

  pub advanced_to_end : (e : Ending) (given : Given) (new : Reading D) → FaultsBy {X = ℕ} (Err e) (view old.disk).faults (view b.disk).faults → EndsReading view (record old { last = last }) e
      → given ≡ answer_of e → new ≡ record b { ended = Some e } → Advanced view moved old given new
  advanced_to_end e given new faults ends given_is new_is =
      subst (λ (g : Given). Advanced view moved old g new) (sym given_is) (subst (λ (v : Reading D). Advanced view moved old (answer_of e) v) (sym new_is) (record {
        disk_moved = goes;
        only_read = looked.only_read;
        again = not_again (answer_of e) _;
        ended = ended_so e;
        limit = looked.limit;
        rises = λ place is. absurd (no_place e place is);
        counted = λ place is. absurd (no_place e place is);
        stays = λ is. looked.gate;
        still = λ is. looked.switched;
        cause = λ _. caused e faults;
        reads = reads_no_more e ends;
      }))
