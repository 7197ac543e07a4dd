-- What looking for an entry leaves of a reading, where more of its chain may be known then.
use Rattle.std.proofs.Common.{◌≡◌, ℕ, List, drop, Some, Result, Ok, Err, IfErr, sym, ◌∙◌, ap₂, subst}
use Rattle.mc_outside.specs.DiskView.{DiskView}
use Rattle.mc_outside.proofs.Runs.{read_then}
use Rattle.mc_records.specs.Entry.{Entry}
use Rattle.scrip_journal.specs.Layout.{next_of}
use Rattle.scrip_journal.specs.States.{Reading, IsReading, EndedBy}
use Rattle.scrip_journal.specs.Replays.{ReadAhead, LookedOn, EndsHere, EndsReading}
use Rattle.scrip_journal.specs.declared.ending.Ending.{Ending}
use Rattle.scrip_journal.proofs.Reading.{some_same, gate_place, behind_gate, of_disk, still_reading}

-- more was read ahead
pub looked_ahead : {D : Type 0} (view : D → DiskView) (a b : Reading D) → ReadAhead view a b → LookedOn view a b
looked_ahead view a b ahead = record {
  gate = ahead.same.gate;
  entries = ahead.same.entries;
  limit = ahead.same.limit;
  switched = ahead.same.switched;
  ended = ahead.same.ended;
  only_read = ahead.only_read;
  reading = λ h r. still_reading view a h r b ahead;
}

pub looked_then : {D : Type 0} (view : D → DiskView) (a b c : Reading D) → LookedOn view a b → LookedOn view b c → LookedOn view a c
looked_then view a b c x y = record {
  gate = y.gate ∙ x.gate;
  entries = y.entries ∙ x.entries;
  limit = y.limit ∙ x.limit;
  switched = y.switched ∙ x.switched;
  ended = y.ended ∙ x.ended;
  only_read = read_then (view a.disk) (view b.disk) (view c.disk) x.only_read y.only_read;
  reading = λ h r. y.reading h (x.reading h r);
}

-- the same comes at the gate
pub same_rest : {D : Type 0} (view : D → DiskView) (a b : Reading D) → LookedOn view a b → (h : List Entry) (r : IsReading view a h) (s : IsReading view b h) → s.rest ≡ r.rest
same_rest view a b looked h r s =
    let bytes : s.bytes ≡ r.bytes = some_same s.bytes r.bytes (sym s.told ∙ (looked.only_read.contents ∙ r.told)) in
    sym (behind_gate view b h s) ∙ ap₂ (λ (k : ℕ) (l : List ℕ). drop k l) looked.gate bytes ∙ behind_gate view a h r

-- how a reading ends at its gate is how it ends behind its entries
pub ends_reading : {D : Type 0} (view : D → DiskView) (a : Reading D) (e : Ending) → EndsHere view a e → EndsReading view a e
ends_reading view a e ends h r =
    subst (λ (l : List ℕ). EndedBy (Some e) (next_of h l)) (behind_gate view a h r) (ends h r.bytes r.told (gate_place view a h r) r.switched_is r.chain_is (of_disk view a h r))

pub ends_looked : {D : Type 0} (view : D → DiskView) (a b : Reading D) (e : Ending) → LookedOn view a b → EndsReading view b e → EndsReading view a e
ends_looked view a b e looked ends h r =
    let s = looked.reading h r in
    subst (λ (l : List ℕ). EndedBy (Some e) (next_of h l)) (same_rest view a b looked h r s) (ends h s)

pub if_err : {T E : Type 0} (P Q : E → Type 0) (r : Result T E) → ((e : E) → P e → Q e) → IfErr r P → IfErr r Q
if_err P Q (Ok x) then' is = is
if_err P Q (Err e) then' is = then' e is
