-- What an answer of reading says of the bytes.
use Rattle.std.proofs.Common.{◌≡◌, ℕ, List, Result, Ok, Err, sym, ap, ◌∙◌}
use Rattle.std.specs.Prelude.{IfOk, IfErr}
use Rattle.mc_fields.specs.Stops.{StopsAt}
use Rattle.mc_fields.proofs.FieldBytes.{IsBytes}
use Rattle.mc_fields.proofs.StopLaws.{stops_at}
use Rattle.mc_records.specs.declared.record.Record.{Record}
use Rattle.mc_records.specs.declared.record.RecordFault.{RecordFault}
use Rattle.mc_records.specs.Entry.{Entry, Fits, payload}
use Rattle.mc_records.specs.Forms.{entry_form, entry_of}
use Rattle.mc_records.specs.Views.{entry, GivesEntry}
use Rattle.mc_records.proofs.EntryLaws.{payload_found, payload_only}

pub found_in : (bytes : List ℕ) (r : Result Record RecordFault) → IsBytes bytes → GivesEntry r (entry_of bytes) → IfOk r (λ x. Fits (entry x) × (bytes ≡ payload (entry x)))
found_in bytes (Ok x) fits h = payload_found bytes (entry x) fits h
found_in bytes (Err f) fits h = tt

pub only_in : (bytes : List ℕ) (r : Result Record RecordFault) → GivesEntry r (entry_of bytes) → (e : Entry) → Fits e → bytes ≡ payload e → GivesEntry r (Ok e)
only_in bytes (Ok x) h e fits same = sym (payload_only e fits) ∙ ap entry_of (sym same) ∙ h
only_in bytes (Err f) h e fits same = sym (payload_only e fits) ∙ ap entry_of (sym same) ∙ h

pub place_in : (bytes : List ℕ) (r : Result Record RecordFault) → IsBytes bytes → GivesEntry r (entry_of bytes) → IfErr r (λ f. StopsAt entry_form bytes f.place)
place_in bytes (Ok x) fits h = tt
place_in bytes (Err f) fits h = stops_at entry_form bytes f.place fits h
