-- Pieces, as sums and strangers ask of them.
use Rattle.std.specs.Prelude.{ℕ, not, ◌&&◌, nat_lt, nat_le, if◌then◌else◌}
use Rattle.scrip_form.specs.Scrip.{Scrip}
use Rattle.ledger_model.specs.Histories.{History, time}
use Rattle.ledger_model.specs.Pieces.{is_spent}
use Rattle.audit_model.specs.declared.part.Part.{Part}

-- the identity, the value and the end of a piece
abbrev pub part_of : Scrip → Part
part_of p = record { id = p.id; value = p.value; expires = p.expires }

-- what a piece that was handed out adds to what is outstanding, and to what has lapsed
abbrev pub still_out : History → Part → ℕ
still_out h p = if not (is_spent h p.id) && nat_lt (time h) p.expires then p.value else 0

abbrev pub gone_by : History → Part → ℕ
gone_by h p = if not (is_spent h p.id) && nat_le p.expires (time h) then p.value else 0
