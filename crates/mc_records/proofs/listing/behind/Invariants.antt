use Rattle.std.proofs.Common.{◌≡◌, ◌-◌}
use Rattle.mc_fields.specs.Form.{run, repeated}
use Rattle.mc_records.specs.Forms.{held_form}
use Rattle.mc_records.specs.Pieces.{after}
use Rattle.mc_records.proofs.listing.behind.Given as goal

abbrev pub invariant-loop : goal.invariant-loop
invariant-loop l = after (run (repeated (l.count - l.counter) held_form) l.rest) ≡ after (run (repeated l.count held_form) l.bytes)
