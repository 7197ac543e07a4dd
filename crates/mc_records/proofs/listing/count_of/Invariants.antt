use Rattle.mc_fields.specs.Form.{run, repeated}
use Rattle.std.proofs.Common.{◌≡◌}
use Rattle.mc_records.specs.Forms.{held_form}
use Rattle.mc_records.specs.Pieces.{after}
use Rattle.mc_records.proofs.PieceLaws.{AreLeft, read_to}
use Rattle.mc_records.proofs.listing.count_of.Given as goal

abbrev pub invariant-loop-before : goal.invariant-loop-before
invariant-loop-before l = record {
  read : after (run (repeated l.before held_form) l.bytes) ≡ read_to l.rest;
  left : AreLeft l.bytes l.before l.rest;
}
