use Rattle.std.proofs.Common.{map, Vec, Global, ℕ}
use Rattle.mc_stage.specs.Scenario.{pieces_from}
use Rattle.mc_stage.proofs.Elements.{is_at}
use Rattle.mc_stage.proofs.pieces.Pieces.of.Goals as goal

pub invariant_of-result : goal.invariant_of-result
invariant_of-result c = let skipped = rw c.deref.ensures.value at c.skip_empty.ensures in is_at (pieces_from c.skip_empty.new.piece c.skip_empty.new.place (map (λ (v : Vec ℕ Global). v.items) c.args.pieces.items)) (pieces_from 0 0 (map (λ (v : Vec ℕ Global). v.items) c.args.pieces.items)) skipped
