use Rattle.std.proofs.Common.{◌≡◌, ◌-◌, ℕ, length, map, Vec, Global}
use Rattle.mc_stage.specs.Scenario.{pieces_from, without_empty}
use Rattle.mc_stage.proofs.pieces.skip_empty.Given as goal

abbrev pub invariant-pieces : goal.invariant-pieces
invariant-pieces l = without_empty (pieces_from l.piece l.place (map (λ (v : Vec ℕ Global). v.items) l.pieces)) ≡ without_empty (pieces_from l.fn.piece l.fn.place (map (λ (v : Vec ℕ Global). v.items) l.pieces))

abbrev pub decreases-pieces : goal.decreases-pieces
decreases-pieces l = length l.pieces - l.piece
