use Rattle.std.proofs.Common.{◌∙◌, ◌+◌, sym, arith, ℕ, Vec, Global}
use Rattle.mc_stage.proofs.Elements.{piece_over, piece_left}
use Rattle.mc_stage.proofs.pieces.skip_empty.Goals as goal

pub pieces-preserved : goal.pieces-preserved
pieces-preserved c =
    sym (piece_over (λ (v : Vec ℕ Global). v.items) c.args.pieces.now c.pieces.piece (c.pieces.piece + 1) c.pieces.place c.index-pieces-piece.result c.pieces-test.true c.index-pieces-piece.is
    (omega (arith, c.if-len-place.true, c.len.ensures, c.index-pieces-piece.result.ok)) (omega arith)) ∙ c.pieces.invariant

pub returns-else-len-place : goal.returns-else-len-place
returns-else-len-place c =
    piece_left (λ (v : Vec ℕ Global). v.items) c.args.pieces.now c.pieces.piece c.pieces.place c.index-pieces-piece.result c.pieces-test.true c.index-pieces-piece.is
    (omega (arith, c.if-len-place.false, c.len.ensures, c.index-pieces-piece.result.ok)) ∙ c.pieces.invariant
