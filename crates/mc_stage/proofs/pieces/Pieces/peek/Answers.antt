use Rattle.std.proofs.Common.{◌≡◌, ◌<◌, ◌++◌, ◌∙◌, ap, sym, ℕ, List, length, take, drop, min, Vec, Global, slice_index_or, length-drop}
use Rattle.std.proofs.lemmas.Bool.{ltb-true}
use Rattle.mc_stage.specs.Scenario.{first_piece}
use Rattle.mc_stage.proofs.Elements.{piece_there}
use Rattle.mc_stage.proofs.pieces.Pieces.peek.Goals as goal

first : (c : goal.After-slice_known-2-1) → first_piece c.args.self.now ≡ drop c.self.inside.place c.deref-2.result.now
first c =
    let seen = λ (v : Vec ℕ Global). v.items in
    let within : c.self.inside.piece < length c.self.inside.pieces.items = ltb-true _ _ (sym (rw c.deref.ensures.value at c.in-Some.ensures.lookup.0)) in
    let is : c.in-Some.piece.now ≡ slice_index_or c.self.inside.pieces.items c.self.inside.piece c.in-Some.piece.now = rw c.deref.ensures.value at c.in-Some.ensures.lookup.1 in
    ap first_piece (sym c.self.view_is ∙ piece_there seen c.self.inside.pieces.items c.self.inside.piece c.self.inside.place c.in-Some.piece.now within is)
    ∙ ap (drop c.self.inside.place) (sym c.deref-2.ensures.value)

pub returns-clause-count : goal.returns-clause-count
returns-clause-count c = c.copy_part.ensures.count ∙ ap (λ (n : ℕ). min (length c.args.buf.now) n) (sym (length-drop c.self.inside.place c.deref-2.result.now) ∙ ap length (sym (first c)))

pub returns-clause-copied : goal.returns-clause-copied
returns-clause-copied c = c.copy_part.ensures.copied ∙ ap (λ (l : List ℕ). take c.copy_part.result l ++ drop c.copy_part.result c.args.buf.now) (sym (first c))
