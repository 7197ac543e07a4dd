use Rattle.std.proofs.Common.{◌≡◌, ◌<◌, ◌+◌, ◌∙◌, ap, sym, arith, ℕ, List, length, map, Vec, Global, slice_index_or}
use Rattle.std.proofs.lemmas.Bool.{ltb-true}
use Rattle.mc_stage.specs.Scenario.{pieces_from, pieces_after}
use Rattle.mc_stage.proofs.Elements.{piece_open, piece_left, some_given, all_given, is_at}
use Rattle.mc_stage.proofs.pieces.Pieces.advance.Goals as goal

seen : Vec ℕ Global → List ℕ
seen v = v.items

-- the current piece
record There (ps : List (Vec ℕ Global)) (i : ℕ) (v : Vec ℕ Global) : Type 0 where
  within : i < length ps
  is : v ≡ slice_index_or ps i v

there : (c : goal.After-len) → There c.self.inside.pieces.items c.self.inside.piece c.in-Some.piece.now
there c = record { within = ltb-true _ _ (sym (rw c.deref.ensures.value at c.in-Some.ensures.lookup.0)); is = rw c.deref.ensures.value at c.in-Some.ensures.lookup.1 }

pub overflow_sub-len : goal.overflow_sub-len
overflow_sub-len c =
    let at = there c in
    let open_ : c.self.inside.place < length c.in-Some.piece.now.items = piece_open (λ (v : Vec ℕ Global). v.items) c.self.inside.pieces.items c.self.inside.piece c.self.inside.place c.in-Some.piece.now at.within at.is c.self.invariant in
    omega (arith, open_, c.len.ensures, c.in-Some.piece.now.ok)

pub invariant_of-self : goal.invariant_of-self
invariant_of-self c =
    let within : c.self.inside.piece < length c.self.inside.pieces.items = ltb-true _ _ (sym (rw c.deref.ensures.value at c.in-Some.ensures.lookup.0)) in
    let is : c.in-Some.piece.now ≡ slice_index_or c.self.inside.pieces.items c.self.inside.piece c.in-Some.piece.now = rw c.deref.ensures.value at c.in-Some.ensures.lookup.1 in
    piece_left (λ (v : Vec ℕ Global). v.items) c.self.inside.pieces.items c.self.inside.piece (c.self.inside.place + c.args.n) c.in-Some.piece.now within is (omega (arith, c.if-n-len.true, c.len.ensures, c.in-Some.piece.now.ok))

pub returns-then-n-len : goal.returns-then-n-len
returns-then-n-len c =
    let within : c.self.inside.piece < length c.self.inside.pieces.items = ltb-true _ _ (sym (rw c.deref.ensures.value at c.in-Some.ensures.lookup.0)) in
    let is : c.in-Some.piece.now ≡ slice_index_or c.self.inside.pieces.items c.self.inside.piece c.in-Some.piece.now = rw c.deref.ensures.value at c.in-Some.ensures.lookup.1 in
    some_given (λ (v : Vec ℕ Global). v.items) c.self.inside.pieces.items c.self.inside.piece c.self.inside.place c.args.n c.in-Some.piece.now within is (omega (arith, c.if-n-len.true, c.len.ensures, c.in-Some.piece.now.ok))
    ∙ ap (pieces_after c.args.n) c.self.view_is

pub invariant_of-self-2 : goal.invariant_of-self-2
invariant_of-self-2 c =
    let skipped = rw c.deref-2.ensures.value at c.skip_empty.ensures in
    is_at (pieces_from c.skip_empty.new.piece c.skip_empty.new.place (map (λ (v : Vec ℕ Global). v.items) c.self.inside.pieces.items)) (pieces_from (c.self.inside.piece + 1) 0 (map (λ (v : Vec ℕ Global). v.items) c.self.inside.pieces.items)) skipped

pub returns : goal.returns
returns c =
    let within : c.self.inside.piece < length c.self.inside.pieces.items = ltb-true _ _ (sym (rw c.deref.ensures.value at c.in-Some.ensures.lookup.0)) in
    let is : c.in-Some.piece.now ≡ slice_index_or c.self.inside.pieces.items c.self.inside.piece c.in-Some.piece.now = rw c.deref.ensures.value at c.in-Some.ensures.lookup.1 in
    let skipped = rw c.deref-2.ensures.value at c.skip_empty.ensures in
    skipped
    ∙ all_given (λ (v : Vec ℕ Global). v.items) c.self.inside.pieces.items c.self.inside.piece (c.self.inside.piece + 1) c.self.inside.place c.args.n c.in-Some.piece.now within is (omega (arith, c.if-n-len.false, c.len.ensures, c.in-Some.piece.now.ok)) (omega arith)
    ∙ ap (pieces_after c.args.n) c.self.view_is
