use Rattle.std.proofs.Common.{◌≡◌, ℕ, List, ◌∷◌, length, ap, ◌∙◌, arith}
use Rattle.mc_records.specs.PieceViews.{pieces_of, piece_of, pieces_left}
use Rattle.broker_stalls.specs.Listed.{stock_piece}
use Rattle.broker_stalls.proofs.StepLaws.{room_rest, pieces_step, ids_step}
use Rattle.broker_stalls.proofs.stall.put_all.Goals as goal

pub loop-rest-preserved : goal.loop-rest-preserved
loop-rest-preserved c =
    let held = piece_of c.split_first-first.result.0 in
    let list : pieces_of c.loop-rest.list ≡ held ∷ pieces_of c.in-Some.rest = c.split_first-first.ensures ∙ ap (λ r. held ∷ pieces_left r) c.in-Some.is in
    let is = c.piece_of-piece.ensures in
    let value = c.get.ensures.units ∙ c.value.ensures.value in
    record {
      space = omega (arith, c.put.ensures.room, c.loop-rest.invariant.space, ap length list);
      room = room_rest list is c.loop-rest.racks c.put-in-loop-rest.new.self c.get.result value c.loop-rest.invariant.room c.put-in-loop-rest.ensures.room;
      known = λ q. ids_step list is c.loop-rest.ids c.put.new.self c.number.result (c.number.ensures ∙ c.id.ensures.id) c.put.ensures.ids q ∙ c.loop-rest.invariant.known q;
      stocked = λ v. pieces_step list is c.loop-rest.racks c.put-in-loop-rest.new.self c.get.result c.stock_piece.result value (c.stock_piece.ensures ∙ ap (λ (cert : List ℕ). stock_piece c.split_first-first.result.0.1 (c.piece_of-piece.result, cert)) c.cert.ensures) c.put-in-loop-rest.ensures.pieces v ∙ c.loop-rest.invariant.stocked v;
    }
