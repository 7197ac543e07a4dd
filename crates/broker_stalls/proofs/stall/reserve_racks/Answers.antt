use Rattle.std.proofs.Common.{◌≡◌, ◌∷◌, ap, ◌∙◌, arith}
use Rattle.mc_records.specs.PieceViews.{pieces_of, piece_of, pieces_left}
use Rattle.broker_stalls.proofs.StepLaws.{room_step}
use Rattle.broker_stalls.proofs.stall.reserve_racks.Goals as goal

pub loop-rest-preserved : goal.loop-rest-preserved
loop-rest-preserved c =
    let held = piece_of c.split_first-first.result.0 in
    let list : pieces_of c.loop-rest.list ≡ held ∷ pieces_of c.in-Some.rest = c.split_first-first.ensures ∙ ap (λ r. held ∷ pieces_left r) c.in-Some.is in
    record {
      room = λ v. room_step list c.piece_of-piece.ensures (pieces_of c.args.pieces.now) c.loop-rest.racks c.reserve.new.self c.get.result c.from-left.result
          (c.get.ensures.units ∙ c.value.ensures.value) (omega (arith, c.from-left.ensures, c.count.ensures.count)) c.in_ok-reserve.ensures.room c.reserve.ensures.more v (c.loop-rest.invariant.room v);
      pieces = λ v. c.reserve.ensures.pieces v ∙ c.loop-rest.invariant.pieces v;
    }
