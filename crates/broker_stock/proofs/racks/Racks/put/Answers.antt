use Rattle.std.proofs.Common.{[], ◌∙◌, ◌-◌, ◌++◌, ◌∷◌, sym, ap, arith}
use Rattle.std.specs.Prelude.{is_some}
use Rattle.std.specs.Option.{option_copied_mut}
use Rattle.broker_stock.specs.Racks.{RackView}
use Rattle.broker_stock.specs.Shelves.{pieces_at, room_at}
use Rattle.broker_stock.proofs.ShelfLaws.{on, written, found, some_found, rewritten}
use Rattle.broker_stock.proofs.racks.Racks.put.Goals as goal

pub unwrap-rack-requires : goal.unwrap-rack-requires
unwrap-rack-requires c = some_found c.args.value c.self.view_is c.get_mut.result c.get_mut.ensures.value c.requires

pub put-requires : goal.put-requires
unfolding room_at
put-requires c =
    let had = ap (on (λ (r : RackView). r.room) 0) (found c.args.value c.self.view_is (sym (ap option_copied_mut c.unwrap-rack.ensures) ∙ c.get_mut.ensures.value)) in
    omega (arith, had, c.requires)

pub returns : goal.returns
unfolding pieces_at room_at
returns c =
    let is = sym (ap option_copied_mut c.unwrap-rack.ensures) ∙ c.get_mut.ensures.value in
    let some = ap is_some (sym c.get_mut.ensures.value) ∙ ap (λ o. is_some (option_copied_mut o)) c.unwrap-rack.ensures in
    let h = rewritten c.args.value c.self.view_is is ((c.get_mut.follows.holds c.put.new.self).3 some).0 in
    record {
      pieces = written h (λ r. r.pieces) [] (λ ps. ps ++ c.args.piece ∷ []) c.put.ensures.pieces;
      room = written h (λ r. r.room) 0 (λ n. n - 1) (omega (arith, c.put.ensures.room));
    }
