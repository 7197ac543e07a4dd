use Rattle.std.proofs.Common.{[], ◌∙◌, ◌≤◌, ℕ, sym, ap, subst}
use Rattle.std.specs.Prelude.{is_some, OnOk}
use Rattle.std.specs.Option.{option_copied_mut}
use Rattle.broker_stock.specs.Racks.{RackView}
use Rattle.broker_stock.specs.Shelves.{pieces_at, room_at}
use Rattle.broker_stock.proofs.ShelfLaws.{on, kept, no_less, one_found, rewritten, here}
use Rattle.broker_stock.proofs.racks.Racks.reserve_on.Goals as goal

pub unwrap-rack-requires : goal.unwrap-rack-requires
unwrap-rack-requires c = one_found c.args.value c.self.view_is c.get_mut.result c.get_mut.ensures.value c.requires

pub returns : goal.returns
unfolding pieces_at room_at
returns c =
    let is = sym (ap option_copied_mut c.unwrap-rack.ensures) ∙ c.get_mut.ensures.value in
    let some = ap is_some (sym c.get_mut.ensures.value) ∙ ap (λ o. is_some (option_copied_mut o)) c.unwrap-rack.ensures in
    let h = rewritten c.args.value c.self.view_is is ((c.get_mut.follows.holds c.reserve.new.self).3 some).0 in
    record {
      room = subst (λ (n : ℕ). OnOk c.reserve.result (c.args.count ≤ n)) (ap (on (λ (r : RackView). r.room) 0) (here h)) c.reserve.ensures.room;
      more = no_less h c.reserve.ensures.more;
      pieces = kept h (λ r. r.pieces) [] c.reserve.ensures.pieces;
    }
