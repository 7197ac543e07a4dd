use Rattle.std.proofs.Common.{Option, ap, sym, subst}
use Rattle.std.specs.Prelude.{OnOk, option_map, unwrap_or}
use Rattle.change_issue.specs.Registers.{Register, count_in}
use Rattle.mc_records.specs.PieceViews.{pieces_of}
use Rattle.broker_stalls.specs.Stalls.{StallView}
use Rattle.broker_stalls.specs.Listed.{HasRoomFor}
use Rattle.broker_stalls.proofs.VendorLaws.{at_place, written_is, alike_at}
use Rattle.broker_stalls.proofs.stalls.Stalls.reserve_stock.Goals as goal

pub returns-clause-room : goal.returns-clause-room
returns-clause-room c =
    let at = at_place c.get.ensures c.unwrap-place.ensures c.index_mut.ensures.value c.self.invariant in
    subst (λ (x : StallView). OnOk c.reserve_stock.result (HasRoomFor x (pieces_of c.args.pieces.now))) (sym (written_is at c.reserve_stock.new.self)) c.reserve_stock.ensures.room

pub returns-clause-same : goal.returns-clause-same
returns-clause-same c =
    let at = at_place c.get.ensures c.unwrap-place.ensures c.index_mut.ensures.value c.self.invariant in
    let e = c.reserve_stock.ensures in
    alike_at c.self.view_is at c.reserve_stock.new.self (record {
      terms = ap (λ (o : Option Register). option_map (λ r. r.terms) o) e.licence;
      counts = λ series. ap (λ (o : Option Register). unwrap_or (option_map (λ r. count_in r series) o) 0) e.licence;
      ids = e.ids;
      pieces = e.pieces;
      known = e.known;
    })
