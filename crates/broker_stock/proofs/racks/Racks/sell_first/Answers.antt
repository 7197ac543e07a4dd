use Rattle.std.proofs.Common.{[], ◌∙◌, sym, ap, arith}
use Rattle.std.specs.Prelude.{find, is_some}
use Rattle.std.specs.Option.{option_copied_mut}
use Rattle.broker_stock.specs.Racks.{RackView, is_open, sold_first}
use Rattle.broker_stock.specs.Shelves.{pieces_at, room_at}
use Rattle.broker_stock.proofs.ShelfLaws.{on, written, no_less, found, not_found, rewritten, none_sold}
use Rattle.broker_stock.proofs.racks.Racks.sell_first.Goals as goal

pub returns-in-None : goal.returns-in-None
unfolding pieces_at
returns-in-None c =
    let none = not_found c.args.value c.self.view_is (sym (ap option_copied_mut c.in-None.is) ∙ c.get_mut.ensures.value) in
    let same = ap (λ m. m.entries) c.get_mut.follows.holds-at-none ∙ c.self.view_is in
    record {
      sold = λ v. ap (λ r. pieces_at r v) same ∙ none_sold c.args.now c.args.self.now c.args.value none v;
      some = sym (ap (λ o. is_some (find (is_open c.args.now) (on (λ (r : RackView). r.pieces) [] o))) none);
      more = λ v. let e = ap (λ r. room_at r v) same in omega (arith, e);
    }

pub returns : goal.returns
unfolding pieces_at room_at
returns c =
    let is = sym (ap option_copied_mut c.in-Some.is) ∙ c.get_mut.ensures.value in
    let some = ap is_some (sym c.get_mut.ensures.value) ∙ ap (λ o. is_some (option_copied_mut o)) c.in-Some.is in
    let h = rewritten c.args.value c.self.view_is is ((c.get_mut.follows.holds c.sell_first.new.self).3 some).0 in
    record {
      sold = written h (λ r. r.pieces) [] (sold_first c.args.now) c.sell_first.ensures.sold;
      some = c.sell_first.ensures.some ∙ ap (λ o. is_some (find (is_open c.args.now) (on (λ (r : RackView). r.pieces) [] o))) (found c.args.value c.self.view_is is);
      more = no_less h c.sell_first.ensures.more;
    }
