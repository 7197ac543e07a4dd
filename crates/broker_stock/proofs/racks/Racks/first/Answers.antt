use Rattle.std.proofs.Common.{[], ◌∙◌, sym, ap}
use Rattle.std.specs.Prelude.{find}
use Rattle.std.specs.Option.{option_copied}
use Rattle.broker_stock.specs.Racks.{RackView, is_open}
use Rattle.broker_stock.specs.Shelves.{pieces_at}
use Rattle.broker_stock.proofs.ShelfLaws.{on, found, not_found}
use Rattle.broker_stock.proofs.racks.Racks.first.Goals as goal

pub returns-in-Some : goal.returns-in-Some
unfolding pieces_at
returns-in-Some c =
    c.first.ensures ∙ ap (λ o. find (is_open c.args.now) (on (λ (r : RackView). r.pieces) [] o))
    (found c.args.value c.self.view_is (sym (ap option_copied c.in-Some.is) ∙ c.get.ensures.value))

pub returns-in-None : goal.returns-in-None
unfolding pieces_at
returns-in-None c =
    sym (ap (λ o. find (is_open c.args.now) (on (λ (r : RackView). r.pieces) [] o)) (not_found c.args.value c.self.view_is (sym (ap option_copied c.in-None.is) ∙ c.get.ensures.value)))
