use Rattle.std.proofs.Common.{ap, sym, ◌∙◌}
use Rattle.std.specs.Prelude.{find}
use Rattle.broker_stock.specs.Racks.{RackView, is_open}
use Rattle.broker_stock.proofs.RackLaws.{first_at, none_found}
use Rattle.broker_stock.proofs.rack.Rack.first.Goals as goal

pub returns-in-Some : goal.returns-in-Some
returns-in-Some c =
    first_at c.args.now c.in-Some.place c.self.inside.pieces.items c.index.result.now c.index.ensures c.in-Some.ensures ∙ ap (λ (v : RackView). find (is_open c.args.now) v.pieces) c.self.view_is

pub returns-in-None : goal.returns-in-None
returns-in-None c =
    sym (none_found c.args.now c.self.inside.pieces.items c.in-None.ensures) ∙ ap (λ (v : RackView). find (is_open c.args.now) v.pieces) c.self.view_is
