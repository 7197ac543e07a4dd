use Rattle.std.proofs.Common.{List, Option, Some, None, ◌≡◌, ap, sym, subst, ◌∙◌, arith}
use Rattle.std.specs.Prelude.{find, is_some, IsSome, OnSome}
use Rattle.broker_stock.specs.declared.piece.StockPiece.{StockPiece}
use Rattle.broker_stock.specs.Racks.{RackView, is_open, sold_first, IsPassed}
use Rattle.broker_stock.proofs.RackLaws.{none_found, none_sold, some_found, sold_is, passed_sold}
use Rattle.broker_stock.proofs.rack.Rack.sell_first.Goals as goal

removed : {X : Type 0} {P : Type 0} (o : Option X) → IsSome o → OnSome o P → P
removed (Some x) some holds = holds
removed None some holds = absurd cc

pub returns-in-None-clause-sold : goal.returns-in-None-clause-sold
returns-in-None-clause-sold c = subst (λ (v : RackView). v.pieces ≡ sold_first c.args.now v.pieces) c.self.view_is (none_sold c.args.now c.self.inside.pieces.items c.in-None.ensures)

pub returns-in-None-clause-some : goal.returns-in-None-clause-some
returns-in-None-clause-some c =
    sym (ap is_some (none_found c.args.now c.self.inside.pieces.items c.in-None.ensures)) ∙ ap (λ (v : RackView). is_some (find (is_open c.args.now) v.pieces)) c.self.view_is

pub invariant_of-self : goal.invariant_of-self
invariant_of-self c =
    let items = c.self.inside.pieces.items in
    subst (λ (ps : List StockPiece). IsPassed c.args.now c.in-Some.place ps) (sym (removed c.remove.result (c.remove.ensures.variant.1 (omega (arith, c.in-Some.ensures.within))) c.remove.ensures.items))
    (passed_sold c.args.now c.in-Some.place items c.in-Some.ensures)

pub returns-clause-sold : goal.returns-clause-sold
returns-clause-sold c =
    removed c.remove.result (c.remove.ensures.variant.1 (omega (arith, c.in-Some.ensures.within))) c.remove.ensures.items
    ∙ sold_is c.args.now c.in-Some.place c.self.inside.pieces.items c.in-Some.ensures ∙ ap (λ (v : RackView). sold_first c.args.now v.pieces) c.self.view_is

pub returns-clause-some : goal.returns-clause-some
returns-clause-some c = some_found c.args.now c.in-Some.place c.self.inside.pieces.items c.in-Some.ensures ∙ ap (λ (v : RackView). is_some (find (is_open c.args.now) v.pieces)) c.self.view_is
