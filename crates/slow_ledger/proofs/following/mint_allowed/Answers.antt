use Rattle.std.proofs.Common.{arith, ap, ◌≡◌, ◌∙◌, ◌+◌, ◌≤◌}
use Rattle.ledger_model.specs.Houses as houses
use Rattle.ledger_model.specs.Pieces.{own_count}
use Rattle.slow_ledger.proofs.following.mint_allowed.Goals as goal

pub returns-then-not-has_room : goal.returns-then-not-has_room
returns-then-not-has_room c =
    let own_is : c.in_ok-own.own ≡ own_count c.args.h.now (houses.own_series c.args.h.now c.args.moment) =
    c.in_ok-own.ensures ∙ ap (own_count c.args.h.now) (c.from-series.ensures ∙ c.own_series.ensures.series) in
    (λ f. absurd (cc), λ x. let room : c.in_ok-own.own + c.from.result ≤ c.args.limits.series = omega (arith, x.3) in c.if-not-has_room.ensures.1 room)
