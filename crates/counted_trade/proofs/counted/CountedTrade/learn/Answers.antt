use Rattle.std.proofs.Common.{refl, sym, ◌∙◌}
use Rattle.std.proofs.lemmas.Bool.{false≢true}
use Rattle.mc_records.specs.Views.{entry}
use Rattle.counted_trade.proofs.TradeLaws.{both_halves, inner_half, order_of}
use Rattle.counted_trade.proofs.counted.CountedTrade.learn.Goals as goal

pub returns-then-not-allows-clause-exact : goal.returns-then-not-allows-clause-exact
returns-then-not-allows-clause-exact g c = rw (← c.self.view_is) (λ limits h stands may. (
  λ ok. absurd (false≢true ok),
  λ half. absurd (false≢true (sym c.if-not-allows.true ∙ (c.allows.ensures h stands.counts').1 (order_of g.T.Trade.passes _ h (entry c.args.r.now) half))),
))

pub returns-in-Ok-clause-learned : goal.returns-in-Ok-clause-learned
returns-in-Ok-clause-learned g c = rw (← c.self.view_is) (λ limits h stands may.
    let order = (c.allows.ensures h stands.counts').0 c.if-not-allows.false in
    record {
      inner' = c.in-Ok.ensures.learned limits h stands.inner' may;
      counts' = c.count.ensures.counted h stands.counts' may.counted order;
    })

pub returns-in-Ok-clause-goods : goal.returns-in-Ok-clause-goods
returns-in-Ok-clause-goods g c = rw (← c.self.view_is) (λ limits h stands may is. c.in-Ok.ensures.goods limits h stands.inner' may is)

pub returns-in-Ok-clause-exact : goal.returns-in-Ok-clause-exact
returns-in-Ok-clause-exact g c = rw (← c.self.view_is) (λ limits h stands may.
    let order = (c.allows.ensures h stands.counts').0 c.if-not-allows.false in
    (λ ok. both_halves g.T.Trade.passes _ h (entry c.args.r.now) order ((c.in-Ok.ensures.exact limits h stands.inner' may).0 refl), λ half. refl))

pub returns-in-Err-clause-exact : goal.returns-in-Err-clause-exact
returns-in-Err-clause-exact g c = rw (← c.self.view_is) (λ limits h stands may.
    (λ ok. absurd (false≢true ok), λ half. (c.in-Err.ensures.exact limits h stands.inner' may).1 (inner_half g.T.Trade.passes _ h (entry c.args.r.now) half)))
