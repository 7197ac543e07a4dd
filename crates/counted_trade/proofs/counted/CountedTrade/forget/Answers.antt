use Rattle.counted_trade.proofs.counted.CountedTrade.forget.Goals as goal

pub returns-clause-freed : goal.returns-clause-freed
returns-clause-freed g c = rw (← c.self.view_is) (λ h n stands holds. c.forget.ensures.freed h n stands.inner' holds)
