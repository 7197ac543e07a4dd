use Rattle.slow_sums.proofs.broker.fee_at.Goals as goal

pub returns-in-Accept : goal.returns-in-Accept
returns-in-Accept c = rw c.in-Accept.ensures.found (c.fee_for.ensures c.in-Accept.moment c.in-Accept.price c.in-Accept.scrip.now c.in-Accept.target.now c.in-Accept.sign c.in-Accept.change)
