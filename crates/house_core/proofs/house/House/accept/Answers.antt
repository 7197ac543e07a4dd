use Rattle.house_core.proofs.HouseDisk.{accepted_new, accepted_again, accepted_refused, accepted_no_memory, ran_new, ran_repeat, ran_same_refused, ran_no_memory, ran_halted}
use Rattle.house_core.proofs.house.House.accept.Goals as goal

pub returns-in-New-clause-exact : goal.returns-in-New-clause-exact
returns-in-New-clause-exact g c h st = accepted_new g.D.Disk.disk g.T.Trade.trade _ h _ c.in-Done.house c.in-New.settled (rw (c.in-New.is, c.of.ensures) at c.in-Done.ensures.exact h st)

pub returns-in-New-clause-ran : goal.returns-in-New-clause-ran
returns-in-New-clause-ran g c h st = ran_new _ _ _ c.in-Done.house c.in-New.settled h _ (rw (c.in-New.is, c.of.ensures) at c.in-Done.ensures.ran h st)

pub returns-in-Again-clause-exact : goal.returns-in-Again-clause-exact
returns-in-Again-clause-exact g c h st = accepted_again g.D.Disk.disk g.T.Trade.trade _ h _ c.in-Done.house _ (rw (c.in-Again.is, c.of.ensures) at c.in-Done.ensures.exact h st)

pub returns-in-Again-clause-ran : goal.returns-in-Again-clause-ran
returns-in-Again-clause-ran g c h st =
    ran_repeat g.D.Disk.disk g.T.Trade.trade _ _ _ h _ c.in-Done.house _ _ (rw (c.in-Again.is, c.of.ensures) at c.in-Done.ensures.exact h st) (rw (c.in-Again.is, c.of.ensures) at c.in-Done.ensures.ran h st)

pub returns-in-Refused-clause-exact : goal.returns-in-Refused-clause-exact
returns-in-Refused-clause-exact g c h st = accepted_refused g.D.Disk.disk g.T.Trade.trade _ h _ c.in-Refused.house c.in-Refused.refusal (rw c.of.ensures at c.in-Refused.ensures.exact h st)

pub returns-in-Refused-clause-ran : goal.returns-in-Refused-clause-ran
returns-in-Refused-clause-ran g c h st = ran_same_refused _ _ _ c.in-Refused.house c.in-Refused.refusal h _ (rw c.of.ensures at c.in-Refused.ensures.ran h st)

pub returns-in-NoMemory-clause-exact : goal.returns-in-NoMemory-clause-exact
returns-in-NoMemory-clause-exact g c h st = accepted_no_memory g.D.Disk.disk g.T.Trade.trade _ h _ c.in-NoMemory.house (rw c.of.ensures at c.in-NoMemory.ensures.exact h st)

pub returns-in-NoMemory-clause-ran : goal.returns-in-NoMemory-clause-ran
returns-in-NoMemory-clause-ran g c h st = ran_no_memory _ _ _ c.in-NoMemory.house h _ (rw c.of.ensures at c.in-NoMemory.ensures.ran h st)

pub returns-in-Halted-clause-ran : goal.returns-in-Halted-clause-ran
returns-in-Halted-clause-ran g c h st = ran_halted _ _ _ _ c.in-Halted.halted h _ (rw c.of.ensures at c.in-Halted.ensures.ran h st)
