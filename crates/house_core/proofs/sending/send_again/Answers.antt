use Rattle.house_core.proofs.sending.send_again.Goals as goal

pub returns-clause-fault : goal.returns-clause-fault
returns-clause-fault g c = rw c.of.ensures at c.send_kept.ensures.fault

pub returns-clause-sent : goal.returns-clause-sent
returns-clause-sent g c = rw c.of.ensures at c.send_kept.ensures.sent
