use Rattle.house_core.proofs.sending.send_settled.Goals as goal

pub returns-clause-fault : goal.returns-clause-fault
returns-clause-fault g c = rw (← c.s.view_is) c.send_kept.ensures.fault
