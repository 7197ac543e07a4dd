use Rattle.mc_requests.specs.declared.refusal.Refusal.TheVariants.{DiskFault}
use Rattle.mc_requests.specs.Requests.{Asked}
use Rattle.ledger_model.specs.Histories.{History}
use Rattle.ledger_model.specs.Replies.{refusal_of}
use Rattle.house_core.proofs.Refused.{disk_fault_is}
use Rattle.link_turns.proofs.SendLemmas.{sent_as, fault_as}
use Rattle.house_core.proofs.sending.send_disk_fault.Goals as goal

pub returns-clause-sent : goal.returns-clause-sent
returns-clause-sent g c =
    sent_as c.send.result (g.O.Link.link c.args.halted.now) (g.O.Link.link c.send.new.k) c.of-reply.result (λ (a : History × Asked). refusal_of a.0 c.args.time a.1 DiskFault)
    (disk_fault_is c.args.time _ c.of-reply.result c.refusal_head.ensures.values c.of-reply.ensures) c.send.ensures.sent

pub returns-clause-fault : goal.returns-clause-fault
returns-clause-fault g c =
    fault_as c.send.result (g.O.Link.link c.args.halted.now) (g.O.Link.link c.send.new.k) c.of-reply.result (λ (a : History × Asked). refusal_of a.0 c.args.time a.1 DiskFault)
    (disk_fault_is c.args.time _ c.of-reply.result c.refusal_head.ensures.values c.of-reply.ensures) c.send.ensures.fault
