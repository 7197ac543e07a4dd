use Rattle.scrip_journal.proofs.Passing.{rests_again}
use Rattle.scrip_journal.proofs.journal.Journal.find_chain.Goals as goal

pub returns-in-Ok-clause-stands : goal.returns-in-Ok-clause-stands
returns-in-Ok-clause-stands g c h is =
    rests_again g.D.Disk.disk c.args.self h is c.behind-replay.result c.behind-replay.ensures.rests c.behind-replay.ensures.going.0 c.behind-replay.ensures.going.1 c.find_chain.new.self c.rest.result c.in-Ok.ensures.looked c.rest.ensures
