use Rattle.scrip_journal.proofs.Reading.{finished}
use Rattle.scrip_journal.proofs.replay.Replay.finish.Goals as goal

pub returns-clause-journal : goal.returns-clause-journal
returns-clause-journal g c h r = finished g.D.Disk.disk c.args.self h c.rest.result c.requires c.rest.ensures r
