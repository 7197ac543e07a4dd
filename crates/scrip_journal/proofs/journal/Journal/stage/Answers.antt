use Rattle.mc_records.specs.Views.{entry}
use Rattle.scrip_journal.proofs.Appending.{room_by}
use Rattle.scrip_journal.proofs.journal.Journal.stage.Goals as goal

pub returns-then-is_none-clause-full : goal.returns-then-is_none-clause-full
returns-then-is_none-clause-full g c h size switched = room_by c.args.self (entry c.args.r.now) c.stage_first.result h size switched c.stage_first.ensures.room

pub returns-else-is_switch-clause-full : goal.returns-else-is_switch-clause-full
returns-else-is_switch-clause-full g c h size switched = room_by c.args.self (entry c.args.r.now) c.stage_next.result h size switched c.stage_next.ensures.room
