use Rattle.house_core.proofs.bench.Bench.make_room.Goals as goal

pub returns-clause-used : goal.returns-clause-used
returns-clause-used g c = rw (← c.self.view_is) c.make_room.ensures.used
