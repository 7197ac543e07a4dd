use Rattle.house_core.proofs.TallyLaws.{one_repeated}
use Rattle.house_core.proofs.tally.Tally.repeat.Goals as goal

pub returns-clause-counted : goal.returns-clause-counted
returns-clause-counted c small = one_repeated c.args.self.now c.one_more-self.result small c.one_more-self.ensures
