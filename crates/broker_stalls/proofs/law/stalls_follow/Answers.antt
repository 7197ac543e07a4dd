use Rattle.broker_stalls.proofs.FollowLaws.{allowed, answered}
use Rattle.broker_stalls.proofs.law.stalls_follow.Goals as goal

pub returns-clause-allowed : goal.returns-clause-allowed
returns-clause-allowed c = allowed

pub returns-clause-answered : goal.returns-clause-answered
returns-clause-answered c = answered
