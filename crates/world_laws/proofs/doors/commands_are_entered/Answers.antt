use Rattle.world_laws.proofs.OperatorLemmas.{broker_adds, vendor_adds, broker_doubts, vendor_doubts}
use Rattle.world_laws.proofs.doors.commands_are_entered.Goals as goal

pub returns : goal.returns
returns c = record { broker = broker_adds; vendor = vendor_adds; broker_doubts = broker_doubts; vendor_doubts = vendor_doubts }
