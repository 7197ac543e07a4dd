use Rattle.std.proofs.Common.{refl}
use Rattle.broker_ledger.proofs.LearnLaws.{kept_same}
use Rattle.broker_ledger.proofs.broker_ledger.AccountLedger.reserve.Goals as goal

pub returns-in_ok-reserve-in-Deposit-clause-same : goal.returns-in_ok-reserve-in-Deposit-clause-same
returns-in_ok-reserve-in-Deposit-clause-same c h stands = kept_same c.args.self.now _ stands refl c.reserve-in-Deposit.ensures.items c.reserve-in-Deposit-2.ensures.places
