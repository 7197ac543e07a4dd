use Rattle.broker_ledger.proofs.LearnLaws.{no_standing, some_standing}
use Rattle.broker_ledger.proofs.broker_ledger.AccountLedger.standing.Goals as goal

pub returns-in-None-clause-value : goal.returns-in-None-clause-value
returns-in-None-clause-value c h stands = no_standing stands.of_accounts c.args.name.now c.in-None.ensures

pub returns-clause-value : goal.returns-clause-value
returns-clause-value c h stands =
    some_standing stands.of_accounts c.args.name.now c.in-Some.key c.in-Some-balance.balance c.in-Some-last.last c.in-Some.ensures c.in-Some-balance.ensures.value c.in-Some-last.ensures
