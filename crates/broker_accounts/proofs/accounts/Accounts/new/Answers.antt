use Rattle.broker_accounts.proofs.AccountLaws.{stored_same, stored_none}
use Rattle.broker_accounts.proofs.accounts.Accounts.new.Goals as goal

pub invariant_of-result : goal.invariant_of-result
invariant_of-result c = stored_same c.new.ensures.items (stored_none c.new-2.result c.new-2.ensures.places c.new-2.ensures.room)
