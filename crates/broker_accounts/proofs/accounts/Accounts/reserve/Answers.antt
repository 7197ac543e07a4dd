use Rattle.std.proofs.Common.{◌∙◌, arith}
use Rattle.broker_accounts.proofs.AccountLaws.{stored_same}
use Rattle.broker_accounts.proofs.accounts.Accounts.reserve.Goals as goal

pub invariant_of-self-2 : goal.invariant_of-self-2
invariant_of-self-2 c = stored_same c.reserve.ensures.items (record {
  apart = c.self.invariant.apart;
  found = λ q. c.reserve-2.ensures.places q ∙ c.self.invariant.found q;
  free = λ room. omega (arith, c.in_ok-reserve.ensures.ok, c.reserve.ensures.len, c.self.inside.accounts.ok);
})
