use Rattle.std.proofs.Common.{[]}
use Rattle.audit_search.proofs.market.least_lacking.Goals as goal

pub returns : goal.returns
returns c = c.least_beside.ensures [] tt
