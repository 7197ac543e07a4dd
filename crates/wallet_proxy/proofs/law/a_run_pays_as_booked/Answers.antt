use Rattle.wallet_proxy.proofs.CostLaws.{run_cost, run_keeps}
use Rattle.wallet_proxy.proofs.law.a_run_pays_as_booked.Goals as goal

pub returns-clause-keeps : goal.returns-clause-keeps
returns-clause-keeps c = run_keeps

pub returns-clause-costs : goal.returns-clause-costs
returns-clause-costs c = run_cost
