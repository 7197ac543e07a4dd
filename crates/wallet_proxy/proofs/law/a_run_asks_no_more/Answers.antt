use Rattle.wallet_proxy.proofs.RunLaws.{run_goes}
use Rattle.wallet_proxy.proofs.law.a_run_asks_no_more.Goals as goal

pub returns-clause-sound : goal.returns-clause-sound
returns-clause-sound c = λ b s items readings steps sound ran. (run_goes b s items readings steps sound ran).sound

pub returns-clause-asks : goal.returns-clause-asks
returns-clause-asks c = λ b s items readings steps sound ran. (run_goes b s items readings steps sound ran).asks
