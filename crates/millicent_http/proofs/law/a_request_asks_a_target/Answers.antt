use Rattle.millicent_http.proofs.JudgeLemmas.{asks_a_target}
use Rattle.millicent_http.proofs.law.a_request_asks_a_target.Goals as goal

pub returns : goal.returns
returns c = asks_a_target
