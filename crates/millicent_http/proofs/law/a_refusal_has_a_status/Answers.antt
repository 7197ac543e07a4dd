use Rattle.millicent_http.proofs.StatusLemmas.{has_a_status}
use Rattle.millicent_http.proofs.law.a_refusal_has_a_status.Goals as goal

pub returns : goal.returns
returns c = has_a_status
