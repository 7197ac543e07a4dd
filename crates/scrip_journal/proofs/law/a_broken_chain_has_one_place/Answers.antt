use Rattle.scrip_journal.proofs.Unique.{one_chain, chain_or_history, chain_or_place}
use Rattle.scrip_journal.proofs.law.a_broken_chain_has_one_place.Goals as goal

pub returns : goal.returns
returns c = record { one = one_chain; none = chain_or_history; whole = chain_or_place }
