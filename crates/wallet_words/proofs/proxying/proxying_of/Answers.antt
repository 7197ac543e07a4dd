use Rattle.wallet_words.proofs.ProxyLemmas.{no_proxy_words, no_values, proxy_words}
use Rattle.wallet_words.proofs.proxying.proxying_of.Goals as goal

pub returns-in-Some-clause-some : goal.returns-in-Some-clause-some
returns-in-Some-clause-some c = proxy_words _ _ _ _ c.in-Some.is c.in_ok-found.ensures c.read.ensures

pub returns-in-Some-clause-none : goal.returns-in-Some-clause-none
returns-in-Some-clause-none c none = no_values _ _ _ _ none c.in-Some.is c.in_ok-found.ensures c.read.ensures

pub returns-in-None-clause-none : goal.returns-in-None-clause-none
returns-in-None-clause-none c none = no_proxy_words _ _ c.in-None.is c.in_ok-found.ensures
