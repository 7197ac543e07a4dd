use Rattle.site_words.proofs.WordLemmas.{no_shop_words, shop_words}
use Rattle.site_words.proofs.shop.shop_of.Goals as goal

pub returns-in-Some-clause-some : goal.returns-in-Some-clause-some
returns-in-Some-clause-some c = shop_words _ _ _ _ c.in-Some.is c.in_ok-found.ensures c.read.ensures

pub returns-in-None-clause-none : goal.returns-in-None-clause-none
returns-in-None-clause-none c none = no_shop_words _ _ c.in-None.is c.in_ok-found.ensures
