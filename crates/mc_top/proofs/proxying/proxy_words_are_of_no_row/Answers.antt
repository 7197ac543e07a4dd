use Rattle.wallet_words.proofs.ProxyLemmas.{of_no_row}
use Rattle.mc_top.proofs.proxying.proxy_words_are_of_no_row.Goals as goal

pub returns : goal.returns
returns c = of_no_row
