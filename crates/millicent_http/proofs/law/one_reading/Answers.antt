use Rattle.millicent_http.specs.declared.reader.TheConstants.{MAX_ITEMS}
use Rattle.millicent_http.proofs.ItemLemmas.{items_unique}
use Rattle.millicent_http.proofs.law.one_reading.Goals as goal

pub returns : goal.returns
returns c bytes xs ys p q = items_unique MAX_ITEMS bytes xs ys p q
