use Rattle.relayed_books.proofs.Strange.{no_stranger, none_strange}
use Rattle.relayed_books.proofs.laws.strangers_were_not_handed_out.Goals as goal

pub returns-clause-none : goal.returns-clause-none
returns-clause-none c = λ limits bs vs books all. no_stranger limits bs vs books all.vendors

pub returns-clause-only : goal.returns-clause-only
returns-clause-only c = λ limits bs vs books all. none_strange limits bs vs books all.vendors
