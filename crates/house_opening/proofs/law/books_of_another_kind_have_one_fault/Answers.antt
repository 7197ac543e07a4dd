use Rattle.scrip_journal.specs.Causes.{Only}
use Rattle.scrip_journal.proofs.Beginnings.{other_begins, other_is_whole, other_is_chained}
use Rattle.house_state.specs.Learning.{MayEnter}
use Rattle.house_opening.proofs.law.books_of_another_kind_have_one_fault.Goals as goal

pub returns-clause-header : goal.returns-clause-header
returns-clause-header g c kind = other_begins (Only kind)

pub returns-clause-whole : goal.returns-clause-whole
returns-clause-whole g c limits kind = other_is_whole (Only kind) (MayEnter g.T.Trade.passes limits)

pub returns-clause-chained : goal.returns-clause-chained
returns-clause-chained g c limits kind = other_is_chained (Only kind) (MayEnter g.T.Trade.passes limits)

pub returns-clause-lawful : goal.returns-clause-lawful
returns-clause-lawful g c limits kind bytes place other unlawful = unlawful.0 other
