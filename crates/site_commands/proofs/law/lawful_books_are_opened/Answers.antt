use Rattle.scrip_journal.specs.Causes.{Only}
use Rattle.command_status.proofs.OpenLaws.{begins_with_header, not_spoiled, not_unchained}
use Rattle.house_state.specs.Learning.{MayEnter}
use Rattle.operator_command.specs.Operations.{full}
use Rattle.site_commands.proofs.OpenLaws.{not_unlawful, not_of_other}
use Rattle.site_commands.proofs.law.lawful_books_are_opened.Goals as goal

pub returns-clause-header : goal.returns-clause-header
returns-clause-header g c = begins_with_header

pub returns-clause-whole : goal.returns-clause-whole
returns-clause-whole g c = λ kind. not_spoiled (MayEnter g.T.Trade.passes full) (Only kind)

pub returns-clause-chained : goal.returns-clause-chained
returns-clause-chained g c = λ kind. not_unchained (MayEnter g.T.Trade.passes full) (Only kind)

pub returns-clause-lawful : goal.returns-clause-lawful
returns-clause-lawful g c = not_unlawful g.T.Trade.passes

pub returns-clause-kind : goal.returns-clause-kind
returns-clause-kind g c = not_of_other
