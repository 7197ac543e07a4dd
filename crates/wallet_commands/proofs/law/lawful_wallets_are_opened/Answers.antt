use Rattle.scrip_journal.specs.Causes.{Only}
use Rattle.command_status.proofs.OpenLaws.{begins_with_header, not_spoiled, not_unchained}
use Rattle.wallet_model.specs.Follows.{WalletFollows}
use Rattle.wallet_core.proofs.DiskLemmas.{no_entry_breaks, not_of_other}
use Rattle.wallet_commands.proofs.law.lawful_wallets_are_opened.Goals as goal

pub returns-clause-header : goal.returns-clause-header
returns-clause-header c = begins_with_header

pub returns-clause-whole : goal.returns-clause-whole
returns-clause-whole c = not_spoiled WalletFollows (Only 2)

pub returns-clause-chained : goal.returns-clause-chained
returns-clause-chained c = not_unchained WalletFollows (Only 2)

pub returns-clause-lawful : goal.returns-clause-lawful
returns-clause-lawful c = no_entry_breaks

pub returns-clause-kind : goal.returns-clause-kind
returns-clause-kind c = not_of_other
