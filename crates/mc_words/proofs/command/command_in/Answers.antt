use Rattle.std.proofs.Common.{refl}
use Rattle.command_table.specs.declared.table.CommandName.TheVariants as names
use Rattle.command_table.specs.Table.{form_of}
use Rattle.wallet_words.specs.Words.{audit_books_values, reporting_values}
use Rattle.mc_words.specs.Commands.{command_with}
use Rattle.mc_words.proofs.command.command_in.Goals as goal

pub returns-in-AuditReport : goal.returns-in-AuditReport
unfolding form_of command_with reporting_values
returns-in-AuditReport c = record { row = names.AuditReport; is = c.in-AuditReport.is; one_sided = refl; values = reporting_values c.in_ok-reporting-in-AuditReport.reporting; found' = c.in_ok-reporting-in-AuditReport.ensures; made = refl }

pub returns-in-AuditChain : goal.returns-in-AuditChain
unfolding form_of command_with audit_books_values
returns-in-AuditChain c = record { row = names.AuditChain; is = c.in-AuditChain.is; one_sided = refl; values = audit_books_values c.in_ok-audited-in-AuditChain.audited; found' = c.in_ok-audited-in-AuditChain.ensures; made = refl }

pub returns-in-AuditTree : goal.returns-in-AuditTree
unfolding form_of command_with audit_books_values
returns-in-AuditTree c = record { row = names.AuditTree; is = c.in-AuditTree.is; one_sided = refl; values = audit_books_values c.in_ok-tree-in-AuditTree.tree; found' = c.in_ok-tree-in-AuditTree.ensures; made = refl }
