use Rattle.mc_requests.specs.declared.limits.TheConstants.Limits.{FULL}
use Rattle.tree_search.specs.Audit.{TreeAudited}
use Rattle.relay_core.specs.Text.{tree_text}
use Rattle.audit_cmd.proofs.ReportLaws.{found_words, found_causes, found_reports, found_ends}
use Rattle.audit_cmd.proofs.tree.report_tree.Goals as goal

pub returns-clause-words : goal.returns-clause-words
returns-clause-words g c = found_words (TreeAudited FULL) tree_text c.audit_tree-books.result.1 c.status_of-status.result c.status_of-status.ensures

pub returns-clause-causes : goal.returns-clause-causes
returns-clause-causes g c = found_causes (TreeAudited FULL) tree_text g.D.Disk.disk c.args.books.items c.audit_tree-books.result.0.items c.audit_tree-books.result.1 c.status_of-status.result c.status_of-status.ensures c.audit_tree-books.ensures.decides c.audit_tree-books.ensures.fault

pub returns-clause-reported : goal.returns-clause-reported
returns-clause-reported g c = found_reports (TreeAudited FULL) tree_text g.D.Disk.disk c.args.books.items c.audit_tree-books.result.1 c.status_of-status.result c.status_of-status.ensures c.audit_tree-books.ensures.place c.audit_tree-books.ensures.decides c.audit_tree-books.ensures.exact

pub returns-clause-ends : goal.returns-clause-ends
returns-clause-ends g c contents told lawful calm =
    found_ends (TreeAudited FULL) tree_text g.D.Disk.disk c.args.books.items c.audit_tree-books.result.0.items c.audit_tree-books.result.1 c.status_of-status.result c.status_of-status.ensures (c.audit_tree-books.ensures.lawful contents told lawful) calm c.audit_tree-books.ensures.fault
