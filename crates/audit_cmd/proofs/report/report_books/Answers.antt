use Rattle.mc_requests.specs.declared.limits.TheConstants.Limits.{FULL}
use Rattle.audit_search.specs.Audit.{Audited}
use Rattle.audit_cmd.specs.Reports.{report_lines}
use Rattle.audit_cmd.proofs.ReportLaws.{found_words, found_causes, found_reports, found_ends}
use Rattle.audit_cmd.proofs.report.report_books.Goals as goal

pub returns-clause-words : goal.returns-clause-words
returns-clause-words g c = found_words (Audited FULL) (report_lines c.args.as_json) c.audit-books.result.1 c.status_of-status.result c.status_of-status.ensures

pub returns-clause-causes : goal.returns-clause-causes
returns-clause-causes g c = found_causes (Audited FULL) (report_lines c.args.as_json) g.D.Disk.disk c.args.books.items c.audit-books.result.0.items c.audit-books.result.1 c.status_of-status.result c.status_of-status.ensures c.audit-books.ensures.decides c.audit-books.ensures.fault

pub returns-clause-reported : goal.returns-clause-reported
returns-clause-reported g c = found_reports (Audited FULL) (report_lines c.args.as_json) g.D.Disk.disk c.args.books.items c.audit-books.result.1 c.status_of-status.result c.status_of-status.ensures c.audit-books.ensures.place c.audit-books.ensures.decides c.audit-books.ensures.exact

pub returns-clause-ends : goal.returns-clause-ends
returns-clause-ends g c contents told lawful calm =
    found_ends (Audited FULL) (report_lines c.args.as_json) g.D.Disk.disk c.args.books.items c.audit-books.result.0.items c.audit-books.result.1 c.status_of-status.result c.status_of-status.ensures (c.audit-books.ensures.lawful contents told lawful) calm c.audit-books.ensures.fault
