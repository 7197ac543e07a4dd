use Rattle.std.proofs.Common.{Bool, subst}
use Rattle.audit_cmd.specs.Reports.{ReportsBooks}
use Rattle.mc_top.proofs.program.report.Goals as goal

pub returns-clause-audited : goal.returns-clause-audited
returns-clause-audited g c = record {
  causes = c.report_books.ensures.causes;
  reports = subst (λ (json : Bool). ReportsBooks g.D.Disk.disk json c.args.books.items c.report_books.result.1) c.is_json.ensures c.report_books.ensures.reported;
  well = λ has calm. c.report_books.ensures.ends has.contents has.told has.lawful calm;
}
