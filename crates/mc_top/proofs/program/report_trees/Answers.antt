use Rattle.mc_top.proofs.program.report_trees.Goals as goal

pub returns-clause-audited : goal.returns-clause-audited
returns-clause-audited g c = record {
  causes = c.report_tree.ensures.causes;
  reports = c.report_tree.ensures.reported;
  well = λ has calm. c.report_tree.ensures.ends has.contents has.told has.lawful calm;
}
