use Rattle.audit_cmd.proofs.ChainLaws.{lawful_all_lined}
use Rattle.mc_top.proofs.program.tell.Goals as goal

pub returns-clause-told : goal.returns-clause-told
returns-clause-told g c = record {
  causes = c.tell_chains.ensures.causes;
  tells = c.tell_chains.ensures.told;
  well = λ has calm. c.tell_chains.ensures.ends has.contents has.told (lawful_all_lined has.contents has.lawful) calm;
}
