use Rattle.std.proofs.Common.{◌∙◌, ap}
use Rattle.mc_stage.specs.Scenario.{links_of}
use Rattle.mc_stage.proofs.Links.{links_in_order}
use Rattle.mc_stage.proofs.stage.Stage.start.Goals as goal

pub returns-clause-scenario : goal.returns-clause-scenario
returns-clause-scenario c = λ i. record {
  disk = c.of.ensures i;
  link = c.of-2.ensures i;
  links = (ap links_of c.reverse.ensures.items ∙ links_in_order c.args.links.items) i;
  pieces = c.none.ensures i;
  readings = c.args.clock;
  starved = 0;
}
