use Rattle.std.proofs.Common.{drop}
use Rattle.std.specs.Prelude.{◌↔◌}
use Rattle.command_table.specs.Values.{EachMayBe}
use Rattle.command_table.proofs.may.first_unfit.Given as goal

abbrev pub invariant-loop-parameter : goal.invariant-loop-parameter
invariant-loop-parameter l = EachMayBe l.found l.parameters ↔ EachMayBe l.found (drop l.parameter-index l.parameters)
