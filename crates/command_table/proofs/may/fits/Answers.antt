use Rattle.std.proofs.Common.{List, subst}
use Rattle.std.specs.Prelude.{IsTrue, ◌↔◌}
use Rattle.command_table.specs.declared.parameter.Parameter.{Parameter}
use Rattle.command_table.specs.Values.{EachMayBe}
use Rattle.command_table.proofs.FitLemmas.{fits_iff}
use Rattle.command_table.proofs.may.fits.Goals as goal

pub returns : goal.returns
returns c = fits_iff c.args.name c.args.found.now _ (subst (λ (parameters : List Parameter). IsTrue c.each_may_be.result ↔ EachMayBe c.args.found.now parameters) c.form.ensures.parameters c.each_may_be.ensures)
