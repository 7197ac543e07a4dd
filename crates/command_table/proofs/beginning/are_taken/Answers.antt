use Rattle.std.proofs.Common.{◌∙◌, sym}
use Rattle.command_table.proofs.BeginLemmas.{taken_by}
use Rattle.command_table.proofs.beginning.are_taken.Goals as goal

pub returns : goal.returns
returns c = taken_by _ _ _ c.in-Some.found c.fits.result (sym c.in-Some.is ∙ c.in_ok-found.ensures) c.fits.ensures
