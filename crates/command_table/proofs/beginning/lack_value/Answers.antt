use Rattle.std.proofs.Common.{◌∙◌, ap, map, string_bytes, sym}
use Rattle.command_table.specs.Values.{rules_of}
use Rattle.command_table.proofs.BeginLemmas.{lack_by}
use Rattle.command_table.proofs.beginning.lack_value.Goals as goal

pub returns : goal.returns
returns c =
    lack_by _ _ _ _ (map string_bytes c.in-Some.front.now) c.in-Some.option.now c.in-Some-2.found c.fits.result c.is_none.result c.value_of.result (ap rules_of c.form.ensures.parameters) c.in-Some.ensures.some
    (sym c.in-Some-2.is ∙ c.in_ok-found.ensures) c.fits.ensures c.value_of.ensures c.is_none.ensures
