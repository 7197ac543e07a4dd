use Rattle.std.proofs.Common.{◌∙◌, sym}
use Rattle.command_table.proofs.SpellLemmas.{is_as}
use Rattle.command_table.proofs.may.may_be.Goals as goal

pub returns-in-One : goal.returns-in-One
returns-in-One c = is_as _ _ c.name-name.ensures (sym c.in-One.is ∙ c.shape.ensures.shape) (sym c.shape.ensures.shape ∙ c.in-One.is) c.may_spell.ensures

pub returns-in-Setting : goal.returns-in-Setting
returns-in-Setting c = is_as _ _ c.name-name.ensures (sym c.in-Setting.is ∙ c.shape.ensures.shape) (sym c.shape.ensures.shape ∙ c.in-Setting.is) c.may_spell-in-Setting.ensures
