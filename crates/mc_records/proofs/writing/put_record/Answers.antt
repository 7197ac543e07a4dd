use Rattle.std.proofs.Common.{ap, sym, ◌∙◌, subst, List}
use Rattle.std.specs.List.{AllByRecursion}
use Rattle.std.proofs.lemmas.List.Elements.{All-from_recursion}
use Rattle.mc_fields.specs.Field.{spelled, Field, FieldFits}
use Rattle.mc_fields.proofs.Puts.{puts_along}
use Rattle.mc_records.specs.Views.{entry}
use Rattle.mc_records.specs.Cells.{AreShort}
use Rattle.mc_records.proofs.EntryLaws.{fields_fit}
use Rattle.mc_records.proofs.GroupLaws.{are_short, groups_spelled}
use Rattle.mc_records.proofs.writing.put_record.Goals as goal

pub put_groups-requires : goal.put_groups-requires
put_groups-requires c =
    All-from_recursion AreShort c.table.result (are_short c.table.result (subst (λ (x : List Field). AllByRecursion FieldFits x) (sym c.table.ensures) (fields_fit (entry c.args.r.now) c.requires)))

pub returns : goal.returns
returns c = puts_along c.args.out.now c.put_groups.new.out 0 _ _ c.put_groups.result (groups_spelled c.table.result ∙ ap spelled c.table.ensures) c.put_groups.ensures
