use Rattle.std.proofs.Common.{ap, sym, ◌∙◌, subst, List, ℕ, ◌++◌}
use Rattle.std.specs.List.{AllByRecursion}
use Rattle.std.proofs.lemmas.List.Elements.{All-from_recursion}
use Rattle.mc_fields.specs.Field.{spelled, Field, FieldFits}
use Rattle.mc_records.specs.Views.{entry}
use Rattle.mc_records.specs.Cells.{AreShort}
use Rattle.mc_records.proofs.EntryLaws.{fields_fit}
use Rattle.mc_records.proofs.GroupLaws.{are_short, groups_spelled}
use Rattle.mc_records.proofs.appending.write_record.Goals as goal

pub append_groups-requires : goal.append_groups-requires
append_groups-requires c =
    All-from_recursion AreShort c.table.result (are_short c.table.result (subst (λ (x : List Field). AllByRecursion FieldFits x) (sym c.table.ensures) (fields_fit (entry c.args.r.now) c.requires)))

pub returns-in-Ok-clause-ok : goal.returns-in-Ok-clause-ok
returns-in-Ok-clause-ok c = c.in-Ok.ensures ∙ ap (λ (t : List ℕ). c.args.out.now.items ++ t) (groups_spelled c.table.result ∙ ap spelled c.table.ensures)
