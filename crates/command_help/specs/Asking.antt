-- That words are no command's.
use Rattle.std.specs.Prelude.{List}
use Rattle.clap.specs.Walk.{Row, Text}
use Rattle.command_table.specs.declared.table.CommandName.{CommandName}
use Rattle.command_table.specs.Table.{IsRead}

-- they are read as those of no row of the table
abbrev pub AreOfNone : List Text → Type 0
AreOfNone words = (name : CommandName) (rows : List Row) → IsRead name words rows → ⊥
