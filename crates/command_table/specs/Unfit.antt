-- The parameter that has a word of no value.
use Rattle.std.specs.Prelude.{◌≡◌, List, map, drop, Contains, Option, Some, None}
use Rattle.clap.specs.Walk.{Row, Text}
use Rattle.command_words.specs.Arguments.{found, optional}
use Rattle.command_table.specs.declared.table.CommandName.{CommandName}
use Rattle.command_table.specs.declared.parameter.Parameter.{Parameter}
use Rattle.command_table.specs.Parameters.{name_of, shape_of}
use Rattle.command_table.specs.Table.{form_of, rules}
use Rattle.command_table.specs.Naming.{named}
use Rattle.command_table.specs.Values.{MayBe, EachMayBe}

-- The words are of this command, `clap` takes those behind its name, none of them being required, and the parameter is one of
-- the command's, of which what it finds can't become a value.
pub record IsUnfit (words : List Text) (parameter : Parameter) : Type 0 where
  pub name : CommandName
  pub command : named words ≡ Some name
  pub rows : List Row
  pub taken : found (map optional (rules (form_of name))) (drop 2 words) ≡ Some rows
  pub listed : Contains (form_of name).parameters parameter
  pub unfit : MayBe rows (name_of parameter) (shape_of parameter) → ⊥

-- where none is told, what is found of each parameter may become a value
abbrev pub IsToldUnfit : List Text → Option Parameter → Type 0
IsToldUnfit words (Some parameter) = IsUnfit words parameter
IsToldUnfit words None = (name : CommandName) (rows : List Row) → named words ≡ Some name → found (map optional (rules (form_of name))) (drop 2 words) ≡ Some rows → EachMayBe rows (form_of name).parameters
