-- The command that words begin with.
use Rattle.std.specs.Prelude.{Bool, ◌&&◌, if◌then◌else◌, List, [], ◌∷◌, Option, Some, None}
use Rattle.std.specs.Str.{bytes_eq}
use Rattle.clap.specs.Walk.{Text}
use Rattle.command_table.specs.declared.table.CommandName.{CommandName}
use Rattle.command_table.specs.declared.table.TheConstants.{COMMANDS}
use Rattle.command_table.specs.Table.{CommandForm, form_of}

-- whether a command has this role and this name
abbrev pub is_called : Text → Text → CommandForm → Bool
is_called role name form = bytes_eq role form.role && bytes_eq name form.name

-- the first of some commands that is called so
unfoldable pub named_among : List CommandName → Text → Text → Option CommandName
named_among [] role name = None
named_among (c ∷ cs) role name = if is_called role name (form_of c) then Some c else named_among cs role name

-- the command of the table whose role and name are the first two words
unfoldable pub named : List Text → Option CommandName
named (role ∷ name ∷ behind) = named_among COMMANDS role name
named _ = None
