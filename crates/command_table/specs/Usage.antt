-- The line that tells which words a command has.
use Rattle.std.specs.Prelude.{Bool, true, if◌then◌else◌, List, [], ◌∷◌, ◌++◌, Option, Some, None, codes, flat_map}
use Rattle.std.specs.List.{list_any}
use Rattle.std.specs.Str.{bytes_eq}
use Rattle.clap.specs.Walk.{Text}
use Rattle.command_table.specs.declared.parameter.Parameter.{Parameter}
use Rattle.command_table.specs.declared.parameter.Shape.{Shape}
use Rattle.command_table.specs.declared.parameter.Shape.TheVariants.{One, Places, Setting, Flag}
use Rattle.command_table.specs.declared.table.CommandName.{CommandName}
use Rattle.command_table.specs.declared.table.TheConstants.{COMMANDS}
use Rattle.command_table.specs.Naming.{named}
use Rattle.command_table.specs.Parameters.{name_of, shape_of, value_name_of}
use Rattle.command_table.specs.Table.{CommandForm, form_of}

-- a parameter: `NAME`, `NAME..`, `[--name VALUE]` or `[--name]`
abbrev pub shown_as : Text → Text → Shape → Text
shown_as name value (One sort) = codes " " ++ name
shown_as name value Places = codes " " ++ name ++ codes ".."
shown_as name value (Setting sort) = codes " [--" ++ name ++ codes " " ++ value ++ codes "]"
shown_as name value Flag = codes " [--" ++ name ++ codes "]"

abbrev pub shown : Parameter → Text
shown parameter = shown_as (name_of parameter) (value_name_of parameter) (shape_of parameter)

-- the line of a command: its role, its name, and its parameters
abbrev pub usage_line : CommandForm → Text
usage_line form = codes "usage: millicent " ++ form.role ++ codes " " ++ form.name ++ flat_map shown form.parameters

-- a command's name behind that of another command, or at the beginning of the line
abbrev pub next_name : Option CommandName → CommandForm → Text
next_name None form = codes "usage: millicent " ++ form.role ++ codes " " ++ form.name
next_name (Some before) form =
    if bytes_eq (form_of before).role form.role then codes "|" ++ form.name else codes " .. or " ++ form.role ++ codes " " ++ form.name

-- whether a command has this role, as each has where none is given
abbrev pub is_of : Option Text → CommandName → Bool
is_of None name = true
is_of (Some role) name = bytes_eq (form_of name).role role

-- the names of those commands that have the role, behind another one or at the beginning
unfoldable pub names_behind : Option Text → Option CommandName → List CommandName → Text
names_behind role before [] = codes " .."
names_behind role before (c ∷ cs) = if is_of role c then next_name before (form_of c) ++ names_behind role (Some c) cs else names_behind role before cs

-- the line of the commands of a role, or of all
unfoldable pub commands : Option Text → Text
commands role = names_behind role None COMMANDS

-- the first word, where a command has that role
unfoldable pub role_of : List Text → Option Text
role_of [] = None
role_of (word ∷ words) = if list_any (is_of (Some word)) COMMANDS then Some word else None

-- the line of a command, or that of the commands of a role
abbrev pub line_of : Option CommandName → Option Text → Text
line_of None role = commands role
line_of (Some name) role = usage_line (form_of name)

-- what is told of words: the line of the command that they begin with, or else of the role that they do, or else of all
abbrev pub told_of : List Text → Text
told_of words = line_of (named words) (role_of words)
