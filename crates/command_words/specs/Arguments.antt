-- The arguments of a command, and what `clap` finds in the words that it takes for them.
use Rattle.std.specs.Prelude.{◌&&◌, Bool, true, false, List, [], Option, Some, None, if◌then◌else◌, codes}
use Rattle.std.specs.List.{list_all}
use Rattle.std.specs.Option.{option_map_or}
use Rattle.std.specs.Str.{bytes_eq}
use Rattle.clap.specs.Walk.{Row, Rule, Text, all_of, first_of}
use Rattle.clap.specs.Simple.{App, built, matches_of, new_rule, new_shape}
use Rattle.clap.specs.Takes.{default_passes, takes}
use Rattle.clap.specs.Faults.{is_simple_and_free}
use Rattle.clap.specs.declared.builder.action.ArgAction.TheVariants.{Set, Append, SetTrue}
use Rattle.command_words.specs.declared.argument.Argument.{Argument}
use Rattle.command_words.specs.declared.argument.Argument.TheVariants.{Positional, Positionals, Value, Flag}

-- ---- arguments, each a rule of `clap`

-- NAME: one word, which has to be there
abbrev pub positional : Text → Rule
positional name = record (new_rule name) { required = true; action = Some Set }

-- NAME..: one word or more
abbrev pub positionals : Text → Rule
positionals name = record (new_rule name) { required = true; action = Some Append }

-- `--NAME VALUE` or `--NAME=VALUE`, which may be left out
abbrev pub value : Text → Rule
value name = record (new_rule name) { long = Some name; action = Some Set }

-- `--NAME`, which may be left out
abbrev pub flag : Text → Rule
flag name = record (new_rule name) { long = Some name; action = Some SetTrue }

-- an argument that may be left out
abbrev pub optional : Rule → Rule
optional rule = record rule { required = false }

-- the arguments as the code writes them
abbrev pub rule_of_argument : Argument → Rule
rule_of_argument (Positional name) = positional name.now
rule_of_argument (Positionals name) = positionals name.now
rule_of_argument (Value name) = value name.now
rule_of_argument (Flag name) = flag name.now

-- ---- the command

-- the command that has these arguments and nothing else: no help, no version, no subcommand; its words
-- have no program's name before them
unfoldable pub command : List Rule → App
command rules = record {
  top = record (new_shape (codes "millicent")) {
    rules = rules;
    no_binary_name = true;
    disable_help_flag = true;
  };
  subs = [];
}

-- what `clap` promises of the command is exact, both of the words that it takes and of those that it
-- doesn't; a test that computes
unfoldable pub is_exact : List Rule → Bool
is_exact rules = is_simple_and_free (command rules) && list_all default_passes (built (command rules)).top.rules

-- what `clap` finds in the words for these arguments, where it promises to take them
unfoldable pub found : List Rule → List Text → Option (List Row)
found rules words = if takes (command rules) words then Some (matches_of (command rules) words) else None

-- ---- what is found of an argument, by its name

-- its word or its value, of several words the first
abbrev pub value_of : List Row → Text → Option Text
value_of rows name = first_of name rows

-- all its words
abbrev pub values_of : List Row → Text → Option (List Text)
values_of rows name = all_of name rows

-- whether a flag is there
abbrev pub has_flag : List Row → Text → Bool
has_flag rows name = option_map_or (λ text. bytes_eq text (codes "true")) (value_of rows name) false
