-- How the words of a command may begin.
use Rattle.std.specs.Prelude.{◌≡◌, ◌⊎◌, ◌&&◌, Bool, true, false, List, [], ◌∷◌, ◌++◌, map, Option, Some, None, IfSome, codes}
use Rattle.std.specs.List.{AllByRecursion, list_any}
use Rattle.std.specs.Option.{option_map_or}
use Rattle.std.specs.Str.{bytes_eq}
use Rattle.clap.specs.Walk.{Row, Rule, Text}
use Rattle.clap.specs.declared.builder.action.ArgAction.{ArgAction}
use Rattle.clap.specs.declared.builder.action.ArgAction.TheVariants.{Append, Set}
use Rattle.command_words.specs.Arguments.{found, optional, value_of, values_of}
use Rattle.command_table.specs.declared.table.CommandName.{CommandName}
use Rattle.command_table.specs.Table.{form_of, rules}
use Rattle.command_table.specs.Values.{HaveValues}

-- what was found of an argument is found in the whole: its word, or of several words the first ones
abbrev pub IsKept : Option ArgAction → Text → List Row → List Row → Type 0
IsKept (Some Append) id rows whole = IfSome (values_of rows id) (λ some. (more : List Text) × (values_of whole id ≡ Some (some ++ more)))
IsKept _ id rows whole = IfSome (value_of rows id) (λ word. value_of whole id ≡ Some word)

-- What was found of these arguments is also found where none lacks: these rows have values of a command.
pub record MayBecome (rules : List Rule) (Finds : List Row → Type 0) (rows : List Row) : Type 0 where
  pub whole : List Row
  pub finds : Finds whole
  pub kept : AllByRecursion (λ (rule : Rule). IsKept rule.action rule.id rows whole) rules

-- Where no argument is required `clap` takes the words, and what it finds in them may become values of a command.
pub record AreTaken (rules : List Rule) (Finds : List Row → Type 0) (words : List Text) : Type 0 where
  pub rows : List Row
  pub found' : found (map optional rules) words ≡ Some rows
  pub may : MayBecome rules Finds rows

-- the argument is an option of this name, with a value
abbrev pub takes_word : Option ArgAction → Bool
takes_word (Some Set) = true
takes_word _ = false

abbrev pub is_option : Text → Rule → Bool
is_option name rule = takes_word rule.action && option_map_or (λ long. bytes_eq long name) rule.long false

-- The last word is an option with a value, and the words before it are these; none of them is `--`, behind which
-- there are no options.
pub record EndInOption (rules : List Rule) (words front : List Text) (name : Text) : Type 0 where
  pub words' : words ≡ front ++ (codes "--" ++ name) ∷ []
  pub option : list_any (is_option name) rules ≡ true
  pub open' : list_any (λ word. bytes_eq word (codes "--")) front ≡ false

-- The last word is an option that is not there before, and its value lacks.
pub record LackValue (rules : List Rule) (Finds : List Row → Type 0) (words : List Text) : Type 0 where
  pub front : List Text
  pub name : Text
  pub end' : EndInOption rules words front name
  pub taken : AreTaken rules Finds front
  pub once : value_of taken.rows name ≡ None

-- a command's words may begin with these
abbrev pub MayBegin : CommandName → List Text → Type 0
MayBegin name [] = Unit {0}
MayBegin name (role ∷ []) = role ≡ (form_of name).role
MayBegin name (role ∷ command ∷ words) =
    (role ≡ (form_of name).role) × (command ≡ (form_of name).name)
    × (AreTaken (rules (form_of name)) (HaveValues (form_of name).parameters) words ⊎ LackValue (rules (form_of name)) (HaveValues (form_of name).parameters) words)
