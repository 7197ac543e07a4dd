-- What each row of the table of commands gives.
use Rattle.std.proofs.Common.{◌≡◌, ◌∙◌, ◌&&◌, not, Bool, true, refl, sym, ap, List, [], ◌∷◌, Option, Some, None, map}
use Rattle.std.specs.List.{list_all}
use Rattle.std.specs.Str.{bytes_eq}
use Rattle.clap.specs.Walk.{Row, Rule, Text}
use Rattle.command_words.specs.Arguments.{command, found, is_exact, optional}
use Rattle.command_table.specs.declared.parameter.Parameter.{Parameter}
use Rattle.command_table.specs.declared.table.CommandName.{CommandName}
use Rattle.command_table.specs.declared.table.CommandName.TheVariants as names
use Rattle.command_table.specs.declared.table.TheConstants.{COMMANDS}
use Rattle.command_table.specs.Naming.{named, named_among}
use Rattle.command_table.specs.Parameters.{name_of}
use Rattle.command_table.specs.Table.{IsRead, Reads, form_of, rules}

-- ---- each row

-- `clap` tells of each command exactly which words it takes
pub all_exact : (name : CommandName) → is_exact (rules (form_of name)) ≡ true
unfolding form_of is_exact command
all_exact names.VendorInit = refl
all_exact _ = refl

-- also where no argument is required
pub optional_exact : (name : CommandName) → is_exact (map optional (rules (form_of name))) ≡ true
unfolding form_of is_exact command
optional_exact names.VendorInit = refl
optional_exact _ = refl

-- no two of some parameters have one name
abbrev pub are_distinct : List Parameter → Bool
are_distinct [] = true
are_distinct (parameter ∷ parameters) = list_all (λ other. not (bytes_eq (name_of parameter) (name_of other))) parameters && are_distinct parameters

pub all_distinct : (name : CommandName) → are_distinct (form_of name).parameters ≡ true
unfolding form_of
all_distinct names.VendorInit = refl
all_distinct _ = refl

-- each command is the first that has its role and its name
pub named_first : (name : CommandName) → named_among COMMANDS (form_of name).role (form_of name).name ≡ Some name
unfolding form_of named_among
named_first names.VendorInit = refl
named_first _ = refl

-- ---- words

-- the command that words begin with
pub named_so : (name : CommandName) (words behind : List Text) → words ≡ (form_of name).role ∷ (form_of name).name ∷ behind → named words ≡ Some name
unfolding named
named_so name words behind e = ap named e ∙ named_first name

-- the words of a command are read in one way
pub read_once : (name : CommandName) (words : List Text) (rows other : List Row) → IsRead name words rows → IsRead name words other → other ≡ rows
read_once name words rows other a b =
    let same : a.behind ≡ b.behind = cc (a.words', b.words') in
    let both : Some other ≡ Some rows = sym b.rows' ∙ ap (found (rules (form_of name))) (sym same) ∙ a.rows' in
    cc

-- what `clap` found in the words behind a role and a name is what is read of the command
pub read_made : (name : CommandName) (given : List Rule) (words behind : List Text) (role command : Text) (r : Option (List Row)) → words ≡ role ∷ command ∷ behind
    → role ≡ (form_of name).role → command ≡ (form_of name).name → given ≡ rules (form_of name) → r ≡ found given behind → Reads name words r
read_made name given words behind role command (Some rows) spelled is_role is_command is_row is = record {
  behind = behind;
  words' = cc (spelled, is_role, is_command);
  rows' = sym (is ∙ ap (λ (x : List Rule). found x behind) is_row);
}
read_made name given words behind role command None spelled is_role is_command is_row is = λ rows read.
    let same : behind ≡ read.behind = cc (spelled, read.words') in
    let none : None ≡ Some rows = is ∙ ap (λ (x : List Rule). found x behind) is_row ∙ ap (found (rules (form_of name))) same ∙ read.rows' in
    absurd cc

-- what is found of an argument is one
pub one_value : {X : Type 0} {found : Option X} {a b : X} → found ≡ Some a → found ≡ Some b → a ≡ b
one_value {X} {found} {a} {b} fa fb = let both : Some a ≡ Some b = sym fa ∙ fb in cc

-- words begin as those of one command at most
pub one_name : (words : List Text) (rows others : List Row) (name other : CommandName) → IsRead name words rows → IsRead other words others → name ≡ other
one_name words rows others name other a b = let one : Some name ≡ Some other = sym (named_so name words a.behind a.words') ∙ named_so other words b.behind b.words' in cc
