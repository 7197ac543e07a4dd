-- The words of a command are of no other.
use Rattle.std.proofs.Common.{◌≡◌, ◌∙◌, List, Option, Some, None, sym, subst, ap}
use Rattle.std.specs.Prelude.{IfSome, IsNone}
use Rattle.clap.specs.Walk.{Row, Text}
use Rattle.command_table.specs.declared.table.CommandName.{CommandName}
use Rattle.command_table.specs.Naming.{named}
use Rattle.command_table.specs.Table.{AreOf, IsRead, Reads, form_of}
use Rattle.command_table.specs.Values.{AreFound, ValuesOf}
use Rattle.command_table.proofs.OneLemmas.{all_spelled_once}
use Rattle.command_table.proofs.TableLemmas.{named_so, one_name, read_once}
use Rattle.mc_words.specs.declared.command.Command.{Command}
use Rattle.mc_words.specs.Commands.{AreOfNoRow, AreWords, GivesCommand, command_with}

-- ---- one command

same_command : (words : List Text) (name other : CommandName) → name ≡ other → (a : ValuesOf (form_of name).parameters) (b : ValuesOf (form_of other).parameters) → AreOf name words a → AreOf other words b
    → command_with name a ≡ command_with other b
same_command words name other e = subst (λ (n : CommandName). (a : ValuesOf (form_of name).parameters) (b : ValuesOf (form_of n).parameters) → AreOf name words a → AreOf n words b → command_with name a ≡ command_with n b) e
    (λ a b fa fb. ap (command_with name) (all_spelled_once name words a b fa fb))

pub one_command : (words : List Text) (a b : Command) → AreWords words a → AreWords words b → a ≡ b
one_command words a b fa fb =
    let name = one_name words fa.are.rows fb.are.rows fa.name fb.name fa.are.read fb.are.read in
    let same : Some a ≡ Some b = sym fa.made ∙ same_command words fa.name fb.name name fa.values fb.values fa.are fb.are ∙ fb.made in
    cc

-- ---- words that are of one, or of none

words_of_one : (name : CommandName) (words : List Text) (rows : List Row) (c : Command) → IsRead name words rows → GivesCommand name rows (Some c) → AreWords words c
words_of_one name words rows c read gives = record {
  name = gives.row;
  values = gives.values;
  are = record { one_sided = gives.one_sided; rows = rows; read = subst (λ (n : CommandName). IsRead n words rows) gives.is read; found' = gives.found' };
  made = gives.made;
}

pub given_words : (name : CommandName) (words : List Text) (read : Option (List Row)) (rows : List Row) (r : Option Command) → read ≡ Some rows → Reads name words read → GivesCommand name rows r → IfSome r (AreWords words)
given_words name words read rows None is reads gives = tt
given_words name words read rows (Some c) is reads gives = words_of_one name words rows c (subst (Reads name words) is reads) gives

pub none_named : (words : List Text) → None ≡ named words → AreOfNoRow words
none_named words e name values are = let both : None ≡ Some name = e ∙ named_so name words are.read.behind are.read.words' in cc

other_name : (words : List Text) (name : CommandName) → Some name ≡ named words → (P : CommandName → Type 0) → P name → (other : CommandName) (rows : List Row) → IsRead other words rows → P other
other_name words name e P is other rows read =
    let both : Some name ≡ Some other = e ∙ named_so other words read.behind read.words' in
    let same : name ≡ other = cc in
    subst P same is

pub none_read : (words : List Text) (name : CommandName) (r : Option (List Row)) → Some name ≡ named words → r ≡ None → Reads name words r → AreOfNoRow words
none_read words name r e is reads other values are =
    other_name words name e (λ n. (rows : List Row) → IsRead n words rows → ⊥) (subst (Reads name words) is reads) other are.rows are.read are.rows are.read

none_of : (words : List Text) (name : CommandName) (rows : List Row) → IsRead name words rows → GivesCommand name rows None → (values : ValuesOf (form_of name).parameters) → AreOf name words values → ⊥
none_of words name rows read gives values are =
    gives are.one_sided values (subst (λ (xs : List Row). AreFound xs (form_of name).parameters values) (read_once name words rows are.rows read are.read) are.found')

pub none_given : (words : List Text) (name : CommandName) (read : Option (List Row)) (rows : List Row) (r : Option Command) → IsNone r → Some name ≡ named words → read ≡ Some rows → Reads name words read → GivesCommand name rows r
    → AreOfNoRow words
none_given words name read rows (Some c) none e is reads gives = absurd (cc none)
none_given words name read rows None none e is reads gives = λ other values are.
    other_name words name e (λ n. (values : ValuesOf (form_of n).parameters) → AreOf n words values → ⊥) (none_of words name rows (subst (Reads name words) is reads) gives) other are.rows are.read values are
