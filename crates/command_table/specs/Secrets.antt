-- Which commands read secrets.
use Rattle.std.specs.Prelude.{◌≡◌, true, List, ◌∷◌}
use Rattle.std.specs.List.{list_any}
use Rattle.clap.specs.Walk.{Text}
use Rattle.command_table.specs.declared.table.CommandName.{CommandName}
use Rattle.command_table.specs.Parameters.{is_secret}
use Rattle.command_table.specs.Table.{form_of}

-- The words begin with the role and the name of a command of the table that has a parameter whose words are secrets.
pub record ReadSecrets (words : List Text) : Type 0 where
  pub name : CommandName
  pub behind : List Text
  pub words' : words ≡ (form_of name).role ∷ (form_of name).name ∷ behind
  pub secret : list_any is_secret (form_of name).parameters ≡ true
