use Rattle.std.proofs.Common.{◌≡◌, ◌≤◌, List, [], ◌∷◌, length, map, string_bytes, Some, arith}
use Rattle.std.proofs.lemmas.List.{length-map}
use Rattle.clap.specs.Walk.{Text}
use Rattle.command_table.specs.declared.table.CommandName.{CommandName}
use Rattle.command_table.specs.Naming.{named}
use Rattle.command_table.proofs.unfit.unfit_parameter.Goals as goal

-- words of a command are two at least
two_words : (words : List Text) (name : CommandName) → named words ≡ Some name → 2 ≤ length words
unfolding named
two_words [] name is = absurd cc
two_words (role ∷ []) name is = absurd cc
two_words (role ∷ command ∷ words) name is = omega arith

pub returns-in_default-parts_of : goal.returns-in_default-parts_of
returns-in_default-parts_of c name rows is taken =
    absurd (grind (arith, two_words (map string_bytes c.args.words.now) name is, length-map c.args.words.now string_bytes, c.in_default-parts_of.ensures.none, c.in_default-parts_of.not-Some))
