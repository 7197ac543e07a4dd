use Rattle.std.proofs.Common.{◌∙◌, sym}
use Rattle.mc_words.proofs.WordLaws.{given_words, none_given, none_named, none_read}
use Rattle.mc_words.proofs.command.command_of.Goals as goal

pub returns-in_default-clause-none : goal.returns-in_default-clause-none
returns-in_default-clause-none c none = none_named _ (sym c.in_default.is ∙ c.named.ensures)

pub returns-in-Some-2-clause-command : goal.returns-in-Some-2-clause-command
returns-in-Some-2-clause-command c = given_words c.in-Some.name _ _ _ _ c.in-Some-2.is c.in_ok-found.ensures c.command_in.ensures

pub returns-in-Some-2-clause-none : goal.returns-in-Some-2-clause-none
returns-in-Some-2-clause-none c none = none_given _ c.in-Some.name _ _ _ none (sym c.in-Some.is ∙ c.named.ensures) c.in-Some-2.is c.in_ok-found.ensures c.command_in.ensures

pub returns-in-None-clause-none : goal.returns-in-None-clause-none
returns-in-None-clause-none c none = none_read _ c.in-Some.name _ (sym c.in-Some.is ∙ c.named.ensures) c.in-None.is c.in_ok-found.ensures
