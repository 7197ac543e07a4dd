use Rattle.command_table.proofs.SpellLemmas.{places_told}
use Rattle.command_table.proofs.may.may_places.Goals as goal

pub returns-in-Some : goal.returns-in-Some
returns-in-Some c = places_told c.in-Some.words.now _ _ c.in-Some.ensures c.are_places.ensures
