use Rattle.mc_words.proofs.WordLaws.{one_command}
use Rattle.mc_words.proofs.law.words_are_of_one_command.Goals as goal

pub returns : goal.returns
returns c = one_command
