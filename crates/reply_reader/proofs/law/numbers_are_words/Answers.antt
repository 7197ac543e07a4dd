use Rattle.reply_reader.proofs.BackLemmas.{number_is_word}
use Rattle.reply_reader.proofs.law.numbers_are_words.Goals as goal

pub returns : goal.returns
returns c = number_is_word
