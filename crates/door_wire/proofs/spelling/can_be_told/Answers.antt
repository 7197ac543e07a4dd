use Rattle.std.proofs.Common.{◌∙◌, sym}
use Rattle.std.specs.Prelude.{string_bytes}
use Rattle.door_wire.proofs.SpellingLemmas.{plain_words, then_plain}
use Rattle.door_wire.proofs.spelling.can_be_told.Goals as goal

pub returns-then-have_no_space : goal.returns-then-have_no_space
returns-then-have_no_space c = then_plain _ _ _ _ (sym c.if-have_no_space.true ∙ c.have_no_space.ensures) c.have_no_space-then-have_no_space.ensures (plain_words string_bytes c.args.words.now c.if-words-lt3.false)
