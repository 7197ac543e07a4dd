use Rattle.command_help.proofs.AskLemmas.{anyway, first_help, is_word, second_help, third_long, third_short}
use Rattle.command_help.proofs.asked.page_of_three.Goals as goal
use Rattle.command_help.proofs.asked.page_of_three.Goals.{then-eq-3-via-then-eq-3, then-eq-3-via-else-eq-3+then-eq-4}

pub returns-then-eq : goal.returns-then-eq
returns-then-eq c = anyway c.command_page.result (first_help _ _ (is_word _ _ _ c.eq.ensures c.if-eq.true))

pub returns-then-eq-2 : goal.returns-then-eq-2
returns-then-eq-2 c = anyway c.command_page-then-eq-2.result (second_help _ _ _ (is_word _ _ _ c.eq-2.ensures c.if-eq-2.true))

pub returns-then-eq-3 : goal.returns-then-eq-3
returns-then-eq-3 c = anyway c.command_page-then-eq-3.result (elim c.then-eq-3.branch [
  | then-eq-3-via-then-eq-3 w ↦ third_long _ _ _ (is_word _ _ _ c.eq-3.ensures w.if-eq-3.true)
  | then-eq-3-via-else-eq-3+then-eq-4 w ↦ third_short _ _ _ (is_word _ _ _ w.eq-else-eq-3.ensures w.if-eq-4.true)
])
