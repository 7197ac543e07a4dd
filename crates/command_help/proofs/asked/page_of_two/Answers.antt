use Rattle.command_help.proofs.AskLemmas.{anyway, first_help, is_word, second_help, second_long, second_short}
use Rattle.command_help.proofs.asked.page_of_two.Goals as goal
use Rattle.command_help.proofs.asked.page_of_two.Goals.{then-eq-2-via-then-eq-2, then-eq-2-via-else-eq-2+then-eq-3, then-eq-2-via-else-eq-2+else-eq-3+then-eq-4}

pub returns-then-eq : goal.returns-then-eq
returns-then-eq c = anyway c.role_page.result (first_help _ _ (is_word _ _ _ c.eq.ensures c.if-eq.true))

pub returns-then-eq-2 : goal.returns-then-eq-2
returns-then-eq-2 c = anyway c.role_page-then-eq-2.result (elim c.then-eq-2.branch [
  | then-eq-2-via-then-eq-2 w ↦ second_long _ _ _ (is_word _ _ _ c.eq-2.ensures w.if-eq-2.true)
  | then-eq-2-via-else-eq-2+then-eq-3 w ↦ second_short _ _ _ (is_word _ _ _ w.eq-else-eq-2.ensures w.if-eq-3.true)
  | then-eq-2-via-else-eq-2+else-eq-3+then-eq-4 w ↦ second_help _ _ _ (is_word _ _ _ w.eq-else-eq-3.ensures w.if-eq-4.true)
])
