use Rattle.std.proofs.Common.{◌≡◌, ◌∙◌, true, ap, not, is_some, ◌≤◌, length}
use Rattle.mc_records.specs.declared.ranges.TheConstants.{MOST_CONTENTS}
use Rattle.command_table.proofs.SpellLemmas.{borrowed, is_there}
use Rattle.command_table.proofs.may.may_contents.Goals as goal

pub returns-else-is_none : goal.returns-else-is_none
returns-else-is_none c =
    let some : is_some c.value_of.result ≡ true = c.is_none.ensures ∙ ap not c.if-is_none.false in
    rw c.is_some.ensures (borrowed _ (λ c. length c ≤ MOST_CONTENTS) c.spelled_contents.result c.spelled_contents.ensures.some c.spelled_contents.ensures.none (is_there c.value_of.result _ some c.value_of.ensures))
