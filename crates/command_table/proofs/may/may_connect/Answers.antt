use Rattle.std.proofs.Common.{◌≡◌, ◌∙◌, true, ap, not, is_some}
use Rattle.command_table.specs.Ranges.{IsConnect}
use Rattle.command_table.proofs.SpellLemmas.{borrowed, is_there}
use Rattle.command_table.proofs.may.may_connect.Goals as goal

pub returns-else-is_none : goal.returns-else-is_none
returns-else-is_none c =
    let some : is_some c.value_of.result ≡ true = c.is_none.ensures ∙ ap not c.if-is_none.false in
    rw c.is_some.ensures (borrowed _ IsConnect c.spelled_connect.result c.spelled_connect.ensures.some c.spelled_connect.ensures.none (is_there c.value_of.result _ some c.value_of.ensures))
