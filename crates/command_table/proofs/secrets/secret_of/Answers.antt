use Rattle.std.proofs.Common.{◌≡◌, ◌<◌, length, arith}
use Rattle.command_table.proofs.SecretLemmas.{is_read, begins_with_none, goes_on_behind, ends_behind}
use Rattle.command_table.proofs.secrets.secret_of.Goals as goal

pub returns-in_default-clause-none : goal.returns-in_default-clause-none
returns-in_default-clause-none c = λ none. begins_with_none c.args.word.now c.in_default.field-0.left c.in_default.ensures

pub returns-then-not-is_empty-clause-none : goal.returns-then-not-is_empty-clause-none
returns-then-not-is_empty-clause-none c = λ none.
    let some : 0 < length c.in-Ok.found.1.now = grind arith in
    goes_on_behind c.args.word.now c.in-Ok.found.0 c.in-Ok.found.1.now (is_read c.args.word.now c.in-Ok.found.0 c.in-Ok.found.1.now c.in-Ok.ensures) some

pub returns-clause-range : goal.returns-clause-range
returns-clause-range c = (is_read c.args.word.now c.in-Ok.found.0 c.in-Ok.found.1.now c.in-Ok.ensures).cert

pub returns-clause-spelled : goal.returns-clause-spelled
returns-clause-spelled c =
    let none : length c.in-Ok.found.1.now ≡ 0 = grind arith in
    ends_behind c.args.word.now c.in-Ok.found.0 c.in-Ok.found.1.now (is_read c.args.word.now c.in-Ok.found.0 c.in-Ok.found.1.now c.in-Ok.ensures) none
