use Rattle.std.proofs.Common.{◌∙◌, ap, map, string_bytes, Some}
use Rattle.command_words.proofs.Exact.{taken, untaken}
use Rattle.command_words.proofs.reading.read_by.Goals as goal

pub returns-in-Ok : goal.returns-in-Ok
returns-in-Ok c = λ rules is exact.
    ap Some c.of.ensures ∙ taken _ rules (map string_bytes c.args.words.now) c.in-Ok.matches is exact c.in-Ok.ensures.kinds c.in-Ok.ensures.matches

pub returns : goal.returns
returns c = λ rules is exact. untaken _ rules (map string_bytes c.args.words.now) c.in-Err.error is c.in-Err.ensures.passes (λ memory. c.in_default.not-OutOfMemory (c.kind.ensures ∙ memory))
