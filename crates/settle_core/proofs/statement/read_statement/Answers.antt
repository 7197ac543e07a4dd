use Rattle.std.proofs.Common.{length, sym}
use Rattle.std.proofs.lemmas.Bool.{eqb-true}
use Rattle.std.proofs.lemmas.List.{nil_from_length}
use Rattle.settle_core.proofs.LineParts.{input_told}
use Rattle.settle_core.proofs.statement.read_statement.Goals as goal

pub returns-then-is_empty-2-clause-told : goal.returns-then-is_empty-2-clause-told
returns-then-is_empty-2-clause-told c =
    let rest = c.in-Some.rest.now in
    input_told c.args.bytes.now c.in-Some.statement rest (sym c.in-Some.ensures) (nil_from_length rest (eqb-true (length rest) 0 (sym c.if-is_empty-2.ensures)))
