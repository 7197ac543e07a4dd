use Rattle.std.proofs.Common.{◌≡◌, ◌≢◌, ◌+◌, ◌<◌, arith, sym, ap, ◌∙◌, length, []}
use Rattle.std.proofs.lemmas.Bool.{eqb-true, eqb-false}
use Rattle.std.proofs.lemmas.List.{nil_from_length}
use Rattle.mc_records.proofs.PieceLaws.{read_to, left_no, left_on, more_read, nothing_behind}
use Rattle.mc_records.proofs.listing.count_of.Goals as goal

pub returns-in-Err-clause-none : goal.returns-in-Err-clause-none
returns-in-Err-clause-none c = λ _. left_no c.args.bytes.now c.loop-before.before c.loop-before.rest.now c.in-Err.field-0.left c.loop-before.invariant.left c.in-Err.ensures

pub returns-then-is_empty-clause-found : goal.returns-then-is_empty-clause-found
returns-then-is_empty-clause-found c =
    let more = c.in-Ok.more.now in
    let none : more ≡ [] = nil_from_length more (eqb-true (length more) 0 (sym c.if-is_empty.ensures)) in
    nothing_behind (c.loop-before.before + 1) c.args.bytes.now (λ i. omega (arith, c.type_inv.bytes i)) (omega arith) (omega (arith, c.loop-before-test.true))
    (more_read c.args.bytes.now c.loop-before.before c.loop-before.rest.now more c.loop-before.invariant.read c.in-Ok.ensures ∙ ap read_to none)

pub loop-before-preserved : goal.loop-before-preserved
loop-before-preserved c =
    let more = c.in-Ok.more.now in
    let left : length more ≢ 0 = eqb-false (length more) 0 (sym c.if-is_empty.ensures) in
    let some : 0 < length more = omega (arith, left) in
    record {
      read = more_read c.args.bytes.now c.loop-before.before c.loop-before.rest.now more c.loop-before.invariant.read c.in-Ok.ensures;
      left = left_on c.args.bytes.now c.loop-before.before c.loop-before.rest.now more c.loop-before.invariant.left c.in-Ok.ensures some;
    }
