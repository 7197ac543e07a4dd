use Rattle.std.proofs.Common.{refl, ◌∙◌, arith, get_or}
use Rattle.std.proofs.lemmas.Bool.{lt-ltb, le-ltb}
use Rattle.mc_fields.specs.Reading.{number_machine}
use Rattle.mc_fields.proofs.NumberField.{taken, number_whole, no_number, whole_goes_on, whole_stops, whole_ends}
use Rattle.mc_fields.proofs.FieldLoops.{next_some, next_none}
use Rattle.mc_fields.proofs.number.number_of.Goals as goal

pub returns-in_err-value-clause-none : goal.returns-in_err-value-clause-none
returns-in_err-value-clause-none c = λ none n is spelled.
    let m = number_machine c.args.most 0 in
    let byte = get_or c.args.bytes.now c.loop-byte.byte-index 0 in
    let stops = next_none (m.may c.loop-byte.value byte) (m.next c.loop-byte.value byte) c.in_err-value.ensures in
    no_number c.args.most n c.args.bytes.now (omega arith) (whole_stops c.args.most c.loop-byte.value byte c.args.bytes.now c.loop-byte.byte-index _ c.loop-byte-test.true refl stops c.loop-byte.invariant.1) is spelled

pub loop-byte-preserved : goal.loop-byte-preserved
loop-byte-preserved c =
    let m = number_machine c.args.most 0 in
    let byte = get_or c.args.bytes.now c.loop-byte.byte-index 0 in
    let n = next_some (m.may c.loop-byte.value byte) (m.next c.loop-byte.value byte) c.in_ok-value.value c.in_ok-value.ensures in
    rw (n.1) (
      (taken c.args.most 0 c.loop-byte.value byte n.0).within,
      whole_goes_on c.args.most c.loop-byte.value byte c.args.bytes.now c.loop-byte.byte-index _ c.loop-byte-test.true refl n.0 c.loop-byte.invariant.1,
    )

pub returns-then-value-gt0-clause-number : goal.returns-then-value-gt0-clause-number
returns-then-value-gt0-clause-number c =
    let ends = whole_ends c.args.most c.loop-byte.value c.args.bytes.now c.loop-byte.byte-index _ c.loop-byte-test.false c.loop-byte.invariant.1 in
    number_whole c.args.most c.loop-byte.value c.args.bytes.now (omega arith) (ends ∙ rw (lt-ltb 0 c.loop-byte.value c.if-value-gt0.true) refl)

pub returns-else-value-gt0-clause-none : goal.returns-else-value-gt0-clause-none
returns-else-value-gt0-clause-none c = λ none n is spelled.
    let ends = whole_ends c.args.most c.loop-byte.value c.args.bytes.now c.loop-byte.byte-index _ c.loop-byte-test.false c.loop-byte.invariant.1 in
    no_number c.args.most n c.args.bytes.now (omega arith) (ends ∙ rw (le-ltb 0 c.loop-byte.value c.if-value-gt0.false) refl) is spelled
