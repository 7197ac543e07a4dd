use Rattle.std.proofs.Common.{inl, inr}
use Rattle.std.proofs.lemmas.Bool.{le-ltb, lt-ltb}
use Rattle.mc_fields.specs.Reading.{number_machine, number_at}
use Rattle.mc_fields.proofs.NumberField.{taken}
use Rattle.mc_fields.proofs.FieldLoops.{next_some, next_none, field_goes_on, field_ends, field_stops, field_is_short}
use Rattle.mc_fields.proofs.number.read_number.Goals as goal
use Rattle.mc_fields.proofs.number.read_number.Goals.{then-byte-stop+else-value-gt0, else-byte-stop}

pub loop-byte-preserved : goal.loop-byte-preserved
loop-byte-preserved c =
    let m = number_machine c.args.most c.args.stop in
    let n = next_some (m.may c.loop-byte.value c.in-Some.byte.now) (m.next c.loop-byte.value c.in-Some.byte.now) c.in-Some-next_value.next c.in-Some-next_value.ensures in
    rw (n.1) (
      (taken c.args.most c.args.stop c.loop-byte.value c.in-Some.byte.now n.0).within,
      field_goes_on m c.loop-byte.value c.in-Some.byte.now c.loop-byte.rest.now c.in-Some.tail.now (number_at c.args.most c.args.stop c.args.bytes.now) c.in-Some.ensures.cases.0 n.0 c.loop-byte.invariant.1,
    )

pub returns-in-None-clause-gives : goal.returns-in-None-clause-gives
returns-in-None-clause-gives c =
    let m = number_machine c.args.most c.args.stop in
    let n = next_none (m.may c.loop-byte.value c.in-Some.byte.now) (m.next c.loop-byte.value c.in-Some.byte.now) c.in-None.ensures in
    field_ends m c.loop-byte.value c.in-Some.byte.now c.loop-byte.rest.now c.in-Some.tail.now (number_at c.args.most c.args.stop c.args.bytes.now) c.in-Some.ensures.cases.0 n c.if-byte-stop.true (lt-ltb 0 c.loop-byte.value c.if-value-gt0.true) c.loop-byte.invariant.1

pub returns-in-None-2-clause-gives : goal.returns-in-None-2-clause-gives
returns-in-None-2-clause-gives c =
    let m = number_machine c.args.most c.args.stop in
    let n = next_none (m.may c.loop-byte.value c.in-Some.byte.now) (m.next c.loop-byte.value c.in-Some.byte.now) c.in-None.ensures in
    field_stops m c.loop-byte.value c.in-Some.byte.now c.loop-byte.rest.now c.in-Some.tail.now (number_at c.args.most c.args.stop c.args.bytes.now) c.in-Some.ensures.cases.0 n
    (elim c.if-byte-stop.branch [
      | then-byte-stop+else-value-gt0 w ↦ inr (le-ltb 0 c.loop-byte.value w.if-value-gt0.false)
      | else-byte-stop w ↦ inl w.if-byte-stop.false
    ]) c.loop-byte.invariant.1

pub returns-clause-gives : goal.returns-clause-gives
returns-clause-gives c = field_is_short (number_machine c.args.most c.args.stop) c.loop-byte.value c.loop-byte.rest.now (number_at c.args.most c.args.stop c.args.bytes.now) c.in_default.ensures.cases c.loop-byte.invariant.1
