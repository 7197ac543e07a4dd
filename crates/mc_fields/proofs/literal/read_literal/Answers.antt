use Rattle.mc_fields.specs.Reading.{literal_at}
use Rattle.mc_fields.proofs.FieldLoops.{literal_ends, literal_differs, literal_goes_on, literal_is_read}
use Rattle.mc_fields.proofs.literal.read_literal.Goals as goal

pub returns-in_default : goal.returns-in_default
returns-in_default c = literal_ends c.args.text.now c.loop-wanted.wanted-index c.loop-wanted.rest.now (literal_at c.args.text.now c.args.bytes.now) c.loop-wanted-test.true c.in_default.ensures.cases c.loop-wanted.invariant

pub returns-then-byte-wanted : goal.returns-then-byte-wanted
returns-then-byte-wanted c = literal_differs c.args.text.now c.loop-wanted.wanted-index c.in-Some.byte.now c.loop-wanted.rest.now c.in-Some.tail.now (literal_at c.args.text.now c.args.bytes.now) c.loop-wanted-test.true c.in-Some.ensures.cases.0 c.if-byte-wanted.true c.loop-wanted.invariant

pub loop-wanted-preserved : goal.loop-wanted-preserved
loop-wanted-preserved c = literal_goes_on c.args.text.now c.loop-wanted.wanted-index c.in-Some.byte.now c.loop-wanted.rest.now c.in-Some.tail.now (literal_at c.args.text.now c.args.bytes.now) c.loop-wanted-test.true c.in-Some.ensures.cases.0 c.if-byte-wanted.false c.loop-wanted.invariant

pub returns : goal.returns
returns c = literal_is_read c.args.text.now c.loop-wanted.wanted-index c.loop-wanted.rest.now (literal_at c.args.text.now c.args.bytes.now) c.loop-wanted-test.false c.loop-wanted.invariant
