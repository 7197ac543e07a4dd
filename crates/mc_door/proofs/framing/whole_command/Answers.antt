use Rattle.std.proofs.Common.{◌≡◌, inr, ℕ, sym, refl, ◌∙◌, arith, rules}
use Rattle.mc_door.specs.Framing.{HasLine}
use Rattle.mc_door.proofs.FramingLemmas.{line_there, no_line, no_length, whole_there, lacks_input}
use Rattle.mc_door.proofs.framing.whole_command.Goals as goal

pub returns-else-bytes-lt-MOST_LINE-clause-never : goal.returns-else-bytes-lt-MOST_LINE-clause-never
returns-else-bytes-lt-MOST_LINE-clause-never c = λ is more n has. no_line _ c.args.bytes.now more n (omega arith) (omega arith) (sym c.in_default.ensures) has

pub returns-in_default-input_told-clause-never : goal.returns-in_default-input_told-clause-never
returns-in_default-input_told-clause-never c = λ is more n has.
    no_length c.args.bytes.now c.in-Some.head.now _ more n (line_there _ c.args.bytes.now c.in-Some.head.now _ (omega arith) (omega arith) (sym c.in-Some.ensures)) (c.in_default-input_told.ensures.none refl) has

pub returns-then-end-bytes-clause-at : goal.returns-then-end-bytes-clause-at
returns-then-end-bytes-clause-at c = λ n is.
    whole_there c.args.bytes.now c.in-Some.head.now _ c.in-Some-input_told.input n (line_there _ c.args.bytes.now c.in-Some.head.now _ (omega arith) (omega arith) (sym c.in-Some.ensures)) c.in-Some-input_told.ensures.some (omega arith) (cc)

pub returns-else-end-bytes-clause-part : goal.returns-else-end-bytes-clause-part
returns-else-end-bytes-clause-part c = λ is.
    inr (lacks_input c.args.bytes.now c.in-Some.head.now _ c.in-Some-input_told.input (line_there _ c.args.bytes.now c.in-Some.head.now _ (omega arith) (omega arith) (sym c.in-Some.ensures)) c.in-Some-input_told.ensures.some (omega arith))
