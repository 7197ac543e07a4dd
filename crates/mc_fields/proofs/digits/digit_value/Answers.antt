use Rattle.std.proofs.Common.{inl, inr, arith}
use Rattle.mc_fields.proofs.DigitValues.{decimal_is, letter_is, none_is}
use Rattle.mc_fields.proofs.digits.digit_value.Goals as goal
use Rattle.mc_fields.proofs.digits.digit_value.Goals.{then-letter-lt10, else-letter-lt10}

pub returns-then-decimal-lt10-clause-digit : goal.returns-then-decimal-lt10-clause-digit
returns-then-decimal-lt10-clause-digit c = λ lt. decimal_is c.args.byte c.ranges.byte.fits c.if-decimal-lt10.true

pub returns-else-decimal-lt10-clause-digit : goal.returns-else-decimal-lt10-clause-digit
returns-else-decimal-lt10-clause-digit c = elim c.if-letter-lt10.branch [
  | then-letter-lt10 w ↦ λ lt. absurd (omega (arith, w.letter-is, lt))
  | else-letter-lt10 w ↦ rw w.letter-is (λ lt. letter_is c.args.byte c.ranges.byte.fits (omega (arith, w.if-letter-lt10.false)) lt)
]

pub returns-else-decimal-lt10-clause-other : goal.returns-else-decimal-lt10-clause-other
returns-else-decimal-lt10-clause-other c = elim c.if-letter-lt10.branch [
  | then-letter-lt10 w ↦ λ ge. none_is c.args.byte c.ranges.byte.fits (omega (arith, c.if-decimal-lt10.false)) (inl w.if-letter-lt10.true)
  | else-letter-lt10 w ↦ rw w.letter-is (λ ge. none_is c.args.byte c.ranges.byte.fits (omega (arith, c.if-decimal-lt10.false)) (inr ge))
]
