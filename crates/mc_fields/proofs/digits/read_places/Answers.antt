use Rattle.std.proofs.Common.{◌≡◌, ◌+◌, ◌*◌, ◌%◌, ◌<◌, ◌++◌, drop, length, arith}
use Rattle.std.proofs.lemmas.List.{drop_all}
use Rattle.mc_fields.specs.Reading.{hex_at}
use Rattle.mc_fields.proofs.HexLoop.{byte_at_place, hex_goes_on, hex_is_read}
use Rattle.mc_fields.proofs.digits.read_places.Goals as goal

pub loop-i-preserved : goal.loop-i-preserved
loop-i-preserved g c = λ lt.
    let high_fits : c.digit_value-high.result < 16 = omega (arith, lt, c.greater-most.ensures, c.greater.ensures) in
    let low_fits : c.digit_value-low.result < 16 = omega (arith, lt, c.greater-most.ensures, c.greater.ensures) in
    let most_fits : c.loop-i.most < 16 = omega (arith, lt, c.greater-most.ensures) in
    let within : 2 * c.loop-i.i + 1 < length c.split_at.result.0.now = omega (arith, c.split_at.ensures.front_len, c.loop-i-test.true) in
    let byte_is : (c.digit_value-high.result * 16 % 256 + c.digit_value-low.result) % 256 ≡ c.digit_value-high.result * 16 + c.digit_value-low.result = omega (arith, high_fits, low_fits) in
    rw byte_is
    (hex_goes_on g.row.N c.loop-i.i c.loop-i.out (drop (2 * c.loop-i.i) c.split_at.result.0.now ++ c.split_at.result.1.now) (drop (2 * (c.loop-i.i + 1)) c.split_at.result.0.now ++ c.split_at.result.1.now)
    (c.digit_value-high.result * 16 + c.digit_value-low.result) (hex_at g.row.N c.args.bytes.now) c.loop-i-test.true
    (byte_at_place c.split_at.result.0.now c.split_at.result.1.now c.loop-i.i c.digit_value-high.result c.digit_value-low.result within (c.digit_value-high.ensures.digit high_fits) (c.digit_value-low.ensures.digit low_fits))
    (c.loop-i.invariant most_fits))

pub returns-then-most-lt16 : goal.returns-then-most-lt16
returns-then-most-lt16 g c =
    let at : hex_at g.row.N c.args.bytes.now ≡ _ = hex_is_read g.row.N c.loop-i.i c.loop-i.out (drop (2 * c.loop-i.i) c.split_at.result.0.now ++ c.split_at.result.1.now) (hex_at g.row.N c.args.bytes.now) c.loop-i-test.false (c.loop-i.invariant c.if-most-lt16.true) in
    rw (drop_all (2 * c.loop-i.i) c.split_at.result.0.now (omega (arith, c.split_at.ensures.front_len, c.loop-i-test.false))) at at
