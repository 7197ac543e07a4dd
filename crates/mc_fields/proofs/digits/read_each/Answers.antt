use Rattle.std.proofs.Common.{ℕ, replicate}
use Rattle.std.proofs.lemmas.Result.{err_from_is_err_and}
use Rattle.std.proofs.lemmas.List.{length-replicate}
use Rattle.mc_fields.specs.Reading.{hex_at}
use Rattle.mc_fields.proofs.HexLoop.{hex_goes_on, hex_ends, hex_is_read, hex_starts}
use Rattle.mc_fields.proofs.digits.read_each.Goals as goal

pub loop-i-init : goal.loop-i-init
loop-i-init g c = hex_starts g.row.N (replicate g.row.N 0) c.args.bytes.now (length-replicate {A = ℕ} g.row.N 0)

pub returns-in_err-byte : goal.returns-in_err-byte
returns-in_err-byte g c =
    let p = err_from_is_err_and c.from_residual.result c.from_residual.ensures.1 in
    rw (p.1, p.2) (hex_ends g.row.N c.loop-i.i c.loop-i.out c.loop-i.rest.now c.in_err-byte.field-0.0.left (hex_at g.row.N c.args.bytes.now) c.loop-i-test.true c.in_err-byte.ensures c.loop-i.invariant)

pub loop-i-preserved : goal.loop-i-preserved
loop-i-preserved g c = hex_goes_on g.row.N c.loop-i.i c.loop-i.out c.loop-i.rest.now c.in_ok-byte.tail.now c.in_ok-byte.byte (hex_at g.row.N c.args.bytes.now) c.loop-i-test.true c.in_ok-byte.ensures c.loop-i.invariant

pub returns : goal.returns
returns g c = hex_is_read g.row.N c.loop-i.i c.loop-i.out c.loop-i.rest.now (hex_at g.row.N c.args.bytes.now) c.loop-i-test.false c.loop-i.invariant
