use Rattle.std.proofs.Common.{◌≡◌, ℕ, List, length, ap, arith}
use Rattle.settle_core.specs.Claims.{payment_text}
use Rattle.settle_core.proofs.NoteOrders.{payment_short}
use Rattle.settle_commands.proofs.settling.put_paid.Goals as goal

pub put-requires-2 : goal.put-requires-2
put-requires-2 c =
    let short = payment_short c.args.statement.now.payment c.requires.fits.payment' in
    let same : length c.payment_in.result.now ≡ length (payment_text c.args.statement.now.payment) = ap (λ (xs : List ℕ). length xs) c.payment_in.ensures in
    omega (arith, c.requires.room, c.put.ensures.len, c.put.ensures.capacity, short, same)

pub put-requires-3 : goal.put-requires-3
put-requires-3 c =
    let short = payment_short c.args.statement.now.payment c.requires.fits.payment' in
    let same : length c.payment_in.result.now ≡ length (payment_text c.args.statement.now.payment) = ap (λ (xs : List ℕ). length xs) c.payment_in.ensures in
    omega (arith, c.requires.room, c.put.ensures.len, c.put.ensures.capacity, c.put-2.ensures.len, c.put-2.ensures.capacity, short, same)
