use Rattle.std.proofs.Common.{arith, sym, ◌+◌, true, false}
use Rattle.mc_records.specs.PieceViews.{pieces_of}
use Rattle.mc_records.specs.Entry.{Held}
use Rattle.wallet_model.specs.Newness.{are_one_piece}
use Rattle.slow_wallet.proofs.Steps.{listed_next, listed_all}
use Rattle.slow_wallet.proofs.newness.is_listed.Goals as goal

pub returns-then-is_listed_at : goal.returns-then-is_listed_at
returns-then-is_listed_at c =
    let test = λ (p : Held). are_one_piece p.text c.args.text.now in
    sym (listed_all test (pieces_of c.args.pieces.now) (c.loop-k.k + 1) c.args.count (omega arith) (listed_next test (pieces_of c.args.pieces.now) c.loop-k.k true (omega arith) c.loop-k.invariant c.if-is_listed_at.ensures))

pub loop-k-preserved : goal.loop-k-preserved
loop-k-preserved c =
    let test = λ (p : Held). are_one_piece p.text c.args.text.now in
    listed_next test (pieces_of c.args.pieces.now) c.loop-k.k false (omega arith) c.loop-k.invariant c.if-is_listed_at.ensures
