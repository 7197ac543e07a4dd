use Rattle.std.proofs.Common.{arith, sym, ◌+◌, true, false, eqb}
use Rattle.mc_records.specs.PieceViews.{pieces_of}
use Rattle.slow_ledger.proofs.NewLaws.{first_more, first_of_more}
use Rattle.slow_ledger.proofs.stock.first_have_id.Goals as goal

pub returns-then-has_id : goal.returns-then-has_id
returns-then-has_id c =
    let there = first_more (pieces_of c.args.pieces.now) c.loop-k.k c.args.id true (omega arith) c.loop-k.invariant c.if-has_id.ensures in
    sym (first_of_more (pieces_of c.args.pieces.now) (c.loop-k.k + 1) c.args.count (λ i. eqb i c.args.id) (omega arith) there)

pub loop-k-preserved : goal.loop-k-preserved
loop-k-preserved c = first_more (pieces_of c.args.pieces.now) c.loop-k.k c.args.id false (omega arith) c.loop-k.invariant c.if-has_id.ensures
