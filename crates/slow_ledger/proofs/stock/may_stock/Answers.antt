use Rattle.std.proofs.Common.{arith, refl, ◌∙◌, Bool, ◌&&◌, true, false, ℕ, List, option_map, unwrap_or}
use Rattle.std.specs.List.{list_all}
use Rattle.mc_records.specs.PieceViews.{pieces_of}
use Rattle.mc_records.specs.Entry.{Held}
use Rattle.ledger_model.specs.Stock.{held_piece, may_be_stock}
use Rattle.slow_ledger.proofs.SlowLaws.{from_next}
use Rattle.slow_ledger.proofs.stock.may_stock.Goals as goal

abbrev passes : List ℕ → Held → Bool
passes vendor x = unwrap_or (option_map (may_be_stock vendor) (held_piece x)) false

pub returns-then-not-may_stock_at : goal.returns-then-not-may_stock_at
returns-then-not-may_stock_at c =
    from_next (λ (a b : Bool). a && b) (passes c.args.vendor.now) (list_all (passes c.args.vendor.now)) (λ x xs. refl) (pieces_of c.args.pieces.now) c.loop-k.k false (omega arith) c.if-not-may_stock_at.ensures ∙ c.loop-k.invariant

pub loop-k-preserved : goal.loop-k-preserved
loop-k-preserved c =
    from_next (λ (a b : Bool). a && b) (passes c.args.vendor.now) (list_all (passes c.args.vendor.now)) (λ x xs. refl) (pieces_of c.args.pieces.now) c.loop-k.k true (omega arith) c.if-not-may_stock_at.ensures ∙ c.loop-k.invariant
