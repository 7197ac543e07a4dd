-- The trade's half of what makes an entry lawful, for a counted trade and its inner one.
use Rattle.std.proofs.Common.{ℕ}
use Rattle.mc_records.specs.Entry.{Entry, Note}
use Rattle.ledger_model.specs.Histories.{History}
use Rattle.house_state.specs.Learning.{Test, ByTrade, Passes}
use Rattle.settle_core.specs.Settlement.{IsInOrder}
use Rattle.counted_trade.specs.Counted.{PassesBoth}

-- the halves of two tests are the same but for what a note has to pass
half_by : (P Q : Test) (kind : ℕ) (h : History) (e : Entry) → (Passes P h e → Passes Q h e) → ByTrade P kind h e → ByTrade Q kind h e
half_by P Q kind h (Note m tag bytes) passes half = passes half
half_by P Q kind h e passes half = half

both : (P : Test) (h : History) (e : Entry) → IsInOrder h e → Passes P h e → Passes (PassesBoth P) h e
both P h (Note m tag bytes) order passes = record { inner' = passes; in_order = order }
both P h e order passes = tt

inner : (P : Test) (h : History) (e : Entry) → Passes (PassesBoth P) h e → Passes P h e
inner P h (Note m tag bytes) passes = passes.inner'
inner P h e passes = tt

-- what the inner trade allows and is in order, the counted one allows
pub both_halves : (P : Test) (kind : ℕ) (h : History) (e : Entry) → IsInOrder h e → ByTrade P kind h e → ByTrade (PassesBoth P) kind h e
both_halves P kind h e order half = half_by P (PassesBoth P) kind h e (both P h e order) half

-- and what the counted one allows, the inner one does
pub inner_half : (P : Test) (kind : ℕ) (h : History) (e : Entry) → ByTrade (PassesBoth P) kind h e → ByTrade P kind h e
inner_half P kind h e half = half_by (PassesBoth P) P kind h e (inner P h e) half

-- and it is in order
pub order_of : (P : Test) (kind : ℕ) (h : History) (e : Entry) → ByTrade (PassesBoth P) kind h e → IsInOrder h e
order_of P kind h (Note m tag bytes) half = half.in_order
order_of P kind h e half = record { stated = tt; paid = tt }
