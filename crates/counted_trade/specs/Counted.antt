-- What a counted trade means: what its inner one means, and what was counted beside it.
use Rattle.std.specs.Prelude.{ℕ, List}
use Rattle.mc_records.specs.Entry.{Entry, Switch}
use Rattle.ledger_model.specs.Histories.{History}
use Rattle.house_state.specs.Learning.{Test}
use Rattle.house_state.specs.Trade.{TradeView}
use Rattle.settle_core.specs.Settlement.{IsInOrder}
use Rattle.counted_trade.specs.CountedView.{CountedView}
use Rattle.counted_trade.specs.Counts.{CountsRepresent, HasRoomToCount}

-- both represent a history
pub record BothRepresent {T : Type 0} (trade : T → TradeView) (c : CountedView T) (h : History) : Type 0 where
  pub inner' : (trade c.inner).represents h
  pub counts' : CountsRepresent c.counts h

-- both have room for an entry
pub record BothHaveRoom {T : Type 0} (trade : T → TradeView) (c : CountedView T) (e : Entry) : Type 0 where
  pub inner' : (trade c.inner).has_room e
  pub counts' : HasRoomToCount c.counts e

-- for a Switch, which needs none where the inner one needs none
pub switch_room : {T : Type 0} (trade : T → TradeView) (c : CountedView T) (m : ℕ) (chain : List ℕ) → (trade c.inner).has_room (Switch m chain) → BothHaveRoom trade c (Switch m chain)
switch_room trade c m chain inner = record {
  inner' = inner;
  counts' = record { terms' = tt; licences' = tt; sums' = record { redeemed' = tt; sold' = tt }; stated' = tt; paid' = tt };
}

-- it is a trade of the inner one's site, and has the contents that the inner one has
abbrev pub counted_view : {T : Type 0} → (T → TradeView) → CountedView T → TradeView
counted_view trade c = record {
  represents = BothRepresent trade c;
  site = (trade c.inner).site;
  has_room = BothHaveRoom trade c;
  holds = (trade c.inner).holds;
}

-- a note passes where it passes the inner trade's test, and is in order
pub record PassesBoth (inner : Test) (h : History) (e : Entry) : Type 0 where
  pub inner' : inner h e
  pub in_order : IsInOrder h e
