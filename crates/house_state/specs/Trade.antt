-- What a history says of a trade.
use Rattle.std.specs.Prelude.{◌≡◌, ℕ, ◌<◌, true, List, ◌++◌, length, codes, decimal, Option, Some, None, option_map, option_and_then, slice_get}
use Rattle.scrip_form.specs.Scrip.{Scrip, scrip_text}
use Rattle.kept_replies.specs.declared.deed.Deed.{Deed}
use Rattle.kept_replies.specs.declared.deed.Deed.TheVariants as kept
use Rattle.mc_records.specs.Entry.{Entry, Goods}
use Rattle.ledger_model.specs.Histories.{History}
use Rattle.ledger_model.specs.Goods.{is_goods_of}
use Rattle.ledger_model.specs.Orders.{Order}
use Rattle.ledger_model.specs.Accounts.{key_in, balance, last_order}
use Rattle.ledger_model.specs.Answer.{draw_in}
use Rattle.ledger_model.specs.Replies.{Contents, brought, held_contents}
use Rattle.house_state.specs.declared.offer.DrawAsk.{DrawAsk}
use Rattle.house_state.specs.Views.{entry_deed}

-- ---- what a trade means

-- What a trade means to the house that carries it.
pub record TradeView : Type 1 where
  -- what it says is what this history says
  pub represents : History → Type 0
  -- the number of the kind of its site
  pub site : ℕ
  -- there is room to learn this entry
  pub has_room : Entry → Type 0
  -- it still has the contents of the Goods entry of this number
  pub holds : ℕ → Type 0

-- ---- what is asked and brought

-- what a draw asks for, with what a history says of its account
abbrev pub asked_of_account : History → Order → DrawAsk
asked_of_account h o = record {
  account = o.account;
  order = o.order;
  amount = o.amount;
  key = key_in h o.account;
  last = last_order h o.account;
  balance = balance h o.account;
}

-- The draw that a target asks for, with what a history says of its account. A vendor has no accounts.
abbrev pub draw_asked : History → List ℕ → Option DrawAsk
draw_asked h target = option_map (asked_of_account h) (draw_in h target)

-- the contents of a Goods entry; other entries have none
abbrev pub contents_in : Entry → Option Contents
contents_in (Goods m target price kind contents) = Some (record { kind = kind; bytes = contents })
contents_in _ = None

-- the line of a piece that is sold or drawn
unfoldable pub piece_brought : Scrip → List ℕ → List ℕ → Contents
piece_brought piece cert secret = held_contents (record { text = scrip_text piece cert; secret = secret })

-- What a kept deed brings: the contents of the Goods entry of its number, where there is one; the piece that was sold or
-- drawn; of a credit the balance as a line.
abbrev pub brought_by : History → Deed → Option Contents
brought_by h (kept.Goods number) = option_and_then contents_in (slice_get h number)
brought_by h (kept.Sale piece cert secret stock) = Some (piece_brought piece cert secret)
brought_by h (kept.Credit balance) = Some (record { kind = 1; bytes = decimal balance ++ codes "\n" })
brought_by h (kept.Draw piece cert secret) = Some (piece_brought piece cert secret)

-- a kept deed brings what the entry's deed brings where this target is asked for
abbrev pub BringsFor : History → List ℕ → Deed → Type 0
BringsFor h target d = brought_by h d ≡ Some (brought h target (entry_deed d))

-- ---- goods that are kept

-- what holds of the number of the Goods entry that a kept deed names; other deeds name none
abbrev pub OfGoods : (ℕ → Type 0) → Deed → Type 0
OfGoods P (kept.Goods number) = P number
OfGoods P _ = Unit {0}

-- the entry of number m replaces the goods of the one of number n: it puts goods at the same target
pub record Replaces (h : History) (n m : ℕ) : Type 0 where
  pub later : n < m
  pub target : List ℕ
  pub replaced : option_map (is_goods_of target) (slice_get h n) ≡ Some true
  pub replacing : option_map (is_goods_of target) (slice_get h m) ≡ Some true

-- no entry replaces the goods of entry n
abbrev pub IsInForce : History → ℕ → Type 0
IsInForce h n = (m : ℕ) → Replaces h n m → ⊥

-- what a kept deed names is goods of an entry that is there, which no entry replaces
abbrev pub NamesInForce : History → Deed → Type 0
NamesInForce h d = OfGoods (λ n. (n < length h) × IsInForce h n) d

-- A number lies behind the first one whose reply is kept. Where no reply is kept, none does.
abbrev pub LiesBehind : Option ℕ → ℕ → Type 0
LiesBehind None m = ⊥
LiesBehind (Some from) m = from < m

-- The goods of entry n are in force, or the reply of an entry from some number on may bring them:
-- every entry that replaces them lies behind that number.
abbrev pub IsKeptFrom : History → Option ℕ → ℕ → Type 0
IsKeptFrom h from n = (m : ℕ) → Replaces h n m → LiesBehind from m
