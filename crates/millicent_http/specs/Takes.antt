-- What a reader of heads gives, as items of the link.
use Rattle.std.specs.Prelude.{◌≡◌, ◌↔◌, ◌⊎◌, ℕ, ◌+◌, ◌≤◌, length, min, Bool, true, List, [], ◌++◌}
use Rattle.mc_outside.specs.LinkView.{LinkView, after_recv, after_eof, Failed}
use Rattle.mc_requests.specs.Requests.{asked_of}
use Rattle.millicent_http.specs.declared.item.ItemRef.{ItemRef}
use Rattle.millicent_http.specs.declared.item.ItemRef.TheVariants.{Request as RequestItem, Refused as RefusedItem}
use Rattle.millicent_http.specs.declared.item.HeadOut.{HeadOut}
use Rattle.millicent_http.specs.declared.item.HeadOut.TheVariants.{Head, Refused, End, Fault}
use Rattle.millicent_http.specs.declared.item.After.{After}
use Rattle.millicent_http.specs.declared.item.After.TheVariants.{Close}
use Rattle.millicent_http.specs.Items.{Item, request, refused, closes, max_head, NextItem, EndsNoItem}
use Rattle.millicent_http.specs.Held.{Held}
use Rattle.millicent_http.specs.HeadRefusals.{as_refusal}
use Rattle.millicent_http.specs.declared.reader.TheConstants.{MAX_ITEMS}

abbrev pub item_of : ItemRef → Item
item_of (RequestItem q closing) = request (asked_of q) closing
item_of (RefusedItem f closing) = refused (as_refusal f) closing

-- The bytes begin with this item, which was taken off and counted. The link ends after it where the
-- item closes it or is the last that a link may have.
pub record TookItem (bytes : List ℕ) (given : ℕ) (item : Item) (after : After) (new : Held) : Type 0 where
  pub next : NextItem bytes item new.bytes
  pub given_is : new.given ≡ min (given + 1) MAX_ITEMS
  pub after_is : (after ≡ Close) ↔ ((closes item ≡ true) ⊎ (new.given ≡ MAX_ITEMS))

-- the next item of the bytes held was given
abbrev pub Gave : Held → HeadOut → Held → Type 0
Gave old (Head q after) new = (closing : Bool) × TookItem old.bytes old.given (request (asked_of q) closing) after new
Gave old (Refused f after) new = (closing : Bool) × TookItem old.bytes old.given (refused (as_refusal f) closing) after new
Gave old End new = ⊥
Gave old Fault new = ⊥

-- From these bytes held and this link, what was answered leads to what is held then and the link
-- then. At the link's end and at a fault the bytes held end no item, and stay.
abbrev pub LeadsTo : Held → HeadOut → Held → LinkView → LinkView → Type 0
LeadsTo old (Head q after) new before link = Gave old (Head q after) new × (link ≡ before)
LeadsTo old (Refused f after) new before link = Gave old (Refused f after) new × (link ≡ before)
LeadsTo old End new before link = (new ≡ old) × EndsNoItem old.bytes × (link ≡ after_eof before)
LeadsTo old Fault new before link = (new ≡ old) × EndsNoItem old.bytes × Failed before link

-- the bytes held, with these received behind them
abbrev pub with_more : Held → List ℕ → Held
with_more old got = record old { bytes = old.bytes ++ got }

-- No byte came that was not waited for: before the last piece came, the bytes held ended no item.
abbrev pub WaitedFor : List ℕ → List ℕ → Type 0
WaitedFor old got = (got ≡ []) ⊎ ((front : List ℕ) × (last : List ℕ) × (got ≡ front ++ last) × EndsNoItem (old ++ front))

-- Some bytes came, at most as many as a head may have, and with them the next item was given, or
-- the link was at its end, or it failed.
pub record Took (old : Held) (before : LinkView) (out : HeadOut) (new : Held) (link : LinkView) : Type 0 where
  pub got : List ℕ
  pub few : length got ≤ max_head
  pub waited : WaitedFor old.bytes got
  pub leads : LeadsTo (with_more old got) out new (after_recv got before) link
