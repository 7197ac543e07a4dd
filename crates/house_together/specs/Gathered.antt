-- What was gathered in a slot in its turn.
use Rattle.std.specs.Prelude.{◌≡◌, ℕ, ◌++◌, Bool, true, false, List}
use Rattle.mc_outside.specs.DiskView.{DiskView}
use Rattle.mc_outside.specs.LinkView.{LinkView, next_taken, none_left}
use Rattle.mc_requests.specs.declared.limits.Limits.{Limits}
use Rattle.ledger_model.specs.Histories.{History}
use Rattle.scrip_journal.specs.Batches.{InBatch}
use Rattle.millicent_http.specs.Held.{Held, nothing_held}
use Rattle.millicent_http.specs.Courses.{NoLink}
use Rattle.house_state.specs.Trade.{TradeView}
use Rattle.house_core.specs.BenchView.{BenchView}
use Rattle.house_core.specs.Bench.{state_of}
use Rattle.house_core.specs.Session.{State}
use Rattle.house_core.specs.Gathering.{IsAhead}
use Rattle.house_together.specs.Ahead.{TakesAhead}
use Rattle.house_together.specs.declared.slot.Gathered.{Gathered}
use Rattle.house_together.specs.declared.slot.Gathered.TheVariants as ends

-- the link on which an item is taken, and what is held of it: that which stands, or the next one
abbrev pub on_link : Bool → LinkView → LinkView
on_link true v = v
on_link false v = next_taken v

abbrev pub held_on : Bool → Held → Held
held_on true h = h
held_on false h = nothing_held

abbrev pub GathersSlot : {O T : Type 0} → (O → LinkView) → (O → DiskView) → (T → TradeView) → Limits → Bool → LinkView → State → History → History → ℕ → List ℕ → Held → BenchView T → InBatch O → List ℕ → Held → Gathered → Type 0
GathersSlot link disk trade limits stands v s h es at old held b batch new now (ends.Item taken) = TakesAhead link disk trade limits (on_link stands v) s h es at old (held_on stands held) b batch new now taken
GathersSlot link disk trade limits stands v s h es at old held b batch new now ends.Over = (stands ≡ false) × (link batch.disk ≡ none_left v) × IsAhead disk trade b batch h es × (state_of (h ++ es) b ≡ s) × (new ≡ old)
GathersSlot link disk trade limits stands v s h es at old held b batch new now ends.NoLink = (stands ≡ false) × NoLink v (link batch.disk) × IsAhead disk trade b batch h es × (state_of (h ++ es) b ≡ s) × (new ≡ old)
