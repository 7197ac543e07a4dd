-- A slot's part in the order of all slots' steps: an item of it is taken and answered in a round and replied to behind the commit,
-- or other slots work.
use Rattle.std.proofs.Common.{◌≡◌, ℕ, suc, ◌+◌, ◌≤◌, ◌<◌, Bool, true, false, List, [], ◌∷◌, ◌++◌, length, refl, sym, ap, ◌∙◌, subst, arith, append-nil}
use Rattle.std.specs.Prelude.{◌==◌, if◌then◌else◌}
use Rattle.mc_outside.specs.LinkView.{LinkView, after_recv}
use Rattle.millicent_http.specs.declared.clock.Clock.{Clock}
use Rattle.millicent_http.specs.declared.item.After.{After}
use Rattle.millicent_http.specs.Items.{Item}
use Rattle.millicent_http.specs.Held.{Held}
use Rattle.millicent_http.specs.Takes.{TookItem}
use Rattle.millicent_http.specs.Steps.{StepRelation, Did, state_after}
use Rattle.millicent_http.specs.Courses.{AreRead, with_readings}
use Rattle.link_turns.specs.declared.turn.Turn.{Turn}
use Rattle.link_turns.specs.Turns.{Sent, Turned}
use Rattle.link_turns.proofs.ItemLemmas.{item_answered}
use Rattle.link_turns.proofs.TurnLemmas.{item_turned}
use Rattle.link_turns.proofs.ServingLemmas.{IsServing}
use Rattle.link_rounds.specs.Together.{Tagged, state_at, at_slot, StepAt}
use Rattle.link_rounds.proofs.TogetherLemmas.{replied_so, step_at_more, at_slot-append}

-- ---- a turn of a slot

-- An item was taken on a slot's link and answered in memory by the step at this place; later, its reply was sent. That is one turn
-- of the link as when links are served one after another, over places in place of states.
pub round_turned : {S : Type 0} (Step : StepRelation S) (clock : Clock) (s : S) (all : List (Tagged S)) (n place : ℕ) (turn : Turn) (held now : Held) (v w link : LinkView) (more : List ℕ) (item : Item) (after : After) (reading : ℕ) (reply part : List ℕ)
    → TookItem (held.bytes ++ more) held.given item after now → AreRead clock (reading ∷ []) (after_recv more v).readings w.readings → w ≡ with_readings w.readings (after_recv more v)
    → n ≤ place → place < length all → Step (state_at s all place) reading item reply (state_at s all (suc place)) → Sent after reply turn part w link
    → Turned (StepAt Step s all) clock turn (record { sent = part; after = suc place } ∷ []) n held v now link
round_turned Step clock s all n place turn held now v w link more item after reading reply part took read rest later within step sent =
    item_turned (StepAt Step s all) clock turn (record { sent = part; after = suc place }) n held v (after_recv more v) more item after now link took refl
    (item_answered (StepAt Step s all) clock item after turn n (suc place) (after_recv more v) w link reading reply part read rest
    (record { place = place; later = later; next = refl; within = within; step = step }) sent)

-- ---- other slots' turns

-- a slot's link that is being served is so as the order goes on
pub serving_stays : {S : Type 0} (Step : StepRelation S) (clock : Clock) (s : S) (all more : List (Tagged S)) (ds : List (Did ℕ)) (n : ℕ) (before : LinkView) (h : Held) (now : LinkView) → IsServing (StepAt Step s all) clock ds n before h now → IsServing (StepAt Step s (all ++ more)) clock ds n before h now
serving_stays Step clock s all more ds n before h now so = record {
  got = so.got;
  items = so.items;
  read = so.read;
  opens = so.opens;
  len = so.len;
  few = so.few;
  replied = replied_so (StepAt Step s all) (StepAt Step s (all ++ more)) (step_at_more Step s all more) clock so.items ds n before.readings now.readings so.replied;
  link = so.link;
}

-- the steps of a slot with one of its own behind them
pub slot_more : {S : Type 0} (p : ℕ) (all : List (Tagged S)) (x : Tagged S) → (x.slot == p) ≡ true → at_slot p 0 (all ++ x ∷ []) ≡ at_slot p 0 all ++ record { sent = x.did.sent; after = suc (length all) } ∷ []
slot_more p all x is =
    let from_none : 0 + length all ≡ length all = omega arith in
    at_slot-append p 0 all (x ∷ [])
    ∙ ap (λ (l : List (Did ℕ)). at_slot p 0 all ++ l) (one (x.slot == p) (record { sent = x.did.sent; after = suc (0 + length all) }) is ∙ ap (λ (k : ℕ). record { sent = x.did.sent; after = suc k } ∷ []) from_none)
  where
    one : (b : Bool) (d : Did ℕ) → b ≡ true → (if◌then◌else◌ {A = List (Did ℕ)} b (d ∷ []) []) ≡ d ∷ []
    one true d on = refl
    one false d on = absurd (cc on)

-- and with one of another slot
pub slot_same : {S : Type 0} (p : ℕ) (all : List (Tagged S)) (x : Tagged S) → (x.slot == p) ≡ false → at_slot p 0 (all ++ x ∷ []) ≡ at_slot p 0 all
slot_same p all x other =
    at_slot-append p 0 all (x ∷ []) ∙ ap (λ (l : List (Did ℕ)). at_slot p 0 all ++ l) (none (x.slot == p) (record { sent = x.did.sent; after = suc (0 + length all) }) other) ∙ append-nil (at_slot p 0 all)
  where
    none : (b : Bool) (d : Did ℕ) → b ≡ false → (if◌then◌else◌ {A = List (Did ℕ)} b (d ∷ []) []) ≡ []
    none true d off = absurd (cc off)
    none false d off = refl

-- the last place of a slot's own steps is within the order, so a step behind all is a later one
pub slot_within : {S : Type 0} (p n m : ℕ) (all : List (Tagged S)) → m ≤ n → state_after m (at_slot p n all) ≤ n + length all
slot_within p n m [] within = omega (arith, within)
slot_within p n m (x ∷ xs) within = go (x.slot == p) (record { sent = x.did.sent; after = suc n }) refl (at_slot p (suc n) xs) (slot_within p (suc n) (suc n) xs (omega arith)) (slot_within p (suc n) m xs (omega (arith, within))) where
  go : (b : Bool) (d : Did ℕ) → d.after ≡ suc n → (rest : List (Did ℕ)) → state_after (suc n) rest ≤ suc n + length xs → state_after m rest ≤ suc n + length xs → state_after m (if◌then◌else◌ {A = List (Did ℕ)} b (d ∷ rest) rest) ≤ n + suc (length xs)
  go true d at rest own other = subst (λ (k : ℕ). state_after k rest ≤ n + suc (length xs)) (sym at) (omega (arith, own))
  go false d at rest own other = omega (arith, other)
