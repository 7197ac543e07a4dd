use Rattle.std.proofs.Common.{◌≡◌, ℕ, ◌+◌, ◌<◌, ◌≤◌, Bool, true, drop, length, get_or}
use Rattle.std.specs.Prelude.{sum_by}
use Rattle.kept_replies.specs.Index.{slot_leads, leads_in, counted, taken_in, marks_in}
use Rattle.kept_replies.proofs.index.spread_bucket.Given as goal

-- the marks lead to what they did, and to what the slots before the place lead to, and with those from the place on they
-- are no more than they were with all of them
abbrev pub invariant-loop-slot : goal.invariant-loop-slot
invariant-loop-slot l = record {
  kept : (t : ℕ) (p : ℕ → Bool) → leads_in l.initial.wider.items l.initial.older.items t p ≡ true → leads_in l.wider.items l.older.items t p ≡ true;
  leads : (t : ℕ) (p : ℕ → Bool) (k : ℕ) → k < l.slot-index → slot_leads t p (get_or l.bucket k 0) ≡ true → leads_in l.wider.items l.older.items t p ≡ true;
  marks : marks_in l.wider.items l.older.items + sum_by counted (drop l.slot-index l.bucket) ≤ marks_in l.initial.wider.items l.initial.older.items + taken_in l.bucket;
  count : length l.wider.items ≡ length l.initial.wider.items;
}
