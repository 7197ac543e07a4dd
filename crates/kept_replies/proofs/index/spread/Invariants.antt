use Rattle.std.proofs.Common.{◌≡◌, ℕ, ◌+◌, ◌<◌, ◌≤◌, Bool, true, [], drop, length, get_or}
use Rattle.std.specs.Prelude.{sum_by}
use Rattle.std.specs.List.{list_any}
use Rattle.kept_replies.specs.Index.{slot_leads, leads_in, taken_in, marks_in}
use Rattle.kept_replies.proofs.index.spread.Given as goal

-- the marks lead to what the buckets before the place lead to, and with those from the place on they are no more than
-- they were with all of them
abbrev pub invariant-loop-bucket : goal.invariant-loop-bucket
invariant-loop-bucket l = record {
  leads : (i t : ℕ) (p : ℕ → Bool) → i < l.bucket-index → list_any (slot_leads t p) (get_or l.buckets.items i []) ≡ true → leads_in l.wider.items l.older.items t p ≡ true;
  marks : marks_in l.wider.items l.older.items + sum_by taken_in (drop l.bucket-index l.buckets.items) ≤ marks_in l.initial.wider.items l.initial.older.items + sum_by taken_in l.buckets.items;
  count : length l.wider.items ≡ length l.initial.wider.items;
}
