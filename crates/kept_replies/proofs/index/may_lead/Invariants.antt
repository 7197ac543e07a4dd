use Rattle.std.proofs.Common.{◌≡◌, ℕ, ◌<◌, Bool, true, get_or}
use Rattle.kept_replies.specs.Index.{slot_leads}
use Rattle.kept_replies.proofs.index.may_lead.Given as goal

-- a slot before the place that leads was seen
abbrev pub invariant-loop-slot : goal.invariant-loop-slot
invariant-loop-slot l = (p : ℕ → Bool) (k : ℕ) → k < l.slot-index → slot_leads l.tag p (get_or l.slots k 0) ≡ true → l.may ≡ true
