use Rattle.std.proofs.Common.{◌≡◌, drop}
use Rattle.std.specs.List.{list_any}
use Rattle.mc_requests.specs.Requests.{asked_of}
use Rattle.kept_replies.specs.Index.{slot_leads}
use Rattle.kept_replies.specs.Store.{is_repeat}
use Rattle.kept_replies.proofs.kept.Kept.first_in.Given as goal

-- none of the slots before the place leads to a repeat
abbrev pub invariant-loop-slot : goal.invariant-loop-slot
invariant-loop-slot l =
    list_any (slot_leads l.tag (is_repeat l.self l.now (asked_of l.q))) (drop l.slot-index l.slots) ≡ list_any (slot_leads l.tag (is_repeat l.self l.now (asked_of l.q))) l.slots
