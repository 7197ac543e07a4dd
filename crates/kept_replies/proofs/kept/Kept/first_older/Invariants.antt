use Rattle.std.proofs.Common.{◌≡◌, drop, find}
use Rattle.mc_requests.specs.Requests.{asked_of}
use Rattle.kept_replies.specs.Store.{is_repeat}
use Rattle.kept_replies.proofs.kept.Kept.first_older.Given as goal

-- none of the marks before the place leads to a repeat
abbrev pub invariant-loop-mark : goal.invariant-loop-mark
invariant-loop-mark l = find (is_repeat l.self l.now (asked_of l.q)) (drop l.mark-index l.older) ≡ find (is_repeat l.self l.now (asked_of l.q)) l.older
