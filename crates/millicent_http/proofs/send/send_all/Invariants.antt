use Rattle.std.proofs.Common.{◌≡◌, ◌≤◌, ◌-◌, length, take}
use Rattle.mc_outside.specs.LinkView.{after_send}
use Rattle.millicent_http.proofs.send.send_all.Given as goal

abbrev pub invariant-loop-sent : goal.invariant-loop-sent
invariant-loop-sent g l = record {
  within : l.sent ≤ length l.bytes;
  moved : g.K.Link.link_moved l.fn.k l.k;
  link : g.K.Link.link l.k ≡ after_send (take l.sent l.bytes) (g.K.Link.link l.fn.k);
}

abbrev pub decreases-loop-sent : goal.decreases-loop-sent
decreases-loop-sent g l = length l.bytes - l.sent
