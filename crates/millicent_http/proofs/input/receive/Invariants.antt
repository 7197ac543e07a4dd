use Rattle.std.proofs.Common.{◌≡◌, ◌≤◌, ◌-◌, length, take}
use Rattle.std.specs.Prelude.{IsTrue}
use Rattle.mc_outside.specs.LinkView.{after_recv}
use Rattle.millicent_http.proofs.input.receive.Given as goal

abbrev pub invariant-loop-len : goal.invariant-loop-len
invariant-loop-len g l = record {
  within : l.len ≤ length l.buf;
  size : length l.buf ≡ length l.fn.buf;
  moved : g.K.Link.link_moved l.fn.k l.k;
  link : g.K.Link.link l.k ≡ after_recv (take l.len l.buf) (g.K.Link.link l.fn.k);
  stands : IsTrue (g.K.Link.link l.k).stands;
}

abbrev pub decreases-loop-len : goal.decreases-loop-len
decreases-loop-len g l = length l.buf - l.len
