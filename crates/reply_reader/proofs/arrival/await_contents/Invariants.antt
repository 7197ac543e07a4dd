use Rattle.std.proofs.Common.{◌≡◌, ◌⊎◌, ◌-◌, ◌≤◌, ◌<◌, ℕ, length, take}
use Rattle.std.specs.Prelude.{slice_range}
use Rattle.mc_outside.specs.LinkView.{after_recv}
use Rattle.reply_reader.proofs.arrival.await_contents.Given as goal

abbrev pub invariant-loop-held : goal.invariant-loop-held
invariant-loop-held g l = record {
  size : length l.buf.items ≡ length l.fn.buf.items;
  moved : g.K.Link.link_moved l.fn.k l.k;
  order : l.fn.held ≤ l.held;
  within : l.held ≤ length l.buf.items;
  front : take l.fn.held l.buf.items ≡ take l.fn.held l.fn.buf.items;
  link : g.K.Link.link l.k ≡ after_recv (slice_range l.buf.items l.fn.held l.held) (g.K.Link.link l.fn.k);
  waited : (l.held ≡ l.fn.held) ⊎ ((last : ℕ) × (l.fn.held ≤ last) × (last ≤ l.held) × (last < l.whole));
}

abbrev pub decreases-loop-held : goal.decreases-loop-held
decreases-loop-held g l = l.whole - l.held
