use Rattle.std.proofs.Common.{◌≡◌, ◌-◌, length, take}
use Rattle.millicent_http.specs.Items.{max_head}
use Rattle.reply_reader.proofs.ArrivalLemmas.{Gathers, Knows}
use Rattle.reply_reader.proofs.arrival.await_head.Given as goal

abbrev pub invariant-pieces : goal.invariant-pieces
invariant-pieces g l = record {
  size : length l.buf.items ≡ length l.fn.buf.items;
  moved : g.K.Link.link_moved l.fn.k l.k;
  gathers : Gathers (g.K.Link.link l.fn.k) (g.K.Link.link l.k) l.buf.items l.held;
  knows : Knows (take max_head (take l.held l.buf.items)) l.skip l.searched;
}

abbrev pub decreases-pieces : goal.decreases-pieces
decreases-pieces g l = length l.buf.items - l.held
