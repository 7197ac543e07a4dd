use Rattle.std.proofs.Common.{refl}
use Rattle.play_heads.specs.PlayHeads.{paying_head}
use Rattle.play_heads.proofs.head.write_request.Goals as goal

pub returns-clause-head : goal.returns-clause-head
unfolding paying_head
returns-clause-head c = rw (c.put.ensures.put, c.put_scrip-at.ensures.text, c.put-at-3.ensures.put, c.put-at-2.ensures.put, c.put-at.ensures.put) refl
