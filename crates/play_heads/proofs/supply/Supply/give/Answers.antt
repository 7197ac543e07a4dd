use Rattle.std.proofs.Common.{◌≤◌, ◌<◌, ◌+◌, ◌-◌, ◌++◌, ◌∙◌, ℕ, List, take, slice_range, sym, ap, arith, append_assoc}
use Rattle.play_heads.specs.PlayHeads.{heads_from}
use Rattle.play_heads.proofs.SupplyLaws.{made_next}
use Rattle.play_heads.proofs.supply.Supply.give.Goals as goal

pub returns-clause-given : goal.returns-clause-given
returns-clause-given c =
    let s = c.self.inside in
    let out = c.write_head-self-inside.new.out in
    let len = c.write_head-self-inside.result in
    let part = c.give_part-2 in
    let none : s.length ≤ s.given = omega (arith, c.if-self.false) in
    let more : s.next < s.end = omega (arith, c.if-self-2.false, c.self.invariant.0) in
    let rest : List ℕ = heads_from (s.next + 1) (s.end - (s.next + 1)) in
    sym c.self.view_is
    ∙ made_next s.buffer out s.given s.length len s.next s.end none more c.write_head-self-inside.ensures.head
    ∙ ap (λ (l : List ℕ). l ++ rest) part.ensures.part
    ∙ append_assoc (take part.result part.new.buf) (slice_range out part.new.given len) rest
