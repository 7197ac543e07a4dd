use Rattle.std.proofs.Common.{◌≡◌, arith}
use Rattle.play_heads.specs.Playing.{link_of}
use Rattle.play_heads.proofs.ReceivingLaws.{has_played, played_whole}
use Rattle.play_heads.proofs.heads.Heads.is_done.Goals as goal

pub returns-then-self : goal.returns-then-self
returns-then-self c =
    let h = c.args.self.now in
    record {
      done = λ p. (λ t. absurd (cc t), λ q. let k = played_whole h.count h.end h.supply h.whole h.clock (link_of h) p q in absurd (omega (arith, k.1, c.if-self.true)));
    }

pub returns : goal.returns
returns c =
    let h = c.args.self.now in
    let all : h.end ≡ h.count = omega (arith, c.if-self.false) in
    record {
      done = λ p. (
        λ t. let k = c.are_whole.ensures.0 t in has_played h.count h.end h.supply h.whole h.clock (link_of h) k.0 all k.1 p,
        λ q. let k = played_whole h.count h.end h.supply h.whole h.clock (link_of h) p q in c.are_whole.ensures.1 (k.0, k.2),
      );
    }
