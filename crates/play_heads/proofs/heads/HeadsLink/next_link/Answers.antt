use Rattle.std.proofs.Common.{refl, sym, subst, IsTrue, arith, ◌≡◌, ◌<◌, ◌+◌, ◌-◌, min}
use Rattle.mc_outside.specs.LinkView.{LinkView}
use Rattle.play_heads.proofs.ReceivingLaws.{taken_play}
use Rattle.play_heads.proofs.heads.HeadsLink.next_link.Goals as goal

pub returns-clause-moved : goal.returns-clause-moved
returns-clause-moved c =
    let old = c.args.self.now in
    let more : old.end < old.count = omega (arith, c.if-self.false, old.within) in
    let is : old.end + c.min.result ≡ old.end + min 1000 (old.count - old.end) = omega (arith, c.min.ensures) in
    record {
      count = refl;
      over = λ o. subst (λ (w : LinkView). IsTrue w.over) (sym c.note-2.ensures) o;
      plays = λ p. taken_play old.count old.end (old.end + c.min.result) old.supply c.between-self.result old.whole _ old.clock old.telling.told.view c.note-2.new.self.told.view c.are_whole-self.ensures more is c.between-self.ensures c.note-2.ensures p;
    }
