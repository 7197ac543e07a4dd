use Rattle.std.proofs.Common.{refl, sym, subst, ap, IsTrue, arith, ◌≡◌, ◌+◌, ◌-◌, ◌^◌, min}
use Rattle.mc_outside.specs.LinkView.{LinkView}
use Rattle.play_heads.proofs.ReceivingLaws.{read_play}
use Rattle.play_heads.proofs.heads.HeadsLink.now.Goals as goal

pub returns-clause-moved : goal.returns-clause-moved
returns-clause-moved c =
    let old = c.args.self.now in
    let later : c.clamped-self.result ≡ min (old.clock + 1) (2 ^ 35 - 1) = omega (arith, c.clamped-self.ensures, c.seconds.ensures.seconds) in
    record {
      count = refl;
      over = λ o. subst (λ (w : LinkView). IsTrue w.over) (sym c.note.ensures) o;
      plays = λ p. read_play old.count old.end old.supply old.whole old.clock c.clamped-self.result old.telling.told.view c.note.new.self.told.view later
          (ap (λ (w : LinkView). w.sessions) c.note.ensures) (ap (λ (w : LinkView). w.readings) c.note.ensures) p;
    }
