use Rattle.std.proofs.Common.{refl, sym, subst, ap, IsTrue}
use Rattle.mc_outside.specs.LinkView.{LinkView, send}
use Rattle.play_heads.proofs.ReceivingLaws.{sent_comes, changed_play}
use Rattle.play_heads.proofs.heads.HeadsLink.send.Goals as goal

pub returns-clause-moved : goal.returns-clause-moved
returns-clause-moved c =
    let old = c.args.self.now in
    let bytes = c.args.bytes.now in
    record {
      count = refl;
      over = λ o. subst (λ (w : LinkView). IsTrue w.over) (sym c.note.ensures) o;
      plays = λ p. changed_play old.count old.end old.supply old.supply old.whole old.clock old.telling.told.view c.note.new.self.told.view (send bytes) (λ e. e) (sent_comes bytes old.supply old.count)
          (ap (λ (w : LinkView). w.sessions) c.note.ensures) (ap (λ (w : LinkView). w.readings) c.note.ensures) p;
    }
