use Rattle.std.proofs.Common.{refl, sym, subst, ap, ◌∙◌, IsTrue, arith, rules, ◌≡◌, ◌<◌, ◌++◌, [], ℕ, List, length, take}
use Rattle.mc_outside.specs.LinkView.{LinkView, hear, ended}
use Rattle.play_heads.proofs.ReceivingLaws.{none_after, heard_comes, ended_comes, changed_play}
use Rattle.play_heads.proofs.heads.HeadsLink.recv.Goals as goal

pub returns-then-not-is_empty-clause-moved : goal.returns-then-not-is_empty-clause-moved
returns-then-not-is_empty-clause-moved c =
    let old = c.args.self.now in
    let left = c.give-n.new.self in
    let none : c.give-n.result ≡ 0 = omega (arith, c.if-n-eq0.true) in
    let room : 0 < length c.args.buf.now = search rules in
    let same : old.supply ≡ left = c.give-n.ensures.given ∙ ap (λ (n : ℕ). take n c.give-n.new.buf ++ left) none in
    let empty : left ≡ [] = sym same ∙ c.give-n.ensures.none none room in
    record {
      count = refl;
      over = λ o. subst (λ (w : LinkView). IsTrue w.over) (sym c.note.ensures) o;
      plays = λ p. changed_play old.count old.end old.supply left old.whole old.clock old.telling.told.view c.note.new.self.told.view ended (λ _. empty) (ended_comes old.supply left same empty old.count)
          (ap (λ (w : LinkView). w.sessions) c.note.ensures) (ap (λ (w : LinkView). w.readings) c.note.ensures) p;
    }

pub returns-else-n-eq0-clause-moved : goal.returns-else-n-eq0-clause-moved
returns-else-n-eq0-clause-moved c =
    let old = c.args.self.now in
    let left = c.give-n.new.self in
    let bytes : List ℕ = take c.give-n.result c.give-n.new.buf in
    record {
      count = refl;
      over = λ o. subst (λ (w : LinkView). IsTrue w.over) (sym c.note-else-n-eq0.ensures) o;
      plays = λ p. changed_play old.count old.end old.supply left old.whole old.clock old.telling.told.view c.note-else-n-eq0.new.self.told.view (hear bytes) (λ e. none_after bytes left (sym c.give-n.ensures.given ∙ e)) (heard_comes bytes old.supply left c.give-n.ensures.given old.count)
          (ap (λ (w : LinkView). w.sessions) c.note-else-n-eq0.ensures) (ap (λ (w : LinkView). w.readings) c.note-else-n-eq0.ensures) p;
    }
