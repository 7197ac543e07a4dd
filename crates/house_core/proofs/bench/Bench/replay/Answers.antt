use Rattle.std.proofs.Common.{◌∙◌, ap, ◌≡◌, ℕ, [], ◌∷◌, ◌++◌, IfOk, subst, arith}
use Rattle.mc_records.specs.Entry.{Accept, Draw}
use Rattle.mc_records.specs.Views.{deed_of}
use Rattle.house_core.specs.Bench.{HasContents, house_time}
use Rattle.house_core.specs.BenchView.{BenchView}
use Rattle.house_core.proofs.bench.Bench.replay.Goals as goal

pub returns-in-Accept-clause-contents : goal.returns-in-Accept-clause-contents
returns-in-Accept-clause-contents g c h st has =
    let is : c.moment-moment.result ≡ c.in-Accept.moment = rw c.in-Accept.is at c.moment-moment.ensures in
    let at : house_time c.raise.new.self ≡ c.in-Accept.moment = omega (arith, is, c.raise.ensures.raised, c.if-seconds.false, c.seconds.ensures.seconds, c.seconds-2.ensures.seconds, (c.time.ensures ∙ ap (λ (b : BenchView g.row.T.Denot). b.state.time) c.self.view_is)) in
    rw c.in-Accept.is (subst
    (λ (m : ℕ). IfOk c.replay_accept.result (λ u. HasContents g.T.Trade.trade c.replay_accept.new.self (h ++ Accept m c.in-Accept.scrip.now c.in-Accept.target.now c.in-Accept.sign c.in-Accept.price c.in-Accept.change (deed_of c.in-Accept.deed) ∷ [])))
    at (c.replay_accept.ensures.contents h (c.raise.ensures.same h st) (c.raise.ensures.contents h st has)))

pub returns-in_ok-replay_draw-in-Draw-clause-contents : goal.returns-in_ok-replay_draw-in-Draw-clause-contents
returns-in_ok-replay_draw-in-Draw-clause-contents g c h st has =
    let is : c.moment-moment.result ≡ c.in-Draw.moment = rw c.in-Draw.is at c.moment-moment.ensures in
    let at : house_time c.raise.new.self ≡ c.in-Draw.moment = omega (arith, is, c.raise.ensures.raised, c.if-seconds.false, c.seconds.ensures.seconds, c.seconds-2.ensures.seconds, (c.time.ensures ∙ ap (λ (b : BenchView g.row.T.Denot). b.state.time) c.self.view_is)) in
    rw c.in-Draw.is (subst
    (λ (m : ℕ). HasContents g.T.Trade.trade c.replay_draw.new.self (h ++ Draw m c.in-Draw.target.now c.in-Draw.sign c.in-Draw.drawn ∷ []))
    at (c.in_ok-replay_draw-in-Draw.ensures.contents h (c.raise.ensures.same h st) (c.raise.ensures.contents h st has)))
