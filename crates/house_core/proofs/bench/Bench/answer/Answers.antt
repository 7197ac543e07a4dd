use Rattle.std.proofs.Common.{◌≡◌, ◌<◌, ◌∙◌, Err, sym, ap, subst}
use Rattle.ledger_model.specs.Answer.{answer}
use Rattle.ledger_model.specs.Histories.{History}
use Rattle.house_state.specs.HouseState.{HouseStateView}
use Rattle.house_core.specs.Bench.{Accepts, HasContents, IsHouse, KeepsContents, Reaches, Represents, house_time, limits_of}
use Rattle.house_core.specs.BenchView.{BenchView}
use Rattle.house_core.specs.Session.{State}
use Rattle.house_core.specs.declared.fault.BenchFault.{BenchFault}
use Rattle.house_core.specs.declared.tally.Tally.{Tally}
use Rattle.house_state.specs.Trade.{TradeView}
use Rattle.house_core.proofs.Said.{said_of, says, counted_beside}
use Rattle.house_core.proofs.bench.Bench.answer.Goals as goal
use Rattle.house_core.proofs.bench.Bench.answer.Goals.{in-Ok, in-Err-Refused, in-Err-NoMemory}

-- what is seen of it, with another tally
with_tally : {T : Type 0} (trade : T → TradeView) (P : State → Type 0) (v b : BenchView T) (tally : Tally) → v ≡ b → Reaches trade P b → Reaches trade P (record v { tally = tally })
with_tally {T = T} trade P v b tally is came = subst (λ (x : BenchView T). Reaches trade P (record x { tally = tally })) (sym is) (counted_beside trade P b tally came)

pub returns-clause-went : goal.returns-clause-went
returns-clause-went g c = λ h house.
    let answers = c.respond-answered.ensures in
    let tally = c.respond-answered.new.tally in
    let said : c.match-answered.result ≡ said_of c.respond-answered.result = elim c.match-answered.branch [
      | in-Ok w ↦ w.result-is ∙ ap said_of (sym w.in-Ok.is)
      | in-Err-Refused w ↦ w.result-is ∙ ap said_of (sym (w.in-Err-Refused.is ∙ ap (λ (f : BenchFault). Err f) w.in-Err-Refused.field-0-is))
      | in-Err-NoMemory w ↦ w.result-is ∙ ap said_of (sym (w.in-Err-NoMemory.is ∙ ap (λ (f : BenchFault). Err f) w.in-Err-NoMemory.field-0-is))
    ] in
    let old : BenchView g.row.T.Denot = record { state = c.self.inside.state; trade = c.self.inside.trade; tally = c.self.inside.tally } in
    let kept : HouseStateView → BenchView g.row.T.Denot = λ s. record { state = s; trade = c.self.inside.trade; tally = c.self.inside.tally } in
    let now = c.respond-answered.new.self in
    let seen : old ≡ c.raise.new.self = c.self.view_is in
    let at : house_time now ≡ house_time c.raise.new.self = answers.time ∙ ap (λ (s : HouseStateView). s.time) c.keep_some.ensures.rest ∙ ap (λ (b : BenchView g.row.T.Denot). house_time b) seen in
    -- a house that has its contents keeps replies, and so stays as it is
    let same : (k : History) → HasContents g.T.Trade.trade c.raise.new.self k → kept c.keep_some.new.self ≡ c.raise.new.self = λ k has.
    ap kept (c.keep_some.ensures.same (subst (λ (b : BenchView g.row.T.Denot). 0 < b.state.kept.keep) (sym seen) has.some)) ∙ seen in
    let exact : (k : History) → IsHouse g.T.Trade.trade c.raise.new.self k → Accepts g.T.Trade.trade now k (answer k (house_time c.raise.new.self) (limits_of c.raise.new.self) c.args.q.now) c.respond-answered.result = λ k is.
    subst (λ (b : BenchView g.row.T.Denot). IsHouse g.T.Trade.trade b k → Accepts g.T.Trade.trade now k (answer k (house_time b) (limits_of b) c.args.q.now) c.respond-answered.result) (same k is.contents) (answers.exact k) is in
    let contents : (k : History) → Represents g.T.Trade.trade c.raise.new.self k → HasContents g.T.Trade.trade c.raise.new.self k
    → KeepsContents g.T.Trade.trade now k (answer k (house_time c.raise.new.self) (limits_of c.raise.new.self) c.args.q.now) c.respond-answered.result = λ k st has.
    subst (λ (b : BenchView g.row.T.Denot). Represents g.T.Trade.trade b k → HasContents g.T.Trade.trade b k → KeepsContents g.T.Trade.trade now k (answer k (house_time b) (limits_of b) c.args.q.now) c.respond-answered.result) (same k has) (answers.contents k) st has in
    let came = says g.T.Trade.trade c.args.self.now c.raise.new.self now c.args.reading c.args.q.now c.respond-answered.result c.raise.ensures.raised c.raise.ensures.limits
    at c.raise.ensures.same c.raise.ensures.contents exact contents h house in
    rw said (with_tally g.T.Trade.trade _ _ _ tally c.self-2.view_is came)
