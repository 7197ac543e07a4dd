use Rattle.std.proofs.Common.{◌≡◌, ◌∙◌, ◌++◌, sym, ap, Result, Ok, Err, ℕ, subst}
use Rattle.std.specs.Prelude.{max}
use Rattle.ledger_model.specs.Answer.{answer}
use Rattle.mc_requests.specs.declared.refusal.Refusal.TheVariants as refusals
use Rattle.house_state.specs.HouseState.{HouseStateView}
use Rattle.house_core.specs.declared.fault.BenchFault.{BenchFault}
use Rattle.house_core.specs.Bench.{house_time, limits_of, state_of}
use Rattle.house_core.specs.Session.{raised, Says}
use Rattle.house_core.specs.Gathering.{ReachesAhead}
use Rattle.house_core.proofs.Said.{said_of}
use Rattle.house_core.proofs.GatheringLemmas.{says_ahead}
use Rattle.house_core.proofs.bench.Bench.answer_into.Goals as goal

pub returns-in-Ok-clause-went : goal.returns-in-Ok-clause-went
returns-in-Ok-clause-went g c h es ahead =
    let said = says_ahead g.D.Disk.disk g.T.Trade.trade c.args.self.now _ c.raise.new.self c.respond_into.new.self c.keep_some.new.self c.args.batch.now c.respond_into.new.batch c.args.reading c.args.q.now c.respond_into.result
    c.self.view_is c.raise.ensures.raised c.raise.ensures.limits c.raise.ensures.same c.raise.ensures.contents c.keep_some.ensures.same c.respond_into.ensures.time (ap (λ (s : HouseStateView). s.time) c.keep_some.ensures.rest)
    c.respond_into.ensures.exact c.respond_into.ensures.contents c.respond_into.ensures.gathered h es ahead in
    subst (λ (r : Result ℕ BenchFault). ReachesAhead g.D.Disk.disk g.T.Trade.trade (Says (answer (h ++ es) (max (house_time c.args.self.now) c.args.reading) (limits_of c.args.self.now) c.args.q.now) (said_of r) (raised (state_of (h ++ es) c.args.self.now) c.args.reading)) c.respond_into.new.self c.respond_into.new.batch h) c.in-Ok.is said

pub returns-in-Err-Refused-clause-went : goal.returns-in-Err-Refused-clause-went
returns-in-Err-Refused-clause-went g c h es ahead =
    let said = says_ahead g.D.Disk.disk g.T.Trade.trade c.args.self.now _ c.raise.new.self c.respond_into.new.self c.keep_some.new.self c.args.batch.now c.respond_into.new.batch c.args.reading c.args.q.now c.respond_into.result
    c.self.view_is c.raise.ensures.raised c.raise.ensures.limits c.raise.ensures.same c.raise.ensures.contents c.keep_some.ensures.same c.respond_into.ensures.time (ap (λ (s : HouseStateView). s.time) c.keep_some.ensures.rest)
    c.respond_into.ensures.exact c.respond_into.ensures.contents c.respond_into.ensures.gathered h es ahead in
    subst (λ (r : Result ℕ BenchFault). ReachesAhead g.D.Disk.disk g.T.Trade.trade (Says (answer (h ++ es) (max (house_time c.args.self.now) c.args.reading) (limits_of c.args.self.now) c.args.q.now) (said_of r) (raised (state_of (h ++ es) c.args.self.now) c.args.reading)) c.respond_into.new.self c.respond_into.new.batch h) (c.in-Err-Refused.is ∙ ap (λ (f : BenchFault). Err f) c.in-Err-Refused.field-0-is) said

pub returns-in-Err-NoMemory-clause-went : goal.returns-in-Err-NoMemory-clause-went
returns-in-Err-NoMemory-clause-went g c h es ahead =
    let said = says_ahead g.D.Disk.disk g.T.Trade.trade c.args.self.now _ c.raise.new.self c.respond_into.new.self c.keep_some.new.self c.args.batch.now c.respond_into.new.batch c.args.reading c.args.q.now c.respond_into.result
    c.self.view_is c.raise.ensures.raised c.raise.ensures.limits c.raise.ensures.same c.raise.ensures.contents c.keep_some.ensures.same c.respond_into.ensures.time (ap (λ (s : HouseStateView). s.time) c.keep_some.ensures.rest)
    c.respond_into.ensures.exact c.respond_into.ensures.contents c.respond_into.ensures.gathered h es ahead in
    subst (λ (r : Result ℕ BenchFault). ReachesAhead g.D.Disk.disk g.T.Trade.trade (Says (answer (h ++ es) (max (house_time c.args.self.now) c.args.reading) (limits_of c.args.self.now) c.args.q.now) (said_of r) (raised (state_of (h ++ es) c.args.self.now) c.args.reading)) c.respond_into.new.self c.respond_into.new.batch h) (c.in-Err-NoMemory.is ∙ ap (λ (f : BenchFault). Err f) c.in-Err-NoMemory.field-0-is) said
