use Rattle.std.proofs.Common.{Ok, Err}
use Rattle.millicent_http.specs.declared.clock.Clock.TheVariants.{At}
use Rattle.house_core.specs.Session.{Step}
use Rattle.house_serving.specs.Served.{Served}
use Rattle.vendor_commands.specs.Opening.{opening}
use Rattle.vendor_commands.proofs.CourseLemmas.{at_opening, ended_early}
use Rattle.vendor_commands.proofs.once.serve_link.Goals as goal

pub serve_bench_by-requires : goal.serve_bench_by-requires
serve_bench_by-requires g c = record { house = (opening c.requires.0, c.requires.1.house) }

pub returns-in-Ok-clause-ended : goal.returns-in-Ok-clause-ended
returns-in-Ok-clause-ended g c shop is =
    let h = opening shop in
    let n = c.in-Ok.field-0 in
    let before = g.K.Link.link c.args.k.now in
    let after = g.K.Link.link c.serve_bench_by.new.k in
    let by = (c.in-Ok.ensures.served h is.house).related in
    (n, by.0, at_opening (λ limits moment s. Served (Step limits) (At moment) 1 (Ok n) by.0 s before after) h _ _ _ is.limits c.clamped.ensures is.time by.2)

pub returns-in-Err-clause-ended : goal.returns-in-Err-clause-ended
returns-in-Err-clause-ended g c shop is =
    let h = opening shop in
    let end = c.in-Err.end in
    let before = g.K.Link.link c.args.k.now in
    let after = g.K.Link.link c.serve_bench_by.new.k in
    let by = (c.in-Err.ensures.served h is.house).related in
    ended_early end shop by.0 before after (at_opening (λ limits moment s. Served (Step limits) (At moment) 1 (Err end) by.0 s before after) h _ _ _ is.limits c.clamped.ensures is.time by.2)

pub returns-in-Ok-clause-grown : goal.returns-in-Ok-clause-grown
returns-in-Ok-clause-grown g c = (g.met.K.Link.link_goes _ _ c.serve_bench_by.ensures.moved).faults

pub returns-in-Err-clause-grown : goal.returns-in-Err-clause-grown
returns-in-Err-clause-grown g c = (g.met.K.Link.link_goes _ _ c.serve_bench_by.ensures.moved).faults
