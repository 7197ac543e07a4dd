use Rattle.std.proofs.Common.{◌<◌, length, sym, arith}
use Rattle.std.proofs.lemmas.Bool.{eqb-false}
use Rattle.mc_top.proofs.SayLemmas.{not_said}
use Rattle.mc_top.proofs.program.say.Goals as goal

pub returns-in-Err-clause-said : goal.returns-in-Err-clause-said
returns-in-Err-clause-said g c =
    let some : 0 < length c.args.line.now = omega (arith, eqb-false (length c.args.line.now) 0 (sym c.if-is_empty.ensures)) in
    not_said c.args.line.now (g.O.Link.link c.args.out) (g.O.Link.link c.say.new.self) some (record { same = c.in-Err.ensures.failed; rose = c.in-Err.ensures.cause.rose; part = c.in-Err.ensures.failed_said })
