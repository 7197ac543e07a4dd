use Rattle.std.proofs.Common.{◌∙◌, sym}
use Rattle.mc_requests.specs.Requests.{asked_of}
use Rattle.house_core.proofs.Refused.{counted_draw, counted_scrip}
use Rattle.house_core.proofs.answering.as_counted.Goals as goal

pub returns-in-Some : goal.returns-in-Some
returns-in-Some c h asked = c.without_scrip.ensures ∙ counted_draw h (asked_of c.args.q.now) c.in-Some.field-0 (sym c.in-Some.is ∙ asked)

pub returns-in-None : goal.returns-in-None
returns-in-None c h asked = counted_scrip h (asked_of c.args.q.now) (sym c.in-None.is ∙ asked)
