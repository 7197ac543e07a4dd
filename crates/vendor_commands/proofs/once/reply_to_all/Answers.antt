use Rattle.millicent_http.specs.Steps.{IsSession}
use Rattle.house_core.specs.Session.{Step}
use Rattle.vendor_commands.specs.Opening.{opening}
use Rattle.vendor_commands.proofs.CourseLemmas.{at_opening, on_ok}
use Rattle.vendor_commands.proofs.once.reply_to_all.Goals as goal

pub returns : goal.returns
returns c =
    let is = c.in_ok-bench.ensures in
    let h = opening c.args.shop.now in
    on_ok (λ went.
    let by = (went h is.house).related in
    (by.0, by.2.0, at_opening (λ limits moment s. IsSession (Step limits) moment c.args.link.now s by.0) h _ _ _ is.limits c.clamped.ensures is.time by.2.1))
    c.reply_to_link.result c.reply_to_link.ensures.replied
