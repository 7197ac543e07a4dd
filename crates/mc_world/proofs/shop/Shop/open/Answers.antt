use Rattle.std.proofs.Common.{sym}
use Rattle.mc_world.proofs.Opening.{opened_first, opened_more, founds, first_may, first_kind}
use Rattle.mc_world.proofs.shop.Shop.open.Goals as goal

pub loop-number-init : goal.loop-number-init
loop-number-init g c =
    opened_first g.T.Trade.trade c.args.limits c.args.history _ c.in_ok-bench.bench (sym c.in-Some.ensures.value)
    c.in_ok-bench.ensures.holds c.in_ok-bench.ensures.contents c.in_ok-bench.ensures.time c.in_ok-bench.ensures.limits

pub loop-number-preserved : goal.loop-number-preserved
loop-number-preserved g c =
    opened_more g.T.Trade.trade g.T.Trade.passes c.args.limits c.args.history c.loop-number.number _ c.loop-number.bench c.replay.new.self c.in-Ok.field-0 c.requires.lawful c.requires.most (sym c.in-Some-get.ensures.value)
    c.loop-number.invariant c.in-Ok.ensures.exact c.in-Ok.ensures.contents c.replay.ensures.limits

pub new-requires-clause-site : goal.new-requires-clause-site
new-requires-clause-site g c =
    founds c.args.limits _ (first_may c.args.limits c.args.history _ c.requires.lawful (sym c.in-Some.ensures.value)) c.in-Some.ensures.fits

pub new-requires-clause-first : goal.new-requires-clause-first
new-requires-clause-first g c = first_may c.args.limits c.args.history _ c.requires.lawful (sym c.in-Some.ensures.value)

pub new-requires-clause-kind : goal.new-requires-clause-kind
new-requires-clause-kind g c = first_kind c.args.history _ _ (sym c.in-Some.ensures.value) c.requires.kind
