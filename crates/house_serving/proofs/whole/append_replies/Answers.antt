use Rattle.std.proofs.Common.{inl, inr, refl, sym, ◌∙◌, arith}
use Rattle.millicent_http.specs.Takes.{item_of}
use Rattle.house_core.specs.Bench.{limits_of}
use Rattle.house_serving.proofs.ReplyingLemmas.{replying_starts, replying_goes_on, replying_closes, replying_ends}
use Rattle.house_serving.proofs.whole.append_replies.Goals as goal

pub loop-init : goal.loop-init
loop-init g c = record {
  limits = refl;
  replying = replying_starts g.T.Trade.trade (limits_of c.args.bench.now) c.args.moment c.args.link.now c.args.bench.now c.args.out.now.items c.requires;
}

pub loop-preserved : goal.loop-preserved
loop-preserved g c = record {
  limits = c.reply_to.ensures.limits ∙ c.loop.invariant.limits;
  replying = replying_goes_on g.T.Trade.trade (limits_of c.args.bench.now) (limits_of c.loop.bench) c.args.moment c.args.link.now c.loop.counter c.args.bench.now c.loop.bench c.reply_to.new.bench
      c.loop.rest.now c.in-Some.tail.now c.loop.out.items c.reply_to.new.out.items (item_of c.in-Some.item) c.loop.invariant.limits c.in-Some.ensures.some (sym c.closes.ensures ∙ c.if-closes.false)
      c.loop.invariant.replying c.in_ok-reply_to.ensures.stepped;
}

pub returns-then-closes-clause-replied : goal.returns-then-closes-clause-replied
returns-then-closes-clause-replied g c =
    replying_closes g.T.Trade.trade (limits_of c.args.bench.now) (limits_of c.loop.bench) c.args.moment c.args.link.now c.loop.counter c.args.bench.now c.loop.bench c.reply_to.new.bench
    c.loop.rest.now c.in-Some.tail.now c.loop.out.items c.reply_to.new.out.items (item_of c.in-Some.item) c.loop.invariant.limits c.loop-test.true c.in-Some.ensures.some (sym c.closes.ensures ∙ c.if-closes.true)
    c.loop.invariant.replying c.in_ok-reply_to.ensures.stepped

pub returns-in_default-clause-replied : goal.returns-in_default-clause-replied
returns-in_default-clause-replied g c =
    replying_ends g.T.Trade.trade (limits_of c.args.bench.now) c.args.moment c.args.link.now c.loop.counter c.args.bench.now c.loop.bench c.loop.rest.now c.loop.out.items
    (omega (arith, c.loop-test.true)) (inr c.in_default.ensures.none) c.loop.invariant.replying

pub returns-clause-replied : goal.returns-clause-replied
returns-clause-replied g c =
    replying_ends g.T.Trade.trade (limits_of c.args.bench.now) c.args.moment c.args.link.now c.loop.counter c.args.bench.now c.loop.bench c.loop.rest.now c.loop.out.items
    c.loop.auto.counter-end (inl (omega (arith, c.loop.auto.counter-end, c.loop-test.false))) c.loop.invariant.replying
