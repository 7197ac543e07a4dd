use Rattle.std.proofs.Common.{sym}
use Rattle.mc_world.proofs.Wallets.{opened_first, opened_more, founds}
use Rattle.mc_world.proofs.wallet.open.Goals as goal

pub new-book-requires-clause-wallet : goal.new-book-requires-clause-wallet
new-book-requires-clause-wallet c = founds c.args.history.now _ c.requires.book.lawful (sym c.in-Some.ensures.value)

pub loop-number-init : goal.loop-number-init
loop-number-init c = opened_first c.args.limits c.args.history.now _ c.new-book.result (sym c.in-Some.ensures.value) c.new-book.ensures.stands c.new-book.ensures.time c.new-book.ensures.limits

pub loop-number-preserved : goal.loop-number-preserved
loop-number-preserved c =
    opened_more c.args.limits c.args.history.now c.loop-number.number _ c.loop-number.book c.reserve.new.self c.learn.new.self c.learn.result c.requires.book (sym c.in-Some-get.ensures.value) c.loop-number.invariant
    c.reserve.ensures.time c.reserve.ensures.limits c.reserve.ensures.same c.if-not-learn.false c.learn.ensures.time c.learn.ensures.limits c.learn.ensures.exact
