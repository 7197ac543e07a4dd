use Rattle.std.proofs.Common.{refl, arith}
use Rattle.mc_records.specs.Views.{entry}
use Rattle.wallet_book.proofs.BookLaws.{time_more}
use Rattle.wallet_core.proofs.opening.WalletOpenerOpener.learn.Goals as goal

pub returns-then-learn-clause-exact : goal.returns-then-learn-clause-exact
returns-then-learn-clause-exact c o h limits stands told room =
    let e = entry c.args.r.now in
    let learned = c.if-learn.ensures.exact h (c.reserve.ensures.same h stands.book) told room in
    (learned.0, record { book = learned.1; time' = omega (arith, c.if-learn.ensures.time refl, c.reserve.ensures.time, stands.time', time_more h e) })

pub returns-else-learn-clause-exact : goal.returns-else-learn-clause-exact
returns-else-learn-clause-exact c o h limits stands told room = c.if-learn.ensures.exact h (c.reserve.ensures.same h stands.book) told room
