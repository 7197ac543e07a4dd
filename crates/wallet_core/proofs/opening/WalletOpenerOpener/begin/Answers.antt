use Rattle.std.proofs.Common.{arith}
use Rattle.mc_records.specs.Views.{entry}
use Rattle.wallet_core.proofs.FirstLaws.{founds_wallet}
use Rattle.wallet_core.proofs.opening.WalletOpenerOpener.begin.Goals as goal

pub new-requires-clause-wallet : goal.new-requires-clause-wallet
new-requires-clause-wallet c = founds_wallet (entry c.args.first.now) c.requires.kind

pub returns-clause-exact : goal.returns-clause-exact
returns-clause-exact c =
    let stands = c.new.ensures.stands in
    (stands.lawful.0, record { book = stands; time' = omega (arith, c.new.ensures.time) })
