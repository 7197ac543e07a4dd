use Rattle.wallet_core.proofs.DueLaws.{fit_pays}
use Rattle.wallet_core.proofs.renewing.renew_place.Goals as goal

pub returns-clause-pays : goal.returns-clause-pays
returns-clause-pays g c = rw (← c.wallet.view_is) (
    fit_pays c.wallet.inside.book c.args.vendor.now c.first_due.result c.first_due.ensures.pays)
