use Rattle.std.proofs.Common.{List, sym, subst}
use Rattle.scrip_form.specs.Issuing.{Issuing}
use Rattle.counted_trade.specs.Licences.{TermsStand}
use Rattle.counted_trade.proofs.LicenceLaws.{terms_stand_on}
use Rattle.counted_trade.proofs.licences.Licences.reserve.Goals as goal

pub returns-clause-same : goal.returns-clause-same
returns-clause-same c h stand =
    subst (λ (ts : List Issuing). TermsStand c.reserve-2.new.self ts h) (sym c.reserve.ensures.items)
    (terms_stand_on c.args.self.now.places c.reserve-2.new.self c.args.self.now.terms.items h c.reserve-2.ensures.places stand)
