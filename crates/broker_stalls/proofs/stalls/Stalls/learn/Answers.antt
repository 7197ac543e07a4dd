use Rattle.std.proofs.Common.{refl}
use Rattle.mc_records.specs.Views.{entry}
use Rattle.broker_stalls.proofs.VendorLaws.{none_learned, is_of_none}
use Rattle.broker_stalls.proofs.stalls.Stalls.learn.Goals as goal

pub returns-in-Licence-clause-exact : goal.returns-in-Licence-clause-exact
returns-in-Licence-clause-exact c h stands = rw c.in-Licence.is (c.license.ensures.exact h stands)

pub returns-in-Stock-clause-exact : goal.returns-in-Stock-clause-exact
returns-in-Stock-clause-exact c h stands = rw c.in-Stock.is (c.stock.ensures.exact h stands)

pub returns-in-Stock-clause-learned : goal.returns-in-Stock-clause-learned
returns-in-Stock-clause-learned c most h stands answer ok = rw c.in-Stock.is (c.stock.ensures.learned h c.in-Stock.moment stands ok)

pub returns-in-Accept-clause-learned : goal.returns-in-Accept-clause-learned
returns-in-Accept-clause-learned c most h stands answer ok =
    rw c.in-Accept.is (c.sell.ensures most h c.in-Accept.scrip.now c.in-Accept.sign c.in-Accept.price c.in-Accept.change stands (rw c.in-Accept.is at answer))

pub returns-in_default : goal.returns-in_default
returns-in_default c =
    let quiet = is_of_none c.args.r.now c.in_default.not-Accept c.in_default.not-Licence c.in_default.not-Stock in
    record {
      exact = λ h stands. (λ ok. quiet.allowed h, λ may. refl);
      learned = λ most h stands answer ok. none_learned c.args.self.now h (entry c.args.r.now) quiet.names quiet.no_sale stands;
      same = λ h stands fails. stands;
    }
