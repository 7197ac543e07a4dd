use Rattle.std.proofs.Common.{◌≡◌, Option, Some, None, IfSome, refl, sym, subst}
use Rattle.scrip_form.specs.Texts.{IsTarget}
use Rattle.mc_requests.specs.Errands.{Errand, errand_of}
use Rattle.slow_ledger.proofs.offers.errand_is_target.Goals as goal

pub returns : goal.returns
returns c = go (errand_of c.args.target.now) refl
  where
    go : (o : Option Errand) → errand_of c.args.target.now ≡ o → IfSome o (λ _. IsTarget c.args.target.now)
    go None is = tt
    go (Some e) is =
        let told = c.errands_are_texts.ensures.told c.args.target.now e is in
        subst IsTarget (sym told.1) (c.errands_are_texts.ensures.target e told.0)
