use Rattle.std.proofs.Common.{arith, ◌∙◌, eqb, Some, None}
use Rattle.std.specs.Option.{option_or}
use Rattle.ledger_model.specs.declared.upgraded.Upgraded.{Upgraded}
use Rattle.ledger_model.specs.Houses.{upgrade_of, upgrade_in}
use Rattle.slow_ledger.proofs.SlowLaws.{from_next}
use Rattle.slow_ledger.proofs.Found.{found_in_cons}
use Rattle.slow_ledger.proofs.upgrades.slow_upgrade.Goals as goal

pub returns-in-Some : goal.returns-in-Some
returns-in-Some c =
    let vendor = c.args.vendor.now in
    from_next option_or _ (λ h. upgrade_in h vendor c.args.issuer) (found_in_cons (λ (u : Upgraded). eqb u.issuer c.args.issuer) (λ u. u.from) (upgrade_of vendor)) c.args.h.now c.loop-n.n (Some c.in-Some.from) (omega arith) c.in-Some.ensures ∙ c.loop-n.invariant

pub loop-n-preserved : goal.loop-n-preserved
loop-n-preserved c =
    let vendor = c.args.vendor.now in
    from_next option_or _ (λ h. upgrade_in h vendor c.args.issuer) (found_in_cons (λ (u : Upgraded). eqb u.issuer c.args.issuer) (λ u. u.from) (upgrade_of vendor)) c.args.h.now c.loop-n.n None (omega arith) c.in-None.ensures ∙ c.loop-n.invariant
