use Rattle.std.proofs.Common.{◌<◌, ◌≤◌, Some, None, sym, ap, ◌∙◌, refl, arith}
use Rattle.mc_requests.specs.declared.refusal.Refusal.TheVariants.{NoAccount, PoorAccount}
use Rattle.ledger_model.specs.Pieces.{has_reference}
use Rattle.broker_ledger.proofs.TaskLaws.{taken_nowhere, taken_above, taken_within, withdraw_judged, withdraw_allowed}
use Rattle.broker_ledger.proofs.broker_ledger.AccountLedger.withdraw_task.Goals as goal

pub returns-in-None-clause-exact : goal.returns-in-None-clause-exact
returns-in-None-clause-exact c h stands =
    let new = ap (has_reference h) (sym c.bytes.ensures.value) ∙ (c.in_default.ensures.none h stands).0 refl in
    withdraw_judged h c.args.moment c.args.name.now c.args.amount c.args.reference.now (Some NoAccount) new
    (taken_nowhere h c.args.name.now c.args.amount (c.in-None.ensures.value h stands))

pub returns-then-balance-get-clause-exact : goal.returns-then-balance-get-clause-exact
returns-then-balance-get-clause-exact c h stands =
    let new = ap (has_reference h) (sym c.bytes.ensures.value) ∙ (c.in_default.ensures.none h stands).0 refl in
    let above : c.in-Some-standing.standing.balance < c.args.amount = omega (arith, c.if-balance-get.true, c.get.ensures.units) in
    withdraw_judged h c.args.moment c.args.name.now c.args.amount c.args.reference.now (Some (PoorAccount c.in-Some-standing.standing.balance)) new
    (taken_above h c.args.name.now c.args.amount c.in-Some-standing.standing (c.in-Some-standing.ensures.value h stands) above)

pub returns-clause-exact : goal.returns-clause-exact
returns-clause-exact c h stands =
    let new = ap (has_reference h) (sym c.bytes.ensures.value) ∙ (c.in_default.ensures.none h stands).0 refl in
    let within : c.args.amount ≤ c.in-Some-standing.standing.balance = omega (arith, c.if-balance-get.false, c.get.ensures.units) in
    rw (c.bytes-2.ensures.value, c.get-2.ensures.units, c.bytes-3.ensures.value)
    (withdraw_judged h c.args.moment c.args.name.now c.args.amount c.args.reference.now None new
    (taken_within h c.args.name.now c.args.amount c.in-Some-standing.standing (c.in-Some-standing.ensures.value h stands) within))

pub returns-clause-allowed : goal.returns-clause-allowed
returns-clause-allowed c h stands =
    let new = ap (has_reference h) (sym c.bytes.ensures.value) ∙ (c.in_default.ensures.none h stands).0 refl in
    let within : c.args.amount ≤ c.in-Some-standing.standing.balance = omega (arith, c.if-balance-get.false, c.get.ensures.units) in
    rw (c.bytes-2.ensures.value, c.get-2.ensures.units, c.bytes-3.ensures.value)
    (withdraw_allowed h c.args.moment c.args.name.now c.args.amount c.args.reference.now c.in-Some-standing.standing new (c.in-Some-standing.ensures.value h stands) within)
