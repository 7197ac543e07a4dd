use Rattle.std.proofs.Common.{◌+◌, ◌^◌, ◌<◌, ◌≤◌, Some, None, sym, ap, ◌∙◌, refl, arith}
use Rattle.mc_requests.specs.declared.refusal.Refusal.TheVariants.{NoAccount, AccountFull}
use Rattle.ledger_model.specs.Pieces.{has_reference}
use Rattle.broker_ledger.proofs.TaskLaws.{put_nowhere, put_above, put_within, deposit_judged, deposit_allowed}
use Rattle.broker_ledger.proofs.broker_ledger.AccountLedger.deposit_task.Goals as goal

pub returns-in-None-clause-exact : goal.returns-in-None-clause-exact
returns-in-None-clause-exact c h stands =
    let new = ap (has_reference h) (sym c.bytes.ensures.value) ∙ (c.in_default.ensures.none h stands).0 refl in
    deposit_judged h c.args.moment c.args.name.now c.args.amount c.args.reference.now (Some NoAccount) new
    (put_nowhere h c.args.name.now c.args.amount (c.in-None.ensures.value h stands))

pub returns-then-balance-get-clause-exact : goal.returns-then-balance-get-clause-exact
returns-then-balance-get-clause-exact c h stands =
    let new = ap (has_reference h) (sym c.bytes.ensures.value) ∙ (c.in_default.ensures.none h stands).0 refl in
    let above : 2 ^ 60 < c.in-Some-standing.standing.balance + c.args.amount = omega (arith, c.if-balance-get.true, c.get.ensures.units, c.in-Some-standing.ensures.most) in
    deposit_judged h c.args.moment c.args.name.now c.args.amount c.args.reference.now (Some (AccountFull c.in-Some-standing.standing.balance)) new
    (put_above h c.args.name.now c.args.amount c.in-Some-standing.standing (c.in-Some-standing.ensures.value h stands) above)

pub returns-clause-exact : goal.returns-clause-exact
returns-clause-exact c h stands =
    let new = ap (has_reference h) (sym c.bytes.ensures.value) ∙ (c.in_default.ensures.none h stands).0 refl in
    let within : c.in-Some-standing.standing.balance + c.args.amount ≤ 2 ^ 60 = omega (arith, c.if-balance-get.false, c.get.ensures.units, c.in-Some-standing.ensures.most) in
    rw (c.bytes-2.ensures.value, c.get-2.ensures.units, c.bytes-3.ensures.value)
    (deposit_judged h c.args.moment c.args.name.now c.args.amount c.args.reference.now None new
    (put_within h c.args.name.now c.args.amount c.in-Some-standing.standing (c.in-Some-standing.ensures.value h stands) within))

pub returns-clause-allowed : goal.returns-clause-allowed
returns-clause-allowed c h stands =
    let new = ap (has_reference h) (sym c.bytes.ensures.value) ∙ (c.in_default.ensures.none h stands).0 refl in
    let within : c.in-Some-standing.standing.balance + c.args.amount ≤ 2 ^ 60 = omega (arith, c.if-balance-get.false, c.get.ensures.units, c.in-Some-standing.ensures.most) in
    rw (c.bytes-2.ensures.value, c.get-2.ensures.units, c.bytes-3.ensures.value)
    (deposit_allowed h c.args.moment c.args.name.now c.args.amount c.args.reference.now c.in-Some-standing.standing new (c.in-Some-standing.ensures.value h stands) within)
