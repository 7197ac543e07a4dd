use Rattle.std.proofs.Common.{◌≡◌, ap, subst, ◌∙◌, Ok, Err, Some, None}
use Rattle.mc_requests.specs.Requests.{Asked}
use Rattle.ledger_model.specs.Lines.{Refuse}
use Rattle.ledger_model.specs.Answer.{after_repeat}
use Rattle.house_state.specs.Verdicts.{accept_entry}
use Rattle.house_state.proofs.KeptNumbers.{found_number}
use Rattle.house_state.proofs.Tabled.{kept_number, unread, comes_again, is_new}
use Rattle.house_state.proofs.evaluating.evaluate_scrip.Goals as goal

pub returns-in-Err-clause-exact : goal.returns-in-Err-clause-exact
returns-in-Err-clause-exact g c h st trade kind =
    unread c.args.state.now.kept.keep h c.args.state.now.time c.args.limits c.args.q.now (Refuse c.in-Err.refusal) c.in-Err.ensures.read

pub returns-in-Some-clause-exact : goal.returns-in-Some-clause-exact
returns-in-Some-clause-exact g c h st trade kind =
    let is : Some c.in-Some.number ≡ kept_number c.args.state.now c.args.q.now = c.in-Some.ensures ∙ ap (kept_number c.args.state.now) c.request-request.ensures in
    comes_again st c.args.limits c.args.q.now c.in-Ok.scrip.now c.in-Some.number c.in-Ok.ensures.read is

pub returns-in-Some-clause-again : goal.returns-in-Some-clause-again
returns-in-Some-clause-again g c =
    let is : Some c.in-Some.number ≡ kept_number c.args.state.now c.args.q.now = c.in-Some.ensures ∙ ap (kept_number c.args.state.now) c.request-request.ensures in
    found_number c.args.state.now.kept c.args.state.now.time c.args.q.now c.in-Some.number is

pub returns-in-Ok-evaluate_new-clause-exact : goal.returns-in-Ok-evaluate_new-clause-exact
returns-in-Ok-evaluate_new-clause-exact g c h st trade kind =
    let b = c.args.state.now in
    let none : None ≡ kept_number b c.args.q.now = c.in-None.ensures ∙ ap (kept_number b) c.request-request.ensures in
    is_new st c.args.limits c.args.q.now c.in-Ok.scrip.now _ c.in-Ok.ensures.read none
    (subst (λ (p : Asked). Ok (accept_entry b.time p.target c.in-Ok-evaluate_new.authorization) ≡ after_repeat h b.time c.args.limits p c.in-Ok.scrip.now) c.request-request.ensures
    (c.in-Ok-evaluate_new.ensures.lines h st trade kind))

pub returns-in-Err-evaluate_new-clause-exact : goal.returns-in-Err-evaluate_new-clause-exact
returns-in-Err-evaluate_new-clause-exact g c h st trade kind =
    let b = c.args.state.now in
    let none : None ≡ kept_number b c.args.q.now = c.in-None.ensures ∙ ap (kept_number b) c.request-request.ensures in
    is_new st c.args.limits c.args.q.now c.in-Ok.scrip.now _ c.in-Ok.ensures.read none
    (subst (λ (p : Asked). Err (Refuse c.in-Err-evaluate_new.refusal) ≡ after_repeat h b.time c.args.limits p c.in-Ok.scrip.now) c.request-request.ensures
    (c.in-Err-evaluate_new.ensures.lines h st trade kind))
