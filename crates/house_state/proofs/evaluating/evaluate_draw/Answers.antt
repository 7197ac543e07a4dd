use Rattle.std.proofs.Common.{◌≡◌, arith, Result, sym, ap, ◌∙◌, Ok, Err, Some, None}
use Rattle.mc_records.specs.Entry.{Draw}
use Rattle.mc_requests.specs.Requests.{asked_of}
use Rattle.ledger_model.specs.Accounts.{key_in}
use Rattle.ledger_model.specs.Lines.{Stop, Refuse, ◌>>=◌}
use Rattle.ledger_model.specs.Stages.{fitted_by, payable_by}
use Rattle.ledger_model.specs.Answer.{drawn, known_in, without_scrip}
use Rattle.house_state.specs.HouseState.{tail_of}
use Rattle.house_state.specs.declared.offer.DrawAsk.{DrawAsk}
use Rattle.house_state.proofs.KeptNumbers.{found_number}
use Rattle.house_state.proofs.Tabled.{kept_number, draw_comes_again, draws_on_none, payable_is, not_drawable, draw_goes_on, draw_series_full, draw_fitted}
use Rattle.house_state.proofs.evaluating.evaluate_draw.Goals as goal

pub returns-in-Some-clause-again : goal.returns-in-Some-clause-again
returns-in-Some-clause-again c =
    let is : Some c.in-Some.number ≡ kept_number c.args.state.now (without_scrip (asked_of c.args.q.now)) = c.in-Some.ensures ∙ ap (kept_number c.args.state.now) c.without_scrip.ensures in
    found_number c.args.state.now.kept c.args.state.now.time (without_scrip (asked_of c.args.q.now)) c.in-Some.number is

pub returns-in-Some-clause-exact : goal.returns-in-Some-clause-exact
returns-in-Some-clause-exact c h o st ask =
    let is : Some c.in-Some.number ≡ kept_number c.args.state.now (without_scrip (asked_of c.args.q.now)) = c.in-Some.ensures ∙ ap (kept_number c.args.state.now) c.without_scrip.ensures in
    draw_comes_again st c.args.limits (asked_of c.args.q.now) o c.in-Some.number is

pub returns-in-None-key-clause-exact : goal.returns-in-None-key-clause-exact
returns-in-None-key-clause-exact c h o st ask =
    let new : None ≡ kept_number c.args.state.now (without_scrip (asked_of c.args.q.now)) = c.in-None.ensures ∙ ap (kept_number c.args.state.now) c.without_scrip.ensures in
    let none : None ≡ key_in h o.account = sym c.in-None-key.is ∙ ap (λ (a : DrawAsk). a.key) ask in
    draws_on_none st c.args.limits (asked_of c.args.q.now) o new none

pub returns-in-Err-clause-exact : goal.returns-in-Err-clause-exact
returns-in-Err-clause-exact c h o st ask =
    let new : None ≡ kept_number c.args.state.now (without_scrip (asked_of c.args.q.now)) = c.in-None.ensures ∙ ap (kept_number c.args.state.now) c.without_scrip.ensures in
    let known : Some c.in-Some-key.key ≡ key_in h o.account = sym c.in-Some-key.is ∙ ap (λ (a : DrawAsk). a.key) ask in
    not_drawable st c.args.limits (asked_of c.args.q.now) o c.in-Some-key.key (Refuse c.in-Err.refusal) new known c.in-Err.ensures.lines

pub returns-in-Err-payable-clause-exact : goal.returns-in-Err-payable-clause-exact
returns-in-Err-payable-clause-exact c h o st ask =
    let t = c.args.state.now.time in
    let q = asked_of c.args.q.now in
    let new : None ≡ kept_number c.args.state.now (without_scrip q) = c.in-None.ensures ∙ ap (kept_number c.args.state.now) c.without_scrip.ensures in
    let known : Some c.in-Some-key.key ≡ key_in h o.account = sym c.in-Some-key.is ∙ ap (λ (a : DrawAsk). a.key) ask in
    let poor : Err (Refuse c.in-Err-payable.refusal) ≡ payable_by o (known_in h o.account) = c.in-Err-payable.ensures.lines ∙ payable_is h o c.args.ask.now ask in
    draw_goes_on st c.args.limits q o c.in-Some-key.key c.in-Ok.sign (Err (Refuse c.in-Err-payable.refusal)) new known c.in-Ok.ensures.lines
    (ap (λ (r : Result (Unit {0}) Stop). r >>= λ _. drawn h t c.args.limits q c.in-Ok.sign) poor)

pub returns-in-Err-next_own-clause-exact : goal.returns-in-Err-next_own-clause-exact
returns-in-Err-next_own-clause-exact c h o st ask =
    let t = c.args.state.now.time in
    let q = asked_of c.args.q.now in
    let new : None ≡ kept_number c.args.state.now (without_scrip q) = c.in-None.ensures ∙ ap (kept_number c.args.state.now) c.without_scrip.ensures in
    let known : Some c.in-Some-key.key ≡ key_in h o.account = sym c.in-Some-key.is ∙ ap (λ (a : DrawAsk). a.key) ask in
    let pays : Ok tt ≡ payable_by o (known_in h o.account) = c.in-Ok-payable.ensures.lines ∙ payable_is h o c.args.ask.now ask in
    let full = rw (c.own.ensures, c.time.ensures) at c.in-Err-next_own.ensures.lines in
    draw_goes_on st c.args.limits q o c.in-Some-key.key c.in-Ok.sign (Err (Refuse c.in-Err-next_own.refusal)) new known c.in-Ok.ensures.lines
    (draw_series_full st c.args.limits c.requires.series q c.in-Ok.sign (Refuse c.in-Err-next_own.refusal) full
    ∙ ap (λ (r : Result (Unit {0}) Stop). r >>= λ _. drawn h t c.args.limits q c.in-Ok.sign) pays)

pub returns-in-Err-fitted-clause-exact : goal.returns-in-Err-fitted-clause-exact
returns-in-Err-fitted-clause-exact c h o st ask =
    let t = c.args.state.now.time in
    let q = asked_of c.args.q.now in
    let e = Draw t q.target c.in-Ok.sign c.in-Ok-next_own.id in
    let new : None ≡ kept_number c.args.state.now (without_scrip q) = c.in-None.ensures ∙ ap (kept_number c.args.state.now) c.without_scrip.ensures in
    let known : Some c.in-Some-key.key ≡ key_in h o.account = sym c.in-Some-key.is ∙ ap (λ (a : DrawAsk). a.key) ask in
    let pays : Ok tt ≡ payable_by o (known_in h o.account) = c.in-Ok-payable.ensures.lines ∙ payable_is h o c.args.ask.now ask in
    let next = rw (c.own.ensures, c.time.ensures) at c.in-Ok-next_own.ensures.lines in
    let full : Err (Refuse c.in-Err-fitted.refusal) ≡ fitted_by c.args.limits.journal c.args.state.now.size (tail_of c.args.state.now) e =
    c.in-Err-fitted.ensures.lines e (c.draw_len-payload.ensures t c.in-Ok-next_own.id c.in-Ok.sign c.in-Ok.ensures.sign) in
    draw_goes_on st c.args.limits q o c.in-Some-key.key c.in-Ok.sign (Err (Refuse c.in-Err-fitted.refusal)) new known c.in-Ok.ensures.lines
    (draw_fitted st c.args.limits c.requires.series q c.in-Ok.sign c.in-Ok-next_own.id (Err (Refuse c.in-Err-fitted.refusal)) next full
    ∙ ap (λ (r : Result (Unit {0}) Stop). r >>= λ _. drawn h t c.args.limits q c.in-Ok.sign) pays)

pub returns-clause-ready : goal.returns-clause-ready
returns-clause-ready c =
    let next = rw (c.own.ensures, c.time.ensures) at c.in-Ok-next_own.ensures.next in
    record {
      some = c.requires.some;
      below = next.0;
      next = next.1;
      payload = c.draw_len-payload.ensures c.args.state.now.time c.in-Ok-next_own.id c.in-Ok.sign c.in-Ok.ensures.sign;
      fits = omega (arith, c.in-Ok-fitted.ensures.room, c.requires.journal);
    }

pub returns-clause-exact : goal.returns-clause-exact
returns-clause-exact c h o st ask =
    let t = c.args.state.now.time in
    let q = asked_of c.args.q.now in
    let e = Draw t q.target c.in-Ok.sign c.in-Ok-next_own.id in
    let new : None ≡ kept_number c.args.state.now (without_scrip q) = c.in-None.ensures ∙ ap (kept_number c.args.state.now) c.without_scrip.ensures in
    let known : Some c.in-Some-key.key ≡ key_in h o.account = sym c.in-Some-key.is ∙ ap (λ (a : DrawAsk). a.key) ask in
    let pays : Ok tt ≡ payable_by o (known_in h o.account) = c.in-Ok-payable.ensures.lines ∙ payable_is h o c.args.ask.now ask in
    let next = rw (c.own.ensures, c.time.ensures) at c.in-Ok-next_own.ensures.lines in
    let fits : Ok e ≡ fitted_by c.args.limits.journal c.args.state.now.size (tail_of c.args.state.now) e =
    c.in-Ok-fitted.ensures.lines e (c.draw_len-payload.ensures t c.in-Ok-next_own.id c.in-Ok.sign c.in-Ok.ensures.sign) in
    draw_goes_on st c.args.limits q o c.in-Some-key.key c.in-Ok.sign (Ok e) new known c.in-Ok.ensures.lines
    (draw_fitted st c.args.limits c.requires.series q c.in-Ok.sign c.in-Ok-next_own.id (Ok e) next fits
    ∙ ap (λ (r : Result (Unit {0}) Stop). r >>= λ _. drawn h t c.args.limits q c.in-Ok.sign) pays)
