use Rattle.std.proofs.Common.{◌≡◌, sym, ap, subst, ◌∙◌, Ok, Err, Some, None}
use Rattle.mc_requests.specs.Requests.{Asked}
use Rattle.ledger_model.specs.Answer.{answered, draw_lines_within}
use Rattle.ledger_model.proofs.WithinLaws.{within_by_lines}
use Rattle.house_state.specs.Trade.{draw_asked}
use Rattle.house_state.specs.Verdicts.{draw_entry, stop_of}
use Rattle.house_state.proofs.Ordered.{ordered, none_asked, draws_answer}
use Rattle.house_state.proofs.evaluating.evaluate.Goals as goal

pub returns-in-Ok-clause-brings : goal.returns-in-Ok-clause-brings
returns-in-Ok-clause-brings g c h trade kind =
    let asked : Some c.in-Some.ask ≡ draw_asked h c.args.q.now.target = c.in-Some.ensures.asked h trade kind ∙ ap (λ (q : Asked). draw_asked h q.target) c.request-request.ensures in
    ordered h c.args.q.now.target c.in-Ok.draw c.in-Some.ask asked c.in-Ok.ensures.key c.in-Ok.ensures.amount

pub returns-in-Ok-clause-exact : goal.returns-in-Ok-clause-exact
returns-in-Ok-clause-exact g c h st trade kind =
    let t = c.args.state.now.time in
    let asked : Some c.in-Some.ask ≡ draw_asked h c.args.q.now.target = c.in-Some.ensures.asked h trade kind ∙ ap (λ (q : Asked). draw_asked h q.target) c.request-request.ensures in
    draws_answer c.args.state.now.kept.keep h t c.args.limits c.args.q.now c.in-Some.ask (Ok (draw_entry t c.args.q.now.target c.in-Ok.draw)) asked
    (λ o is. subst (λ (q : Asked). Ok (draw_entry t q.target c.in-Ok.draw) ≡ draw_lines_within c.args.state.now.kept.keep h t c.args.limits q o) c.request-request.ensures (c.in-Ok.ensures.exact h o st is))

pub returns-in-Err-clause-exact : goal.returns-in-Err-clause-exact
returns-in-Err-clause-exact g c h st trade kind =
    let t = c.args.state.now.time in
    let asked : Some c.in-Some.ask ≡ draw_asked h c.args.q.now.target = c.in-Some.ensures.asked h trade kind ∙ ap (λ (q : Asked). draw_asked h q.target) c.request-request.ensures in
    draws_answer c.args.state.now.kept.keep h t c.args.limits c.args.q.now c.in-Some.ask (Err (stop_of c.in-Err.stopped)) asked
    (λ o is. subst (λ (q : Asked). Err (stop_of c.in-Err.stopped) ≡ draw_lines_within c.args.state.now.kept.keep h t c.args.limits q o) c.request-request.ensures (c.in-Err.ensures.exact h o st is))

pub returns-in-Ok-evaluate_scrip-clause-exact : goal.returns-in-Ok-evaluate_scrip-clause-exact
returns-in-Ok-evaluate_scrip-clause-exact g c h st trade kind =
    let none : None ≡ draw_asked h c.args.q.now.target = c.in-None.ensures.asked h trade kind ∙ ap (λ (q : Asked). draw_asked h q.target) c.request-request.ensures in
    ap answered (c.in-Ok-evaluate_scrip.ensures.exact h st trade kind)
    ∙ sym (within_by_lines c.args.state.now.kept.keep h c.args.state.now.time c.args.limits c.args.q.now (none_asked h c.args.q.now.target none))

pub returns-in-Err-evaluate_scrip-clause-exact : goal.returns-in-Err-evaluate_scrip-clause-exact
returns-in-Err-evaluate_scrip-clause-exact g c h st trade kind =
    let none : None ≡ draw_asked h c.args.q.now.target = c.in-None.ensures.asked h trade kind ∙ ap (λ (q : Asked). draw_asked h q.target) c.request-request.ensures in
    ap answered (c.in-Err-evaluate_scrip.ensures.exact h st trade kind)
    ∙ sym (within_by_lines c.args.state.now.kept.keep h c.args.state.now.time c.args.limits c.args.q.now (none_asked h c.args.q.now.target none))
