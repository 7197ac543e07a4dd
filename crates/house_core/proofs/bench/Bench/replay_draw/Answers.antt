use Rattle.std.proofs.Common.{◌≡◌, ◌≤◌, ◌^◌, [], ◌∷◌, ◌++◌, Some, None, ℕ, List, refl, sym, ap, ap₂, subst, ◌∙◌, arith}
use Rattle.mc_requests.specs.declared.limits.Limits.{Limits}
use Rattle.mc_records.specs.Entry.{Entry, Draw}
use Rattle.mc_requests.specs.Requests.{Asked}
use Rattle.ledger_model.specs.Answer as answers
use Rattle.ledger_model.specs.Answer.{answer_within}
use Rattle.ledger_model.proofs.WithinLaws.{takes_as}
use Rattle.ledger_model.specs.Lawful.{unbounded, draw_request}
use Rattle.house_state.specs.Verdicts.{authorized_entry, stop_of}
use Rattle.house_core.specs.Bench.{Represents, HasContents}
use Rattle.house_core.proofs.Replayed.{stops, drawn_entry, says_drawn}
use Rattle.house_core.proofs.bench.Bench.replay_draw.Goals as goal

pub returns-in-Err-clause-exact : goal.returns-in-Err-clause-exact
returns-in-Err-clause-exact g c = rw (← c.self.view_is) (λ h st may.
    let t = c.self.inside.state.time in
    let keep = c.self.inside.state.kept.keep in
    let bounds = unbounded (c.self.inside.state.limits) in
    let asked : c.of-q.result ≡ draw_request c.args.target.now c.args.sign.now =
    c.of-q.ensures ∙ c.draw_request.ensures ∙ ap (λ (s : List ℕ). record { target = c.args.target.now; scrip = None; sign = Some s }) c.hex_of-digits.ensures in
    let is = c.in-Err.ensures.exact h st.state st.learned st.of_kind
    ∙ ap₂ (λ (l : Limits) (q : Asked). answer_within keep h t l q) (c.unbounded_of-limits.ensures ∙ ap unbounded c.limits.ensures.limits) asked in
    stops (stop_of c.in-Err.field-0) (answer_within keep h t bounds (draw_request c.args.target.now c.args.sign.now)) _ is ((takes_as c.self.inside.state.limits keep h t bounds (draw_request c.args.target.now c.args.sign.now) (Draw t c.args.target.now c.args.sign.now c.args.drawn) st.state.lawful).1 may.follows.allowed))

pub returns-then-not-is_drawn-clause-exact : goal.returns-then-not-is_drawn-clause-exact
returns-then-not-is_drawn-clause-exact g c = rw (← c.self.view_is) (λ h st may.
    let t = c.self.inside.state.time in
    let keep = c.self.inside.state.kept.keep in
    let bounds = unbounded (c.self.inside.state.limits) in
    let asked : c.of-q.result ≡ draw_request c.args.target.now c.args.sign.now =
    c.of-q.ensures ∙ c.draw_request.ensures ∙ ap (λ (s : List ℕ). record { target = c.args.target.now; scrip = None; sign = Some s }) c.hex_of-digits.ensures in
    let is = c.in-Ok.ensures.exact h st.state st.learned st.of_kind
    ∙ ap₂ (λ (l : Limits) (q : Asked). answer_within keep h t l q) (c.unbounded_of-limits.ensures ∙ ap unbounded c.limits.ensures.limits) asked in
    let said = says_drawn t t c.of-q.result.target c.args.target.now c.in-Ok.authorization c.args.sign.now c.args.drawn
    (answer_within keep h t bounds (draw_request c.args.target.now c.args.sign.now)) is ((takes_as c.self.inside.state.limits keep h t bounds (draw_request c.args.target.now c.args.sign.now) (Draw t c.args.target.now c.args.sign.now c.args.drawn) st.state.lawful).1 may.follows.allowed) in
    let yes' = c.is_drawn.ensures.1 said in
    absurd (cc))

pub returns-in-Ok-commit-clause-exact : goal.returns-in-Ok-commit-clause-exact
returns-in-Ok-commit-clause-exact g c = rw (← c.self.view_is) (λ h st.
    let t = c.self.inside.state.time in
    let keep = c.self.inside.state.kept.keep in
    let bounds = unbounded (c.self.inside.state.limits) in
    let a = c.in-Ok.authorization in
    let e = Draw t c.args.target.now c.args.sign.now c.args.drawn in
    let asked : c.of-q.result ≡ draw_request c.args.target.now c.args.sign.now =
    c.of-q.ensures ∙ c.draw_request.ensures ∙ ap (λ (s : List ℕ). record { target = c.args.target.now; scrip = None; sign = Some s }) c.hex_of-digits.ensures in
    let is = c.in-Ok.ensures.exact h st.state st.learned st.of_kind
    ∙ ap (λ (l : Limits). answer_within keep h t l c.of-q.result) (c.unbounded_of-limits.ensures ∙ ap unbounded c.limits.ensures.limits) in
    let same : authorized_entry t c.of-q.result.target a ≡ e =
    drawn_entry t c.of-q.result.target c.args.target.now a c.args.sign.now c.args.drawn (ap (λ (q : Asked). q.target) asked) (c.is_drawn.ensures.0 c.if-not-is_drawn.false) in
    let most : 2 ^ 40 ≤ 2 ^ 40 = omega arith in
    let taken = (rw (← c.self.view_is) at c.in-Ok-commit.ensures.exact) bounds h st refl most ((takes_as c.self.inside.state.limits keep h t bounds c.of-q.result _ st.state.lawful).0 (sym is)) in (
      record { follows = record { in_order = st.state.in_time; allowed = (takes_as c.self.inside.state.limits keep h t bounds (draw_request c.args.target.now c.args.sign.now) (Draw t c.args.target.now c.args.sign.now c.args.drawn) st.state.lawful).0 (sym (is ∙ ap (answer_within keep h t bounds) asked) ∙ ap (λ (x : Entry). answers.Take x) same) }; passed = tt },
      subst (λ (x : Entry). Represents g.T.Trade.trade c.commit.new.self (h ++ x ∷ [])) same taken.1,
      (rw (← c.self.view_is) at c.in-Ok-commit.ensures.time),
    ))

pub returns-in-Ok-commit-clause-contents : goal.returns-in-Ok-commit-clause-contents
returns-in-Ok-commit-clause-contents g c = rw (← c.self.view_is) (λ h st has.
    let t = c.self.inside.state.time in
    let a = c.in-Ok.authorization in
    let e = Draw t c.args.target.now c.args.sign.now c.args.drawn in
    let asked : c.of-q.result ≡ draw_request c.args.target.now c.args.sign.now =
    c.of-q.ensures ∙ c.draw_request.ensures ∙ ap (λ (s : List ℕ). record { target = c.args.target.now; scrip = None; sign = Some s }) c.hex_of-digits.ensures in
    let same : authorized_entry t c.of-q.result.target a ≡ e =
    drawn_entry t c.of-q.result.target c.args.target.now a c.args.sign.now c.args.drawn (ap (λ (q : Asked). q.target) asked) (c.is_drawn.ensures.0 c.if-not-is_drawn.false) in
    subst (λ (x : Entry). HasContents g.T.Trade.trade c.commit.new.self (h ++ x ∷ [])) same ((rw (← c.self.view_is) at c.in-Ok-commit.ensures.contents) h st has (c.in-Ok.ensures.in_force h st.learned st.of_kind)))
