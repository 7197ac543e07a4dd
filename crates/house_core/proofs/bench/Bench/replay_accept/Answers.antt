use Rattle.std.proofs.Common.{◌≡◌, ◌≤◌, ◌^◌, [], ◌∷◌, ◌++◌, refl, sym, ap, ap₂, subst, ◌∙◌, arith}
use Rattle.mc_requests.specs.declared.limits.Limits.{Limits}
use Rattle.mc_records.specs.Entry.{Entry, Accept}
use Rattle.mc_requests.specs.Requests.{Asked}
use Rattle.mc_records.specs.Views.{deed_of}
use Rattle.ledger_model.specs.Answer as answers
use Rattle.ledger_model.specs.Answer.{answer_within}
use Rattle.ledger_model.proofs.WithinLaws.{takes_as}
use Rattle.ledger_model.specs.Lawful.{unbounded, request_of}
use Rattle.house_state.specs.Representation.{scrip_request}
use Rattle.house_state.specs.Verdicts.{authorized_entry, stop_of}
use Rattle.house_core.specs.Bench.{Represents, HasContents}
use Rattle.house_core.proofs.Replayed.{stops, said_entry, spent_is, is_said}
use Rattle.house_core.proofs.bench.Bench.replay_accept.Goals as goal

pub returns-in-Err-clause-exact : goal.returns-in-Err-clause-exact
returns-in-Err-clause-exact g c = rw (← c.self.view_is) (λ h st may.
    let t = c.self.inside.state.time in
    let keep = c.self.inside.state.kept.keep in
    let bounds = unbounded (c.self.inside.state.limits) in
    let asked : c.of-q.result ≡ request_of c.args.scrip.now c.args.target.now c.args.sign.now = c.of-q.ensures ∙ c.request_for.ensures ∙ ap (scrip_request c.args.scrip.now c.args.target.now) c.digits_of-digits.ensures in
    let is = c.in-Err.ensures.exact h st.state st.learned st.of_kind
    ∙ ap₂ (λ (l : Limits) (q : Asked). answer_within keep h t l q) (c.unbounded_of-limits.ensures ∙ ap unbounded c.limits.ensures.limits) asked in
    stops (stop_of c.in-Err.field-0) (answer_within keep h t bounds (request_of c.args.scrip.now c.args.target.now c.args.sign.now)) _ is ((takes_as c.self.inside.state.limits keep h t bounds (request_of c.args.scrip.now c.args.target.now c.args.sign.now) (Accept t c.args.scrip.now c.args.target.now c.args.sign.now c.args.price c.args.change (deed_of c.args.deed.now)) st.state.lawful).1 may.follows.allowed))

pub returns-then-not-is_said-clause-exact : goal.returns-then-not-is_said-clause-exact
returns-then-not-is_said-clause-exact g c = rw (← c.self.view_is) (λ h st may.
    let t = c.self.inside.state.time in
    let keep = c.self.inside.state.kept.keep in
    let bounds = unbounded (c.self.inside.state.limits) in
    let asked : c.of-q.result ≡ request_of c.args.scrip.now c.args.target.now c.args.sign.now = c.of-q.ensures ∙ c.request_for.ensures ∙ ap (scrip_request c.args.scrip.now c.args.target.now) c.digits_of-digits.ensures in
    let is = c.in-Ok.ensures.exact h st.state st.learned st.of_kind
    ∙ ap₂ (λ (l : Limits) (q : Asked). answer_within keep h t l q) (c.unbounded_of-limits.ensures ∙ ap unbounded c.limits.ensures.limits) asked in
    let said = is_said t t c.args.scrip.now c.of-q.result.target c.args.target.now c.in-Ok.authorization c.args.sign.now c.args.price c.args.change (deed_of c.args.deed.now)
    (answer_within keep h t bounds (request_of c.args.scrip.now c.args.target.now c.args.sign.now)) is ((takes_as c.self.inside.state.limits keep h t bounds (request_of c.args.scrip.now c.args.target.now c.args.sign.now) (Accept t c.args.scrip.now c.args.target.now c.args.sign.now c.args.price c.args.change (deed_of c.args.deed.now)) st.state.lawful).1 may.follows.allowed) in
    let yes' = c.is_said.ensures.1 said in
    absurd (cc))

pub returns-in-Ok-commit-clause-exact : goal.returns-in-Ok-commit-clause-exact
returns-in-Ok-commit-clause-exact g c = rw (← c.self.view_is) (λ h st.
    let t = c.self.inside.state.time in
    let keep = c.self.inside.state.kept.keep in
    let bounds = unbounded (c.self.inside.state.limits) in
    let a = c.in-Ok.authorization in
    let e = Accept t c.args.scrip.now c.args.target.now c.args.sign.now c.args.price c.args.change (deed_of c.args.deed.now) in
    let asked : c.of-q.result ≡ request_of c.args.scrip.now c.args.target.now c.args.sign.now = c.of-q.ensures ∙ c.request_for.ensures ∙ ap (scrip_request c.args.scrip.now c.args.target.now) c.digits_of-digits.ensures in
    let is = c.in-Ok.ensures.exact h st.state st.learned st.of_kind
    ∙ ap (λ (l : Limits). answer_within keep h t l c.of-q.result) (c.unbounded_of-limits.ensures ∙ ap unbounded c.limits.ensures.limits) in
    let same : authorized_entry t c.of-q.result.target a ≡ e =
    said_entry c.self.inside.state c.of-q.result t c.args.scrip.now c.args.target.now a c.args.sign.now c.args.price c.args.change (deed_of c.args.deed.now)
    c.in-Ok.ensures.new (ap (λ (q : Asked). q.scrip) asked) (ap (λ (q : Asked). q.target) asked) (c.is_said.ensures.0 c.if-not-is_said.false) in
    let most : 2 ^ 40 ≤ 2 ^ 40 = omega arith in
    let taken = (rw (← c.self.view_is) at c.in-Ok-commit.ensures.exact) bounds h st refl most ((takes_as c.self.inside.state.limits keep h t bounds c.of-q.result _ st.state.lawful).0 (sym is)) in (
      record { follows = record { in_order = st.state.in_time; allowed = (takes_as c.self.inside.state.limits keep h t bounds (request_of c.args.scrip.now c.args.target.now c.args.sign.now) (Accept t c.args.scrip.now c.args.target.now c.args.sign.now c.args.price c.args.change (deed_of c.args.deed.now)) st.state.lawful).0 (sym (is ∙ ap (answer_within keep h t bounds) asked) ∙ ap (λ (x : Entry). answers.Take x) same) }; passed = tt },
      subst (λ (x : Entry). Represents g.T.Trade.trade c.commit.new.self (h ++ x ∷ [])) same taken.1,
      (rw (← c.self.view_is) at c.in-Ok-commit.ensures.time),
    ))

pub returns-in-Ok-commit-clause-contents : goal.returns-in-Ok-commit-clause-contents
returns-in-Ok-commit-clause-contents g c = rw (← c.self.view_is) (λ h st has.
    let t = c.self.inside.state.time in
    let a = c.in-Ok.authorization in
    let e = Accept t c.args.scrip.now c.args.target.now c.args.sign.now c.args.price c.args.change (deed_of c.args.deed.now) in
    let asked : c.of-q.result ≡ request_of c.args.scrip.now c.args.target.now c.args.sign.now = c.of-q.ensures ∙ c.request_for.ensures ∙ ap (scrip_request c.args.scrip.now c.args.target.now) c.digits_of-digits.ensures in
    let same : authorized_entry t c.of-q.result.target a ≡ e =
    said_entry c.self.inside.state c.of-q.result t c.args.scrip.now c.args.target.now a c.args.sign.now c.args.price c.args.change (deed_of c.args.deed.now)
    c.in-Ok.ensures.new (ap (λ (q : Asked). q.scrip) asked) (ap (λ (q : Asked). q.target) asked) (c.is_said.ensures.0 c.if-not-is_said.false) in
    subst (λ (x : Entry). HasContents g.T.Trade.trade c.commit.new.self (h ++ x ∷ [])) same ((rw (← c.self.view_is) at c.in-Ok-commit.ensures.contents) h st has (c.in-Ok.ensures.in_force h st.learned st.of_kind)))

pub returns-in-Ok-commit-clause-spent : goal.returns-in-Ok-commit-clause-spent
returns-in-Ok-commit-clause-spent g c =
    let asked : c.of-q.result ≡ request_of c.args.scrip.now c.args.target.now c.args.sign.now = c.of-q.ensures ∙ c.request_for.ensures ∙ ap (scrip_request c.args.scrip.now c.args.target.now) c.digits_of-digits.ensures in
    c.spent.ensures ∙ spent_is c.self.inside.state c.of-q.result c.args.scrip.now c.in-Ok.authorization c.args.sign.now c.args.price c.args.change (deed_of c.args.deed.now)
    c.in-Ok.ensures.new (ap (λ (q : Asked). q.scrip) asked) (c.is_said.ensures.0 c.if-not-is_said.false)
