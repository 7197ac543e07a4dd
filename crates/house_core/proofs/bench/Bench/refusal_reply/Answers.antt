use Rattle.std.proofs.Common.{◌≡◌, ℕ, List, Some, None, sym, ap, subst, ◌∙◌, append-nil, [], unwrap_or}
use Rattle.std.specs.Prelude.{codes}
use Rattle.mc_requests.specs.Requests.{Asked, asked_of}
use Rattle.mc_requests.specs.Replies.{reply_head}
use Rattle.ledger_model.specs.Answer.{as_counted, draw_in}
use Rattle.ledger_model.specs.Replies.{secret_of_refusal, price_told, signed, refused_values}
use Rattle.house_state.specs.Trade.{draw_asked}
use Rattle.house_core.specs.Bench.{Represents, house_time}
use Rattle.house_core.specs.BenchView.{BenchView}
use Rattle.house_core.proofs.Refused.{refusal_is, counted_target}
use Rattle.house_core.proofs.bench.Bench.refusal_reply.Goals as goal

pub returns-in-Some : goal.returns-in-Some
returns-in-Some g c h st =
    let q = c.args.q.now in
    let own = subst (λ (b : BenchView g.row.T.Denot). Represents g.T.Trade.trade b h) (sym c.self.view_is) st in
    let at = c.draw-ask.ensures.asked h own.learned own.of_kind in
    let asked : c.draw-ask.result ≡ draw_asked h q.target = at ∙ ap (λ (p : Asked). draw_asked h p.target) c.request-own.ensures in
    let secret : Some c.in-Some.secret ≡ secret_of_refusal h q c.args.refusal.now = sym c.in-Some.is ∙ c.secret_of_refusal.ensures h st asked in
    let counted : asked_of c.as_counted-request.result ≡ as_counted (draw_in h q.target) q = c.as_counted-request.ensures h at ∙ ap (λ (p : Asked). as_counted (draw_in h p.target) p) c.request-own.ensures in
    let price = c.price_told-price.ensures h st ∙ ap (λ (p : Asked). price_told h p.target c.args.refusal.now) counted ∙ ap (λ (t : List ℕ). price_told h t c.args.refusal.now) (counted_target (draw_in h q.target) q) in
    rw (c.time-time.ensures ∙ ap (λ (b : BenchView g.row.T.Denot). b.state.time) c.self.view_is) at c.signed_refusal.ensures
    ∙ ap (λ (p : Asked). reply_head (signed (Some c.in-Some.secret) (unwrap_or p.scrip (codes "-")) p.target [] (refused_values (house_time c.args.self.now) c.args.refusal.now c.price_told-price.result))) counted
    ∙ ap (λ (t : List ℕ). reply_head (signed (Some c.in-Some.secret) (unwrap_or (as_counted (draw_in h q.target) q).scrip (codes "-")) t [] (refused_values (house_time c.args.self.now) c.args.refusal.now c.price_told-price.result))) (counted_target (draw_in h q.target) q)
    ∙ refusal_is h (house_time c.args.self.now) q c.args.refusal.now (Some c.in-Some.secret) c.price_told-price.result secret price

pub returns-in-None : goal.returns-in-None
returns-in-None g c h st =
    let q = c.args.q.now in
    let own = subst (λ (b : BenchView g.row.T.Denot). Represents g.T.Trade.trade b h) (sym c.self.view_is) st in
    let at = c.draw-ask.ensures.asked h own.learned own.of_kind in
    let asked : c.draw-ask.result ≡ draw_asked h q.target = at ∙ ap (λ (p : Asked). draw_asked h p.target) c.request-own.ensures in
    let secret : None ≡ secret_of_refusal h q c.args.refusal.now = sym c.in-None.is ∙ c.secret_of_refusal.ensures h st asked in
    let counted : asked_of c.as_counted-request.result ≡ as_counted (draw_in h q.target) q = c.as_counted-request.ensures h at ∙ ap (λ (p : Asked). as_counted (draw_in h p.target) p) c.request-own.ensures in
    let price = c.price_told-price.ensures h st ∙ ap (λ (p : Asked). price_told h p.target c.args.refusal.now) counted ∙ ap (λ (t : List ℕ). price_told h t c.args.refusal.now) (counted_target (draw_in h q.target) q) in
    c.of.ensures ∙ append-nil _ ∙ ap reply_head (rw (c.time-time.ensures ∙ ap (λ (b : BenchView g.row.T.Denot). b.state.time) c.self.view_is) at c.refusal_head.ensures.values)
    ∙ refusal_is h (house_time c.args.self.now) q c.args.refusal.now None c.price_told-price.result secret price
