use Rattle.std.proofs.Common.{◌≡◌, Some, sym, ◌∙◌, eqb}
use Rattle.std.proofs.lemmas.Bool.{eqb-true}
use Rattle.mc_requests.specs.Requests.{asked_of}
use Rattle.kept_replies.specs.Kept.{KeptReply, with_number}
use Rattle.house_state.specs.Trade.{OfGoods}
use Rattle.house_state.specs.Representation.{IsReply}
use Rattle.house_state.specs.Views.{contents_of}
use Rattle.house_core.proofs.FirstReply.{of_found, first_reply_is}
use Rattle.house_core.proofs.bench.Bench.first_reply.Goals as goal

pub returns : goal.returns
returns g c = rw (← c.self.view_is) (λ h house.
    let st = house.represents in
    let replies = c.self.inside.state.kept.replies in
    let r : KeptReply = record { asked = asked_of c.in-Some.q; entry = c.in-Some.entry } in
    let found : with_number replies c.args.number.now ≡ Some r = sym c.in-Some.ensures.reply in
    let is = of_found (IsReply h) (λ x. eqb x.entry.number c.args.number.now) replies r st.state.replies found in
    let held = of_found (λ x. OfGoods (g.T.Trade.trade c.self.inside.trade).holds x.entry.deed) (λ x. eqb x.entry.number c.args.number.now) replies r house.contents.held found in
    c.taken_reply.ensures
    ∙ first_reply_is st.state c.args.number.now r (contents_of c.body-body.result) is.0 (eqb-true _ _ is.1) (c.body-body.ensures.brought h st.learned st.of_kind held.0))
