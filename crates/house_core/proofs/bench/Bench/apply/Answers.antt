use Rattle.std.proofs.Common.{◌≡◌, [], ◌∷◌, ◌++◌, sym, subst, ◌∙◌}
use Rattle.mc_records.specs.Entry.{Entry}
use Rattle.mc_requests.specs.Requests.{Asked}
use Rattle.mc_records.specs.Views.{entry}
use Rattle.house_core.specs.BenchView.{BenchView}
use Rattle.house_state.specs.Learning.{ByTrade, MayLearn}
use Rattle.house_state.specs.Verdicts.{authorized_entry, IsCommitted}
use Rattle.house_core.proofs.Accepting.{on_is_ok}
use Rattle.house_core.proofs.Committing.{may_learn, trade_half, puts_no_goods, kept_of, replies_committed, keep_committed, kept_held, kept_in_force, used_committed, stands_committed}
use Rattle.house_core.proofs.Contents.{contents_taken}
use Rattle.house_core.proofs.FirstEntry.{keeping_stays, kind_stays}
use Rattle.house_core.proofs.bench.Bench.apply.Goals as goal

pub returns-clause-exact : goal.returns-clause-exact
returns-clause-exact g c = rw (← c.self.view_is) (λ limits h st brings series most takes.
    let b = c.self.inside.state in
    let a = c.args.authorization.now in
    let kind = (g.T.Trade.trade c.self.inside.trade).site in
    let e = authorized_entry b.time c.args.q.now.target a in
    let is : entry c.args.r.now ≡ e = (rw (← c.self.view_is) at c.requires.is) in
    let may : MayLearn b.limits kind c.count-number.result h (entry c.args.r.now) = rw (is, c.count-number.ensures) (may_learn st.state kind limits c.args.q.now a series most takes) in
    let half : ByTrade g.T.Trade.passes kind h (entry c.args.r.now) = rw is (trade_half g.T.Trade.passes kind h b.time c.args.q.now.target a) in
    let learned = on_is_ok c.learn-learned.result _ ((c.learn-learned.ensures.exact b.limits h st.learned may).1 half) c.learn-learned.ensures.learned b.limits h st.learned may in
    let entered = subst (λ (p : Asked). IsCommitted b c.commit.new.self p a) c.request.ensures c.commit.ensures.committed in (
      c.commit.ensures.number ∙ sym st.state.counted,
      record {
        state = stands_committed st.state c.args.q.now a (rw (← c.self.view_is) at c.requires.new) (rw (← c.self.view_is) at c.requires.ready) brings limits series most takes entered;
        learned = subst (λ (e : Entry). (g.T.Trade.trade c.learn-learned.new.self).represents (h ++ e ∷ [])) is learned;
        of_kind = kind_stays b.limits h e st.state.lawful ∙ rw c.learn-learned.ensures.site st.of_kind;
      },
    ))

pub returns-clause-contents : goal.returns-clause-contents
returns-clause-contents g c = rw (← c.self.view_is) (λ h st has in_force.
    let b = c.self.inside.state in
    let q = c.args.q.now in
    let a = c.args.authorization.now in
    let after : BenchView g.row.T.Denot = record { state = c.commit.new.self; trade = c.learn-learned.new.self; tally = c.self.inside.tally } in
    let is : IsCommitted b c.commit.new.self q a = subst (λ (p : Asked). IsCommitted b c.commit.new.self p a) c.request.ensures c.commit.ensures.committed in
    let stays = keeping_stays b.limits h (authorized_entry b.time q.target a) st.state.lawful in
    contents_taken g.T.Trade.trade _ after h (authorized_entry b.time q.target a) (kept_of b q a) has (λ target. puts_no_goods b.time q.target target a)
    stays (keep_committed b c.commit.new.self q a is) (replies_committed b c.commit.new.self q a has.some is) c.learn-learned.ensures.held (kept_held b q (g.T.Trade.trade c.self.inside.trade).holds a (rw (← c.self.view_is) at c.requires.held)) (kept_in_force b q h a in_force))

pub returns-clause-used : goal.returns-clause-used
returns-clause-used g c = rw (← c.self.view_is) (λ used.
    let b = c.self.inside.state in
    let a = c.args.authorization.now in
    used_committed b c.commit.new.self c.args.q.now a (subst (λ (p : Asked). IsCommitted b c.commit.new.self p a) c.request.ensures c.commit.ensures.committed) used)
