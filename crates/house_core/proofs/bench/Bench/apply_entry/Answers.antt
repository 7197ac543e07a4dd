use Rattle.std.proofs.Common.{◌≤◌, ◌^◌, ℕ, ◌∷◌, [], ◌++◌, refl, sym, ap, subst, arith, ◌∙◌}
use Rattle.std.specs.Prelude.{max}
use Rattle.mc_requests.specs.declared.limits.Limits.{Limits}
use Rattle.mc_records.specs.Entry.{moment_of}
use Rattle.mc_records.specs.Views.{entry}
use Rattle.kept_replies.specs.Kept.{KeptView}
use Rattle.ledger_model.specs.Lawful.{MayFollow}
use Rattle.house_core.specs.BenchView.{BenchView}
use Rattle.house_state.specs.HouseState.{HouseStateView, GoesOn, HasRoomFor, size_with}
use Rattle.house_state.specs.Learning.{MayLearn}
use Rattle.house_state.specs.LiveWindows.{AreUsed}
use Rattle.house_state.specs.Representation.{StateRepresents}
use Rattle.house_core.proofs.Contents.{contents_applied, contents_as_before}
use Rattle.house_core.proofs.Entered.{stands_more}
use Rattle.house_core.proofs.FirstEntry.{keeping_stays, kind_stays}
use Rattle.house_core.proofs.KeptLater.{stands_later, room_later, goes_later, contents_raised}
use Rattle.house_core.proofs.Applied.{command_fits, house_half, says_command}
use Rattle.house_state.proofs.PartLaws.{halves}
use Rattle.house_core.proofs.bench.Bench.apply_entry.Goals as goal

pub returns-in-Err-clause-exact : goal.returns-in-Err-clause-exact
returns-in-Err-clause-exact g c = rw (← c.self.view_is) (λ h st in_order tells.
    let e = entry c.args.r.now in
    let b = c.self.inside.state in
    let kind = (g.T.Trade.trade c.self.inside.trade).site in
    let half = house_half st.state kind st.of_kind e c.requires.command tells in
    let counted = c.count-number.ensures ∙ sym st.state.counted in
    let may : MayLearn b.limits kind c.count-number.result h e = record { counted = counted; in_order = in_order; by_house = half.0 (rw (← c.self.view_is) at c.requires.goes_on) } in (
      λ follows'.
          let ok = (c.in-Err.ensures.exact b.limits h st.learned may).1 ((halves g.T.Trade.passes b.limits kind h e st.of_kind).0 (follows'.follows.allowed, follows'.passed)).1 in
          absurd (cc),
      record { state = st.state; learned = c.in-Err.ensures.same h st.learned; of_kind = rw c.in-Err.ensures.site st.of_kind },
    ))

pub returns-clause-exact : goal.returns-clause-exact
returns-clause-exact g c = rw (← c.self.view_is) (λ h st in_order tells.
    let e = entry c.args.r.now in
    let b = c.self.inside.state in
    let kind = (g.T.Trade.trade c.self.inside.trade).site in
    let half = house_half st.state kind st.of_kind e c.requires.command tells in
    let counted = c.count-number.ensures ∙ sym st.state.counted in
    let may : MayLearn b.limits kind c.count-number.result h e = record { counted = counted; in_order = in_order; by_house = half.0 (rw (← c.self.view_is) at c.requires.goes_on) } in
    let trades = (c.in-Ok.ensures.exact b.limits h st.learned may).0 refl in
    let allows = (halves g.T.Trade.passes b.limits kind h e st.of_kind).1 (half.0 (rw (← c.self.view_is) at c.requires.goes_on), trades) in
    let follow : MayFollow b.limits h e = record { in_order = in_order; allowed = allows.0 } in
    let later : b.time ≤ max b.time c.moment.result = omega arith in
    let raised : StateRepresents c.raise.new.self h = subst (λ (s : HouseStateView). StateRepresents s h) (sym c.raise.ensures.rest)
    (stands_later st.state (max b.time c.moment.result) c.raise.new.self.spent c.raise.new.self.kept later c.raise.ensures.spent c.raise.ensures.keep c.raise.ensures.replies) in
    let goes : GoesOn c.raise.new.self kind e = subst (λ (s : HouseStateView). GoesOn s kind e) (sym c.raise.ensures.rest)
    (goes_later b (max b.time c.moment.result) c.raise.new.self.spent c.raise.new.self.kept kind e (rw (← c.self.view_is) at c.requires.goes_on)) in
    let at : moment_of e ≤ c.raise.new.self.time = omega (arith, ap (λ (s : HouseStateView). s.time) c.raise.ensures.rest, c.moment.ensures) in
    let follow' : MayFollow c.raise.new.self.limits h e = subst (λ (l : Limits). MayFollow l h e) (sym (ap (λ (s : HouseStateView). s.limits) c.raise.ensures.rest)) follow in (
      record { follows = follow; passed = allows.1 },
      counted,
      record {
        state = stands_more raised e _ (says_command raised e c.args.bytes c.requires.command at kind goes c.requires.len) follow' c.apply_entry.ensures;
        learned = c.in-Ok.ensures.learned b.limits h st.learned may;
        of_kind = kind_stays b.limits h e st.state.lawful ∙ rw c.in-Ok.ensures.site st.of_kind;
      },
    ))

pub returns-clause-contents : goal.returns-clause-contents
returns-clause-contents g c = rw (← c.self.view_is) (λ h st has.
    let e = entry c.args.r.now in
    let learned : BenchView g.row.T.Denot = record { state = c.self.inside.state; trade = c.learn.new.self; tally = c.self.inside.tally } in
    let raised : BenchView g.row.T.Denot = record { state = c.raise.new.self; trade = c.learn.new.self; tally = c.self.inside.tally } in
    let after : BenchView g.row.T.Denot = record { state = c.apply_entry.new.self; trade = c.learn.new.self; tally = c.self.inside.tally } in
    let one = contents_applied g.T.Trade.trade _ learned h e has st.state.replies (keeping_stays c.self.inside.state.limits h e st.state.lawful) refl refl c.in-Ok.ensures.held in
    let two = contents_raised g.T.Trade.trade learned raised (h ++ e ∷ []) (max c.self.inside.state.time c.moment.result) one c.raise.ensures.keep c.raise.ensures.replies (λ n held. held) in
    contents_as_before g.T.Trade.trade raised after (h ++ e ∷ []) two c.apply_entry.ensures.kept.keep c.apply_entry.ensures.kept.replies (λ n held. held))

pub returns-in-Err-clause-contents : goal.returns-in-Err-clause-contents
returns-in-Err-clause-contents g c = rw (← c.self.view_is) (λ h st has.
    let after : BenchView g.row.T.Denot = record { state = c.self.inside.state; trade = c.learn.new.self; tally = c.self.inside.tally } in
    contents_as_before g.T.Trade.trade _ after h has refl refl c.in-Err.ensures.held)

pub returns-clause-time : goal.returns-clause-time
returns-clause-time g c = rw (← c.self.view_is) (
    c.apply_entry.ensures.time ∙ ap (λ (s : HouseStateView). s.time) c.raise.ensures.rest ∙ ap (max c.self.inside.state.time) c.moment.ensures)

pub returns-clause-limits : goal.returns-clause-limits
returns-clause-limits g c = rw (← c.self.view_is) (
    c.apply_entry.ensures.limits ∙ ap (λ (s : HouseStateView). s.limits) c.raise.ensures.rest)

pub returns-clause-used : goal.returns-clause-used
returns-clause-used g c = rw (← c.self.view_is) (λ before.
    subst AreUsed (sym c.apply_entry.ensures.spent) (c.raise.ensures.used before))

pub returns-clause-grows : goal.returns-clause-grows
returns-clause-grows g c = rw (← c.self.view_is) (
    omega (arith, c.apply_entry.ensures.counted, ap (λ (s : HouseStateView). s.count) c.raise.ensures.rest))

pub learn-requires-clause-fits : goal.learn-requires-clause-fits
learn-requires-clause-fits g c = command_fits (entry c.args.r.now) c.requires.fits

pub apply_entry-requires-clause-room : goal.apply_entry-requires-clause-room
apply_entry-requires-clause-room g c =
    let b = c.self.inside.state in
    let e = entry c.args.r.now in
    subst (λ (s : HouseStateView). HasRoomFor s e) (sym c.raise.ensures.rest) (room_later b (max b.time c.moment.result) c.raise.new.self.spent c.raise.new.self.kept e (rw (← c.self.view_is) at c.requires.state))

pub apply_entry-requires-clause-goes_on : goal.apply_entry-requires-clause-goes_on
apply_entry-requires-clause-goes_on g c =
    let b = c.self.inside.state in
    let e = entry c.args.r.now in
    let kind = (g.T.Trade.trade c.self.inside.trade).site in
    let goes : GoesOn c.raise.new.self kind e = subst (λ (s : HouseStateView). GoesOn s kind e) (sym c.raise.ensures.rest)
    (goes_later b (max b.time c.moment.result) c.raise.new.self.spent c.raise.new.self.kept kind e (rw (← c.self.view_is) at c.requires.goes_on)) in
    subst (λ (k : ℕ). GoesOn c.raise.new.self k e) (sym (c.kind.ensures ∙ c.in-Ok.ensures.site)) goes

pub apply_entry-requires-clause-fits : goal.apply_entry-requires-clause-fits
apply_entry-requires-clause-fits g c = subst (λ (s : HouseStateView). size_with s c.args.bytes ≤ 2 ^ 40) (sym c.raise.ensures.rest) (rw (← c.self.view_is) at c.requires.room)
