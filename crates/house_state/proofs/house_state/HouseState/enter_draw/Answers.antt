use Rattle.scrip_form.specs.Issuing.{epoch}
use Rattle.std.proofs.Common.{◌<◌, ◌^◌, ◌≡◌, ◌+◌, None, sym, subst, ap, ◌∙◌}
use Rattle.std.specs.Prelude.{◌-◌, vec_len, vec_capacity}
use Rattle.mc_requests.specs.Requests.{asked_of}
use Rattle.kept_replies.specs.Kept.{found}
use Rattle.house_state.specs.HouseState.{HouseStateView, IsDrawn, size_with}
use Rattle.house_state.specs.Verdicts.{IsDrawReady}
use Rattle.house_state.proofs.Entering.{no_request, no_number}
use Rattle.house_state.proofs.Drawn.{drawn, sound_drawn}
use Rattle.house_state.proofs.house_state.HouseState.enter_draw.Goals as goal

pub keep-number-requires-clause-new_request : goal.keep-number-requires-clause-new_request
keep-number-requires-clause-new_request c =
    no_request c.self.inside.kept.keep c.self.inside.time (asked_of c.args.q.now) c.self.inside.kept.replies c.self.invariant.in_time
    (subst (λ (b : HouseStateView). found b.kept b.time (asked_of c.args.q.now) ≡ None) (sym c.self.view_is) c.requires.fresh)

pub keep-number-requires-clause-new_number : goal.keep-number-requires-clause-new_number
keep-number-requires-clause-new_number c = no_number c.self.inside.count c.self.inside.kept.replies c.self.invariant.numbers

pub invariant_of-self : goal.invariant_of-self
invariant_of-self c =
    let short : epoch c.self.inside.own.terms c.self.inside.time < 2 ^ 24 = subst (λ (b : HouseStateView). epoch b.own.terms b.time < 2 ^ 24) (sym c.self.view_is) c.series_now-series.ensures.short in
    let size = subst (λ (b : HouseStateView). c.size_with-size.result ≡ size_with b c.args.d.now.payload) (sym c.self.view_is) c.size_with-size.ensures in
    let ready = subst (λ (b : HouseStateView). IsDrawReady b c.args.q.now.target.now c.args.d.now) (sym c.self.view_is) c.requires.ready in
    sound_drawn _ _ (asked_of c.args.q.now) c.args.d.now c.self.invariant ready.fits
    (drawn _ c.keep-number.new.self c.drawn-deed.new.own _ (asked_of c.args.q.now) c.args.d.now c.drawn-deed.result c.self.invariant short ready.next (rw c.deref.ensures.value at c.drawn-deed.ensures.deed)
    c.keep-number.ensures.keep (rw c.get.ensures.units at c.keep-number.ensures.replies) c.drawn-deed.ensures.terms c.drawn-deed.ensures.most c.drawn-deed.ensures.count c.drawn-deed.ensures.worth c.drawn-deed.ensures.redeemed size)

pub returns-clause-drawn : goal.returns-clause-drawn
returns-clause-drawn c =
    let short : epoch c.self.inside.own.terms c.self.inside.time < 2 ^ 24 = subst (λ (b : HouseStateView). epoch b.own.terms b.time < 2 ^ 24) (sym c.self.view_is) c.series_now-series.ensures.short in
    let size = subst (λ (b : HouseStateView). c.size_with-size.result ≡ size_with b c.args.d.now.payload) (sym c.self.view_is) c.size_with-size.ensures in
    let ready = subst (λ (b : HouseStateView). IsDrawReady b c.args.q.now.target.now c.args.d.now) (sym c.self.view_is) c.requires.ready in
    let old : HouseStateView = record {
      name = c.self.inside.name;
      clear = c.self.inside.clear;
      terms = c.self.inside.terms.items;
      terms_room = vec_capacity c.self.inside.terms - vec_len c.self.inside.terms;
      upgrades = c.self.inside.upgrades.items;
      upgrades_room = vec_capacity c.self.inside.upgrades - vec_len c.self.inside.upgrades;
      time = c.self.inside.time;
      spent = c.self.inside.spent;
      kept = c.self.inside.kept;
      own = c.self.inside.own;
      takings = c.self.inside.takings;
      count = c.self.inside.count;
      size = c.self.inside.size;
      switched = c.self.inside.switched;
      limits = c.self.inside.limits;
    } in
    let new : HouseStateView = record old { kept = c.keep-number.new.self; own = c.drawn-deed.new.own; count = c.self.inside.count + 1; size = c.size_with-size.result } in
    subst (λ (b : HouseStateView). IsDrawn b new (asked_of c.args.q.now) c.args.d.now) c.self.view_is
    (drawn old c.keep-number.new.self c.drawn-deed.new.own _ (asked_of c.args.q.now) c.args.d.now c.drawn-deed.result c.self.invariant short ready.next (rw c.deref.ensures.value at c.drawn-deed.ensures.deed)
    c.keep-number.ensures.keep (rw c.get.ensures.units at c.keep-number.ensures.replies) c.drawn-deed.ensures.terms c.drawn-deed.ensures.most c.drawn-deed.ensures.count c.drawn-deed.ensures.worth c.drawn-deed.ensures.redeemed size)

pub returns-clause-number : goal.returns-clause-number
returns-clause-number c = c.keep-number.ensures.number ∙ ap (λ (b : HouseStateView). b.count) c.self.view_is
