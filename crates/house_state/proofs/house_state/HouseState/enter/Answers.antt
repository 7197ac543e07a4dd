use Rattle.scrip_form.specs.Issuing.{epoch}
use Rattle.std.proofs.Common.{◌<◌, ◌^◌, ◌≡◌, ◌+◌, ◌≤◌, None, sym, subst, ap, ◌∙◌}
use Rattle.std.specs.Prelude.{◌-◌, vec_len, vec_capacity}
use Rattle.mc_requests.specs.Requests.{asked_of}
use Rattle.kept_replies.specs.Requests.{text_size}
use Rattle.kept_replies.specs.Kept.{found}
use Rattle.house_state.specs.HouseState.{HouseStateView, IsEntered, size_with, pieces_size}
use Rattle.house_state.proofs.Entering.{no_request, no_number, change_fits, entered, sound_entered}
use Rattle.house_state.proofs.house_state.HouseState.enter.Goals as goal

pub keep-number-requires-clause-room : goal.keep-number-requires-clause-room
keep-number-requires-clause-room c =
    let q = asked_of c.args.q.now in
    let paid = c.args.paid.now in
    let a = c.args.a.now in
    let room = subst (λ (b : HouseStateView). text_size q + pieces_size b.name paid a < b.kept.room) (sym c.self.view_is) c.requires.room.reply in
    let change = change_fits c.self.inside.upgrades.items c.self.inside.own.terms c.self.inside.time (paid.value - a.price) c.self.inside.name paid.cust paid.props a.change c.redeem-change.result (rw c.deref.ensures.value at c.redeem-change.ensures.piece) in
    rw change room

pub keep-number-requires-clause-new_request : goal.keep-number-requires-clause-new_request
keep-number-requires-clause-new_request c =
    no_request c.self.inside.kept.keep c.self.inside.time (asked_of c.args.q.now) c.self.inside.kept.replies c.self.invariant.in_time
    (subst (λ (b : HouseStateView). found b.kept b.time (asked_of c.args.q.now) ≡ None) (sym c.self.view_is) c.requires.fresh)

pub keep-number-requires-clause-new_number : goal.keep-number-requires-clause-new_number
keep-number-requires-clause-new_number c = no_number c.self.inside.count c.self.inside.kept.replies c.self.invariant.numbers

pub invariant_of-self : goal.invariant_of-self
invariant_of-self c =
    let short : epoch c.self.inside.own.terms c.self.inside.time < 2 ^ 24 = subst (λ (b : HouseStateView). epoch b.own.terms b.time < 2 ^ 24) (sym c.self.view_is) c.series_now-series.ensures.short in
    let size = subst (λ (b : HouseStateView). c.size_with-size.result ≡ size_with b c.args.a.now.payload) (sym c.self.view_is) c.size_with-size.ensures in
    let fits = subst (λ (b : HouseStateView). size_with b c.args.a.now.payload ≤ 2 ^ 40) (sym c.self.view_is) c.requires.fits in
    sound_entered _ _ (asked_of c.args.q.now) c.args.paid.now c.args.a.now c.self.invariant c.id.ensures.piece fits
    (entered _ c.mark.new.self c.keep-number.new.self c.redeem-change.new.own c.redeem-change.new.takings _ (asked_of c.args.q.now) c.args.paid.now c.args.a.now c.redeem-change.result c.self.invariant short
    (rw c.id.ensures.id at c.mark.ensures.marked) c.mark.ensures.ends c.keep-number.ensures.keep c.keep-number.ensures.replies (rw c.deref.ensures.value at c.redeem-change.ensures.piece) c.redeem-change.ensures.terms c.redeem-change.ensures.most
    c.redeem-change.ensures.count c.redeem-change.ensures.worth c.redeem-change.ensures.redeemed c.redeem-change.ensures.takings size)

pub returns-clause-entered : goal.returns-clause-entered
returns-clause-entered c =
    let short : epoch c.self.inside.own.terms c.self.inside.time < 2 ^ 24 = subst (λ (b : HouseStateView). epoch b.own.terms b.time < 2 ^ 24) (sym c.self.view_is) c.series_now-series.ensures.short in
    let size = subst (λ (b : HouseStateView). c.size_with-size.result ≡ size_with b c.args.a.now.payload) (sym c.self.view_is) c.size_with-size.ensures in
    let old : HouseStateView = record {
      name = c.self.inside.name;
      clear = c.self.inside.clear;
      terms = c.self.inside.terms.items;
      terms_room = vec_capacity c.self.inside.terms - vec_len c.self.inside.terms;
      upgrades = c.self.inside.upgrades.items;
      upgrades_room = vec_capacity c.self.inside.upgrades - vec_len c.self.inside.upgrades;
      time = c.self.inside.time;
      spent = c.self.inside.spent;
      kept = c.self.inside.kept;
      own = c.self.inside.own;
      takings = c.self.inside.takings;
      count = c.self.inside.count;
      size = c.self.inside.size;
      switched = c.self.inside.switched;
      limits = c.self.inside.limits;
    } in
    let new : HouseStateView = record old { spent = c.mark.new.self; kept = c.keep-number.new.self; own = c.redeem-change.new.own; takings = c.redeem-change.new.takings; count = c.self.inside.count + 1; size = c.size_with-size.result } in
    subst (λ (b : HouseStateView). IsEntered b new (asked_of c.args.q.now) c.args.paid.now c.args.a.now) c.self.view_is
    (entered old c.mark.new.self c.keep-number.new.self c.redeem-change.new.own c.redeem-change.new.takings _ (asked_of c.args.q.now) c.args.paid.now c.args.a.now c.redeem-change.result c.self.invariant short
    (rw c.id.ensures.id at c.mark.ensures.marked) c.mark.ensures.ends c.keep-number.ensures.keep c.keep-number.ensures.replies (rw c.deref.ensures.value at c.redeem-change.ensures.piece) c.redeem-change.ensures.terms c.redeem-change.ensures.most
    c.redeem-change.ensures.count c.redeem-change.ensures.worth c.redeem-change.ensures.redeemed c.redeem-change.ensures.takings size)

pub returns-clause-number : goal.returns-clause-number
returns-clause-number c = c.keep-number.ensures.number ∙ ap (λ (b : HouseStateView). b.count) c.self.view_is
