use Rattle.std.proofs.Common.{rules, ◌≡◌, ◌≤◌, ◌^◌, refl, sym, subst, arith}
use Rattle.std.specs.Prelude.{◌-◌, vec_len, vec_capacity}
use Rattle.mc_records.specs.Views.{entry}
use Rattle.house_state.specs.Views.{kind_number}
use Rattle.house_state.specs.HouseState.{HouseStateView, GoesOn, size_with}
use Rattle.house_state.proofs.EndLaws.{end_kept}
use Rattle.house_state.proofs.Entering.{goes_on_own, sound_grown}
use Rattle.house_state.proofs.house_state.HouseState.apply_entry.Goals as goal
use Rattle.house_state.proofs.house_state.HouseState.apply_entry.Goals.{in-Terms, in-Mint, in-Site-1, in-Upgrade, in-Upgrade+else-eq}

pub count_on-requires-clause-next : goal.count_on-requires-clause-next
count_on-requires-clause-next c =
    let on = rw c.in-Mint.is at (subst (λ (b : HouseStateView). GoesOn b (kind_number c.args.kind) (entry c.args.r.now)) (sym c.self.view_is) c.requires.goes_on) in
    let fits = rw c.in-Mint.is at c.requires.payload in
    let most : c.self.inside.own.most ≤ 2 ^ 32 = omega (arith, c.self.invariant.most, c.self.invariant.limits.series_most) in
    (goes_on_own c.self.inside.own _ c.in-Mint.first c.in-Mint.count on.0 on.1 fits.count.0 most).0

pub count_on-requires-clause-fits : goal.count_on-requires-clause-fits
count_on-requires-clause-fits c =
    let on = rw c.in-Mint.is at (subst (λ (b : HouseStateView). GoesOn b (kind_number c.args.kind) (entry c.args.r.now)) (sym c.self.view_is) c.requires.goes_on) in
    let fits = rw c.in-Mint.is at c.requires.payload in
    let most : c.self.inside.own.most ≤ 2 ^ 32 = omega (arith, c.self.invariant.most, c.self.invariant.limits.series_most) in
    let own = goes_on_own c.self.inside.own _ c.in-Mint.first c.in-Mint.count on.0 on.1 fits.count.0 most in
    rw c.from.ensures own.1

pub invariant_of-self : goal.invariant_of-self
invariant_of-self c =
    let own = c.self.inside.own in
    let before = c.self.inside.terms.items in
    let old : HouseStateView = record {
      name = c.self.inside.name;
      clear = c.self.inside.clear;
      terms = before;
      terms_room = vec_capacity c.self.inside.terms - vec_len c.self.inside.terms;
      upgrades = c.self.inside.upgrades.items;
      upgrades_room = vec_capacity c.self.inside.upgrades - vec_len c.self.inside.upgrades;
      time = c.self.inside.time;
      spent = c.self.inside.spent;
      kept = c.self.inside.kept;
      own = own;
      takings = c.self.inside.takings;
      count = c.self.inside.count;
      size = c.self.inside.size;
      switched = c.self.inside.switched;
      limits = c.self.inside.limits;
    } in
    let size = c.size_with-size.result in
    let grown = subst (λ (b : HouseStateView). size ≡ size_with b c.args.bytes) (sym c.self.view_is) c.size_with-size.ensures in
    let fits = subst (λ (b : HouseStateView). size_with b c.args.bytes ≤ 2 ^ 40) (sym c.self.view_is) c.requires.fits in
    elim c.match-r.branch [
      | in-Terms w ↦
          rw w.self-inside-is (
          sound_grown old w.push_reserved.new.self.items _ old.upgrades old.upgrades_room own size c.args.bytes c.stands_with-self-inside.result c.self.invariant refl (λ s. refl)
          (λ id end is. rw w.push_reserved.ensures.items (end_kept before _ id end is)) grown fits
          )
      | in-Mint w ↦
          rw w.self-inside-is (
          sound_grown old before _ old.upgrades old.upgrades_room w.count_on.new.self size c.args.bytes c.stands_with-self-inside.result c.self.invariant w.count_on.ensures.most w.count_on.ensures.redeemed
          (λ id end is. is) grown fits
          )
      | in-Upgrade w ↦
          rw w.self-inside-is (
          sound_grown old before _ w.push_reserved-in-Upgrade.new.self.items _ own size c.args.bytes c.stands_with-self-inside.result c.self.invariant refl (λ s. refl) (λ id end is. is) grown fits
          )
      | in-Site-1 w ↦
          rw w.self-inside-is (
          sound_grown old before _ old.upgrades old.upgrades_room own size c.args.bytes c.stands_with-self-inside.result c.self.invariant refl (λ s. refl) (λ id end is. is) grown fits
          )
      | in-Upgrade+else-eq w ↦
          rw w.self-inside-is (
          sound_grown old before _ old.upgrades old.upgrades_room own size c.args.bytes c.stands_with-self-inside.result c.self.invariant refl (λ s. refl) (λ id end is. is) grown fits
          )
    ]

pub returns : goal.returns
returns c = elim c.match-r.branch [
  | in-Terms w ↦ search rules
  | in-Mint w ↦ search rules
  | in-Upgrade w ↦ search rules
  | in-Site-1 w ↦ search rules
  | in-Upgrade+else-eq w ↦ search rules
]
