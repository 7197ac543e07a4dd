use Rattle.std.proofs.Common.{refl, sym, ap, ◌∙◌}
use Rattle.std.proofs.lemmas.Bool.{false≢true}
use Rattle.change_issue.specs.Registers.{Register, has_room, count_in, issued_in, redeemed_in}
use Rattle.change_issue.proofs.RegisterLaws.{room_is, room_before, added, added_kept, added_room}
use Rattle.change_issue.proofs.issuer.Issuer.reserve.Goals as goal

pub returns-in_err-insert-clause-again : goal.returns-in_err-insert-clause-again
returns-in_err-insert-clause-again c = λ room.
    absurd (false≢true (sym c.if-not-contains_key.true ∙ sym (room_is c.args.series c.self.view_is c.contains_key.ensures) ∙ room))

pub returns-in_ok-insert : goal.returns-in_ok-insert
unfolding has_room count_in issued_in redeemed_in
returns-in_ok-insert c =
    let h = added c.self.view_is c.contains_key.ensures c.if-not-contains_key.true c.blank.ensures c.in_ok-insert.ensures.updates.0 in
    record {
      ok = added_room h;
      err = tt;
      again = λ room. refl;
      terms = ap (λ (r : Register). r.terms) c.self.view_is;
      most = ap (λ (r : Register). r.most) c.self.view_is;
      count = added_kept h (λ x. x.count) refl;
      issued = added_kept h (λ x. x.issued) refl;
      redeemed = added_kept h (λ x. x.redeemed) refl;
    }

pub returns-else-not-contains_key-clause-ok : goal.returns-else-not-contains_key-clause-ok
returns-else-not-contains_key-clause-ok c =
    room_before c.args.self.now c.args.series (room_is c.args.series c.self.view_is c.contains_key.ensures ∙ c.if-not-contains_key.false)
