use Rattle.std.proofs.Common.{sym, ap, ◌∙◌, arith}
use Rattle.std.specs.Prelude.{is_some}
use Rattle.std.specs.Option.{option_copied_mut}
use Rattle.change_issue.specs.Registers.{Register, SeriesSheet, has_room, count_in, issued_in, redeemed_in}
use Rattle.change_issue.proofs.RegisterLaws.{has_sheet, written, found_on, raised, kept, room_kept}
use Rattle.change_issue.proofs.issuer.Issuer.count_on.Goals as goal

pub unwrap-sheet-requires : goal.unwrap-sheet-requires
unwrap-sheet-requires c = has_sheet c.get_mut.result c.self.view_is c.series.ensures c.get_mut.ensures.value c.requires.room

pub count_on-requires : goal.count_on-requires
unfolding count_in
count_on-requires c =
    let had = found_on c.self.view_is c.series.ensures (sym (ap option_copied_mut c.unwrap-sheet.ensures) ∙ c.get_mut.ensures.value) (λ x. x.count) in
    omega (arith, had, ap (λ (r : Register). r.most) c.self.view_is)

pub returns : goal.returns
unfolding has_room count_in issued_in redeemed_in
returns c =
    let some = ap is_some (sym c.get_mut.ensures.value) ∙ ap (λ o. is_some (option_copied_mut o)) c.unwrap-sheet.ensures in
    let h = written c.self.view_is c.series.ensures (sym (ap option_copied_mut c.unwrap-sheet.ensures) ∙ c.get_mut.ensures.value) ((c.get_mut.follows.holds c.count_on.new.self).3 some).0 in
    record {
      count = raised h (λ x. x.count) c.args.count (ap (λ (x : SeriesSheet). x.count) c.count_on.ensures);
      issued = kept h (λ x. x.issued) (ap (λ (x : SeriesSheet). x.issued) c.count_on.ensures);
      redeemed = kept h (λ x. x.redeemed) (ap (λ (x : SeriesSheet). x.redeemed) c.count_on.ensures);
      room = room_kept h;
      terms = ap (λ (r : Register). r.terms) c.self.view_is;
      most = ap (λ (r : Register). r.most) c.self.view_is;
    }
