use Rattle.std.proofs.Common.{◌≡◌, ℕ, length, Some, cond, bytes_eq, sym, ap, subst, ◌∙◌, arith}
use Rattle.mc_records.specs.declared.record.Record.{Record}
use Rattle.mc_records.specs.TermsViews.{issuing_of}
use Rattle.mc_records.specs.Views.{entry}
use Rattle.name_places.specs.NamePlaces.{place_of}
use Rattle.counted_trade.specs.Licences.{HasRoomToLicense}
use Rattle.counted_trade.proofs.LicenceLaws.{no_licence, none_there, some_place, licensed_again, licensed_first, not_licensed}
use Rattle.counted_trade.proofs.licences.Licences.count.Goals as goal

pub returns-in_default : goal.returns-in_default
returns-in_default c = record {
  counted = λ h stand. not_licensed c.args.self.now.places c.args.self.now.terms.items h (entry c.args.r.now) (no_licence c.args.r.now c.in_default.not-Licence) stand;
}

pub returns-then-is_none : goal.returns-then-is_none
returns-then-is_none c = record {
  counted = λ h stand.
      let v = c.in-Licence.vendor.now in
      let old = c.args.self.now.places in
      let none = sym c.get.ensures ∙ none_there c.get.result c.if-is_none.ensures in
      let number : c.len.result ≡ length c.args.self.now.terms.items = omega (arith, c.len.ensures, c.args.self.now.terms.ok) in
      let room = subst (λ (r : Record). HasRoomToLicense c.args.self.now (entry r)) c.in-Licence.is c.requires.room in
      rw (c.in-Licence.is, c.push_reserved.ensures.items, c.terms.ensures)
      (licensed_first old c.put.new.self c.args.self.now.terms.items h c.in-Licence.moment v (issuing_of c.in-Licence.terms) stand none
      (λ q. c.put.ensures.places v room.1 q ∙ ap (λ (n : ℕ). cond (bytes_eq q v) (Some n) (place_of old q)) number));
}

pub returns-else-is_none : goal.returns-else-is_none
returns-else-is_none c = record {
  counted = λ h stand.
      let place = some_place c.get.result c.if-is_none.ensures in
      rw c.in-Licence.is
      (licensed_again c.args.self.now.places c.args.self.now.terms.items h c.in-Licence.moment c.in-Licence.vendor.now (issuing_of c.in-Licence.terms) place.0 stand (sym c.get.ensures ∙ place.1));
}
