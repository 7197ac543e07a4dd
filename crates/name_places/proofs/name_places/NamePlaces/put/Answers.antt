use Rattle.std.proofs.Common.{◌≡◌, ℕ, Option, Some, cond, List, sym, ap, ◌∙◌, bytes_eq}
use Rattle.std.specs.Map.{lookup}
use Rattle.name_places.specs.NamePlaces.{NamePlacesView, place_of}
use Rattle.name_places.proofs.PlaceLaws.{is, lookup_pairs, lookup_put, room_name}
use Rattle.name_places.proofs.name_places.NamePlaces.put.Goals as goal

pub returns-clause-places : goal.returns-clause-places
returns-clause-places c = λ name room q.
    let old = c.self.inside.places in
    let new = c.insert.new.self in
    let v = c.unwrap-name.result in
    let named : v.items ≡ name = room_name c.self.inside.next v name (sym c.take.ensures.value ∙ c.unwrap-name.ensures) (ap (λ (p : NamePlacesView). p.room) c.self.view_is ∙ room) in
    lookup_pairs q new.entries ∙ lookup_put old.entries new.entries v c.args.place c.in-Ok.ensures.updates.1 c.in-Ok.ensures.updates.3 q
    ∙ ap (λ (s : List ℕ). cond (bytes_eq q s) (Some c.args.place) (lookup (is q) old.entries)) named
    ∙ ap (λ (o : Option ℕ). cond (bytes_eq q name) (Some c.args.place) o) (sym (lookup_pairs q old.entries) ∙ ap (λ (p : NamePlacesView). place_of p q) c.self.view_is)
