use Rattle.std.proofs.Common.{sym, ap, ◌∙◌}
use Rattle.name_places.specs.NamePlaces.{NamePlacesView, place_of}
use Rattle.name_places.proofs.PlaceLaws.{lookup_pairs, lookup_same}
use Rattle.name_places.proofs.name_places.NamePlaces.reserve.Goals as goal

pub returns-clause-places : goal.returns-clause-places
returns-clause-places c = λ q.
    lookup_pairs q c.reserve.new.self.entries ∙ lookup_same c.self.inside.places.entries c.reserve.new.self.entries c.reserve.ensures.entries.2 q
    ∙ sym (lookup_pairs q c.self.inside.places.entries) ∙ ap (λ (p : NamePlacesView). place_of p q) c.self.view_is
