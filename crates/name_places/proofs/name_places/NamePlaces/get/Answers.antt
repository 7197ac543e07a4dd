use Rattle.std.proofs.Common.{sym, ap, ◌∙◌}
use Rattle.name_places.specs.NamePlaces.{NamePlacesView, place_of}
use Rattle.name_places.proofs.PlaceLaws.{lookup_pairs}
use Rattle.name_places.proofs.name_places.NamePlaces.get.Goals as goal

pub returns : goal.returns
returns c =
    c.copied.ensures ∙ c.get.ensures.value ∙ sym (lookup_pairs c.args.name.now c.self.inside.places.entries)
    ∙ ap (λ (p : NamePlacesView). place_of p c.args.name.now) c.self.view_is
