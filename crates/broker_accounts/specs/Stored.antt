-- How the program finds accounts. No clause of a public call cites this.
use Rattle.std.specs.Prelude.{◌≡◌, ℕ, ◌<◌, List, length, position, IsSome}
use Rattle.name_places.specs.NamePlaces.{NamePlacesView, place_of}
use Rattle.broker_accounts.specs.Accounts.{AccountView, is_named, AreNamedApart}

-- What holds of accounts that are kept in so many places, beside the places of their names: no two
-- have one name, each name has the place of its account, and where there is room for a name there is a
-- free place for its account.
pub record IsStored (accounts : List AccountView) (capacity : ℕ) (places : NamePlacesView) : Type 0 where
  pub apart : AreNamedApart accounts
  pub found : (name : List ℕ) → place_of places name ≡ position (is_named name) accounts
  pub free : IsSome places.room → length accounts < capacity
