-- The places of pieces by vendor and identity, without how they are found.
use Rattle.std.specs.Prelude.{ℕ, ◌==◌, ◌&&◌, Bool, List, length, Option, bytes_eq}
use Rattle.std.specs.Map.{lookup}
use Rattle.scrip_form.specs.Padded.{padded}

-- the key of a vendor and an identity: the identity, and the length and the bytes of the name, with zeros behind them
abbrev pub Key : Type 0
Key = ℕ × ℕ × List ℕ

abbrev pub key_of : List ℕ → ℕ → Key
key_of vendor id = (id, length vendor, padded 0 63 vendor)

abbrev pub is_key : Key → Key → Bool
is_key a b = (a.0 == b.0 && a.1 == b.1) && bytes_eq a.2 b.2

-- the pieces by their keys with their places, in no order, and how many more there is room for
pub record PieceIndexView : Type 0 where
  pub places : List (Key × ℕ)
  pub room : ℕ

-- the place of the piece of a vendor with an identity
abbrev pub place_of : PieceIndexView → List ℕ → ℕ → Option ℕ
place_of p vendor id = lookup (is_key (key_of vendor id)) p.places
