-- Pieces by vendor and identity.
use Rattle.std.specs.Prelude.{ℕ, ◌==◌, ◌&&◌, Bool, true, false, not, List, [], ◌∷◌, Option, Some, bytes_eq}
use Rattle.std.specs.List.{list_any}
use Rattle.scrip_form.specs.Scrip.{Scrip}
use Rattle.ledger_model.specs.Pieces.{piece_of}

abbrev pub is_same_piece : Option Scrip → Option Scrip → Bool
is_same_piece (Some p) (Some q) = bytes_eq p.vendor q.vendor && p.id == q.id
is_same_piece _ _ = false

-- whether two texts are of pieces of one vendor with one identity
abbrev pub are_one_piece : List ℕ → List ℕ → Bool
are_one_piece a b = is_same_piece (piece_of a) (piece_of b)

-- whether a piece is none of those of some texts
abbrev pub is_new : List (List ℕ) → List ℕ → Bool
is_new texts text = not (list_any (λ t. are_one_piece t text) texts)

-- whether each of some pieces is new to those of some texts, and to those before it
abbrev pub are_new : List (List ℕ) → List (List ℕ) → Bool
are_new texts [] = true
are_new texts (t ∷ ts) = is_new texts t && are_new (t ∷ texts) ts
