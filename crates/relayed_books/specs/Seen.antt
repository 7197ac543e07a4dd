-- What is kept of the sales of one identity, in order, so that each is told whether it can stand with those before it.
use Rattle.std.specs.Prelude.{ℕ, Bool, false, not, ◌&&◌, ◌||◌, ◌==◌, if◌then◌else◌, bytes_eq, List, [], ◌∷◌, Option, Some, None}
use Rattle.relayed_books.specs.Tree.{Sold}

-- of some sales of one identity: the value of the first, whether another had another value, and whether one was made
-- under a licence
pub record Mark : Type 0 where
  pub value : ℕ
  pub mixed : Bool
  pub licensed : Bool

-- with one more sale
abbrev pub marked : Option Mark → Sold → Mark
marked None t = record { value = t.piece.value; mixed = false; licensed = not t.stock }
marked (Some m) t = record { value = m.value; mixed = m.mixed || not (m.value == t.piece.value); licensed = m.licensed || not t.stock }

-- whether a sale is of an identity of a vendor's
abbrev pub is_of : List ℕ → ℕ → Sold → Bool
is_of vendor id t = bytes_eq t.vendor vendor && t.piece.id == id

-- that of an identity after some sales
abbrev pub mark_from : Option Mark → List ℕ → ℕ → List Sold → Option Mark
mark_from o vendor id [] = o
mark_from o vendor id (t ∷ ts) = mark_from (if is_of vendor id t then Some (marked o t) else o) vendor id ts

-- whether a sale of the identity can't stand with those that were seen
abbrev pub is_barred : Option Mark → Sold → Bool
is_barred None s = false
is_barred (Some m) s = not (m.value == s.piece.value) || (m.mixed || (m.licensed && not s.stock))
