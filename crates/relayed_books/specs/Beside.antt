-- Which sales make a sale out of stock right.
use Rattle.std.specs.Prelude.{Bool, not, ◌&&◌, ◌==◌, bytes_eq}
use Rattle.relayed_books.specs.Tree.{Sold}

-- whether a sale is of the piece of another, by identity and value, under a licence of another broker
abbrev pub is_beside : Sold → Sold → Bool
is_beside s t = (not t.stock && bytes_eq t.vendor s.vendor) && (((t.piece.id == s.piece.id) && (t.piece.value == s.piece.value)) && not (bytes_eq t.broker s.broker))
