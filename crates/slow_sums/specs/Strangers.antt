-- What is asked of pieces that may be strangers.
use Rattle.std.specs.Prelude.{ℕ, Bool, not, ◌&&◌, ◌==◌, bytes_eq, List, filter}
use Rattle.std.specs.List.{list_any}
use Rattle.scrip_form.specs.Scrip.{Scrip}
use Rattle.ledger_model.specs.Histories.{History}
use Rattle.ledger_model.specs.Houses.{site_name, is_broker}
use Rattle.ledger_model.specs.Pieces.{minted}
use Rattle.audit_model.specs.declared.part.Part.{Part}
use Rattle.slow_sums.specs.declared.strangers.Stranger.{Stranger}

-- whether a piece has the identity and the value of another
abbrev pub same_as : Part → Scrip → Bool
same_as p q = (q.id == p.id) && (q.value == p.value)

-- whether a book is no broker's, of this name, and minted a piece
abbrev pub mints_for : List ℕ → Part → History → Bool
mints_for vendor p v = not (is_broker v) && (bytes_eq vendor (site_name v) && list_any (same_as p) (minted v))

-- the books that are no broker's
abbrev pub vendors_of : List History → List History
vendors_of books = filter (λ h. not (is_broker h)) books

-- the number of a stranger's book and his identity
abbrev pub place_of : Stranger → ℕ × ℕ
place_of s = (s.book, s.id)
