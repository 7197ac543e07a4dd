-- What the first entry of a house's book tells of its kind.
use Rattle.std.proofs.Common.{◌≡◌, ℕ, List, [], ◌∷◌, Some, ap}
use Rattle.mc_records.specs.Entry.{Entry, Site}
use Rattle.ledger_model.specs.Histories.{History}
use Rattle.ledger_model.specs.Houses.{site_kind}
use Rattle.scrip_journal.specs.Causes.{Only, FoundsSite, BeginsWithEntries}
use Rattle.scrip_journal.proofs.Beginnings as beginnings
use Rattle.book_opening.specs.Opening.{AreOfSite}
use Rattle.house_opening.specs.Opening.{IsOfOther}

-- the first entry of a history of this kind founds a site of it
founds_kind : (kind : ℕ) (e : Entry) (es : History) → site_kind (e ∷ es) ≡ Some kind → FoundsSite (Only kind) e
founds_kind kind (Site m k name house) es is = cc is
founds_kind kind e es is = absurd (cc is)

-- and entries that begin with one that does are a history of it
pub of_kind : (kind : ℕ) (h : History) → AreOfSite (Only kind) h → site_kind h ≡ Some kind
of_kind kind [] site = absurd site
of_kind kind (Site m k name house ∷ es) site = ap (λ (n : ℕ). Some n) site
of_kind kind (e ∷ es) site = absurd site

-- its book is of no other kind
pub kind_tells : (kind : ℕ) (h : History) (bytes : List ℕ) → site_kind h ≡ Some kind → BeginsWithEntries h bytes → IsOfOther kind bytes → ⊥
kind_tells kind [] bytes is begins other = absurd (cc is)
kind_tells kind (e ∷ es) bytes is begins other = beginnings.kind_tells (Only kind) e es bytes (founds_kind kind e es is) begins other
