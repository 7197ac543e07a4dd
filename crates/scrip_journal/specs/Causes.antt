-- Why a book is not opened, by its bytes. Whoever opens one says which entries may follow which (`may`), and books
-- of which kinds of site are opened (`kinds`): those of one kind (`Only`), as for a house or a wallet, or of any,
-- as for who audits.
use Rattle.std.specs.Prelude.{◌≡◌, ◌⊎◌, ℕ, ◌+◌, ◌≤◌, List, [], ◌∷◌, ◌++◌}
use Rattle.std.specs.List.{AllByRecursion}
use Rattle.mc_outside.specs.Bytes.{BeginsWith}
use Rattle.mc_records.specs.Entry.{Entry, Site, Fits}
use Rattle.mc_records.specs.Following.{AllFollowBy}
use Rattle.mc_records.specs.Sizes.{size}
use Rattle.scrip_journal.specs.Layout.{body, Encodes, Next, spoiled, unchained, Reads}
use Rattle.mc_requests.specs.declared.limits.TheConstants.Limits.{MOST_JOURNAL}
use Rattle.scrip_journal.specs.declared.cursor.TheConstants.{FIRST_GATE}

-- ---- kinds of site

-- this kind alone
abbrev pub Only : ℕ → ℕ → Type 0
Only kind k = k ≡ kind

-- an entry that founds a site of one of these kinds
abbrev pub FoundsSite : (ℕ → Type 0) → Entry → Type 0
FoundsSite kinds (Site m kind name house) = kinds kind
FoundsSite kinds _ = ⊥

-- an entry that founds a site of another kind
abbrev pub IsOfOtherKind : (ℕ → Type 0) → Entry → Type 0
IsOfOtherKind kinds e = FoundsSite (λ kind. kinds kind → ⊥) e

-- the first entry, where there is one, founds a site of one of these kinds
abbrev pub IsOfKind : (ℕ → Type 0) → List Entry → Type 0
IsOfKind kinds [] = Unit {0}
IsOfKind kinds (e ∷ es) = FoundsSite kinds e

-- ---- what the bytes are

-- the bytes begin with the header and these entries, each behind an open gate
pub record BeginsWithEntries (h : List Entry) (bytes : List ℕ) : Type 0 where
  pub fits : AllByRecursion Fits h
  pub most : size h ≤ MOST_JOURNAL
  pub begins : BeginsWith (body h) bytes

-- behind entries that may follow one another this comes
pub record ComesTo (may : List Entry → Entry → Type 0) (kinds : ℕ → Type 0) (bytes : List ℕ) (next : Next) : Type 0 where
  pub before : List Entry
  pub follow : AllFollowBy may [] before
  pub of_kind : IsOfKind kinds before
  pub reads : Reads before bytes next

-- behind entries that may follow one another the bytes can't stand, from this place on
abbrev pub SpoilsAt : (List Entry → Entry → Type 0) → (ℕ → Type 0) → List ℕ → ℕ → Type 0
SpoilsAt may kinds bytes place = ComesTo may kinds bytes (spoiled place)

-- behind entries that may follow one another comes one whose chain, at this place, is another than the one computed
abbrev pub UnchainsAt : (List Entry → Entry → Type 0) → (ℕ → Type 0) → List ℕ → ℕ → List ℕ → List ℕ → Type 0
UnchainsAt may kinds bytes place stood computed = ComesTo may kinds bytes (unchained place stood computed)

-- Behind entries that may follow one another comes one, behind the gate at this place, that may not follow
-- them.
pub record BreaksAt (may : List Entry → Entry → Type 0) (kinds : ℕ → Type 0) (bytes : List ℕ) (place : ℕ) : Type 0 where
  pub before : List Entry
  pub next : Entry
  pub follow : AllFollowBy may [] before
  pub of_kind : IsOfKind kinds before
  pub begins : BeginsWithEntries (before ++ next ∷ []) bytes
  pub place_is : place + 1 ≡ size before
  pub breaks : may before next → ⊥

-- the book is that of a site of another kind
pub record IsOfOther (kinds : ℕ → Type 0) (bytes : List ℕ) : Type 0 where
  pub first : Entry
  pub other : IsOfOtherKind kinds first
  pub begins : BeginsWithEntries (first ∷ []) bytes

-- The first entry that may not follow is behind the gate at this place, in a book that is of no site of
-- another kind. A book without entries breaks at its only gate.
abbrev pub IsUnlawfulAt : (List Entry → Entry → Type 0) → (ℕ → Type 0) → List ℕ → ℕ → Type 0
IsUnlawfulAt may kinds bytes place = (IsOfOther kinds bytes → ⊥) × ((Encodes [] bytes × (place ≡ FIRST_GATE)) ⊎ BreaksAt may kinds bytes place)
