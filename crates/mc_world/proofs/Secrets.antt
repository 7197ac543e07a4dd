-- The secrets of stock that a payload spells are bytes.
use Rattle.std.proofs.Common.{◌≡◌, ℕ, suc, ◌<◌, List, [], ◌∷◌, ◌++◌, get_or, subst}
use Rattle.std.specs.Prelude.{flat_map, All}
use Rattle.std.specs.List.{AllByRecursion}
use Rattle.std.proofs.lemmas.List.Elements.{All-from_recursion}
use Rattle.mc_fields.specs.Field.{Field, field_bytes, spelled}
use Rattle.mc_records.specs.Entry.{Held, Entry, Stock, held_fields, fields, payload}
use Rattle.world_model.specs.Worlds.{HasBytes}

IsByte : ℕ → Type 0
IsByte b = b < 256

abbrev IsOfBytes : Field → Type 0
IsOfBytes f = AllByRecursion IsByte (field_bytes f)

all_bytes : (bytes : List ℕ) → ((i : ℕ) → get_or bytes i 0 < 256) → AllByRecursion IsByte bytes
unfolding IsByte
all_bytes [] below = tt
all_bytes (b ∷ bytes) below = (below 0, all_bytes bytes (λ i. below (suc i)))

below_all : (bytes : List ℕ) → AllByRecursion IsByte bytes → AllByRecursion (λ b. b < 256) bytes
unfolding IsByte
below_all [] all = tt
below_all (b ∷ bytes) all = (all.0, below_all bytes all.1)

front : (xs ys : List ℕ) → AllByRecursion IsByte (xs ++ ys) → AllByRecursion IsByte xs
front [] ys all = tt
front (x ∷ xs) ys all = (all.0, front xs ys all.1)

behind : (xs ys : List ℕ) → AllByRecursion IsByte (xs ++ ys) → AllByRecursion IsByte ys
behind [] ys all = all
behind (x ∷ xs) ys all = behind xs ys all.1

of_fields : (fs : List Field) → AllByRecursion IsByte (spelled fs) → AllByRecursion IsOfBytes fs
of_fields [] all = tt
of_fields (f ∷ fs) all = (front (field_bytes f) (spelled fs) all, of_fields fs (behind (field_bytes f) (spelled fs) all))

of_pieces : (pieces : List Held) → AllByRecursion IsOfBytes (flat_map held_fields pieces) → AllByRecursion (λ p. All (λ b. b < 256) p.secret) pieces
of_pieces [] all = tt
of_pieces (p ∷ ps) all = (All-from_recursion (λ (b : ℕ). b < 256) p.secret (below_all p.secret all.1.0), of_pieces ps all.1.1)

of_entry : (e : Entry) → AllByRecursion IsOfBytes (fields e) → HasBytes e
of_entry (Stock m vendor pieces) all = of_pieces pieces all.1.1.1.1
of_entry e all = tt

pub has_bytes : (bytes : List ℕ) (e : Entry) → ((i : ℕ) → get_or bytes i 0 < 256) → bytes ≡ payload e → HasBytes e
has_bytes bytes e below is = of_entry e (of_fields (fields e) (subst (AllByRecursion IsByte) is (all_bytes bytes below)))
