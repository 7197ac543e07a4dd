-- The requests that a wallet keeps in memory, as the definitions have them.
use Rattle.std.specs.Prelude.{◌≡◌, ℕ, ◌<◌, ◌==◌, ◌&&◌, Bool, bytes_eq, Result, Ok, Err, List, Option, Some, None, IfSome, option_and_then, slice_get, if◌then◌else◌}
use Rattle.std.specs.List.{AllByRecursion}
use Rattle.mc_requests.specs.declared.refusal.Refusal.{Refusal}
use Rattle.mc_requests.specs.declared.refusal.Refusal.TheVariants.{Nothing}
use Rattle.ledger_model.specs.Histories.{History}
use Rattle.wallet_model.specs.Requests.{Pending, pending_in, is_kept}
use Rattle.wallet_book.specs.declared.kept.Kept.{Kept}

-- what it says, where the texts of the pieces are these
abbrev pub request_of : List (List ℕ) → Kept → Pending
request_of texts k = record { ask = k.ask; peer = k.peer; target = k.target; scrip = option_and_then (slice_get texts) k.place; secret = k.secret }

-- likewise with its number
abbrev pub kept_of : List (List ℕ) → Kept → ℕ × Pending
kept_of texts k = (k.number, request_of texts k)

-- the piece that it pays with, if there is one, stands among so many
abbrev pub IsPlaced : ℕ → Kept → Type 0
IsPlaced count k = IfSome k.place (λ place. place < count)

abbrev pub ArePlaced : ℕ → List Kept → Type 0
ArePlaced count ks = AllByRecursion (IsPlaced count) ks

-- the request of a number, where it is kept
abbrev pub kept_in : History → ℕ → Option Pending
kept_in h n = if is_kept h n then pending_in h n else None

-- whether a request asks a vendor for the goods of a target
abbrev pub is_get_of : List ℕ → List ℕ → Kept → Bool
is_get_of vendor target k = k.ask == 0 && (bytes_eq k.peer vendor && bytes_eq k.target target)

-- the number of a request, where there is one, or 67 Nothing
abbrev pub Retries : Option (ℕ × Pending) → Result ℕ Refusal → Type 0
Retries (Some x) result = result ≡ Ok x.0
Retries None result = result ≡ Err Nothing
