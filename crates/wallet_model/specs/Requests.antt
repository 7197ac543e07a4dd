-- The requests of a wallet's book, and those of them that it keeps: no entry has settled them.
use Rattle.std.specs.Prelude.{ℕ, ◌==◌, ◌&&◌, Bool, false, not, List, Option, Some, None, option_map, option_and_then, unwrap_or, filter, filter_map, slice_get, find, bytes_eq, is_some}
use Rattle.std.specs.List.{list_any, enumerate_from}
use Rattle.mc_records.specs.Entry.{Entry, Pend, Done, Refused}
use Rattle.ledger_model.specs.Histories.{History}

-- What a Pend entry asks: 0 a get, 1 a buy, 2 a draw; of which peer, and under which target; with which scrip text,
-- which a draw has not; and signed under which secret of the piece's customer, or key of the account.
pub record Pending : Type 0 where
  pub ask : ℕ
  pub peer : List ℕ
  pub target : List ℕ
  pub scrip : Option (List ℕ)
  pub secret : List ℕ

abbrev pub pending_of : Entry → Option Pending
pending_of (Pend m ask peer target scrip secret) = Some (record { ask = ask; peer = peer; target = target; scrip = scrip; secret = secret })
pending_of _ = None

-- the request of the entry of a number
abbrev pub pending_in : History → ℕ → Option Pending
pending_in h n = option_and_then pending_of (slice_get h n)

-- whether an entry settles the request of a number
abbrev pub settles : ℕ → Entry → Bool
settles n (Done m number price change got) = number == n
settles n (Refused m number refusal) = number == n
settles n _ = false

-- whether the entry of a number is a request that no entry settles
abbrev pub is_kept : History → ℕ → Bool
is_kept h n = is_some (pending_in h n) && not (list_any (settles n) h)

-- ---- all of them

abbrev pub numbered : ℕ × Entry → Option (ℕ × Pending)
numbered x = option_map (λ p. (x.0, p)) (pending_of x.1)

-- the requests with their numbers, oldest first
abbrev pub requests : History → List (ℕ × Pending)
requests h = filter_map numbered (enumerate_from 0 h)

-- whether no entry settles a request
abbrev pub is_open : History → ℕ × Pending → Bool
is_open h x = not (list_any (settles x.0) h)

-- the kept requests with their numbers, oldest first
abbrev pub kept_requests : History → List (ℕ × Pending)
kept_requests h = filter (is_open h) (requests h)

-- the oldest kept request of a peer
abbrev pub oldest_kept : History → List ℕ → Option (ℕ × Pending)
oldest_kept h peer = find (λ x. bytes_eq x.1.peer peer) (kept_requests h)

-- the oldest kept get of a target of a vendor
abbrev pub kept_get : History → List ℕ → List ℕ → Option (ℕ × Pending)
kept_get h vendor target = find (λ x. x.1.ask == 0 && (bytes_eq x.1.peer vendor && bytes_eq x.1.target target)) (kept_requests h)

-- ---- what they pay with

-- whether a request pays with the piece of this text
abbrev pub pays : List ℕ → Pending → Bool
pays text p = unwrap_or (option_map (λ s. bytes_eq s text) p.scrip) false

-- whether the request of a number does
abbrev pub pays_with : History → ℕ → List ℕ → Bool
pays_with h n text = unwrap_or (option_map (pays text) (pending_in h n)) false
