-- What the bytes of a journal encode.
use Rattle.std.specs.Prelude.{◌≡◌, ◌≢◌, ℕ, ◌+◌, ◌≤◌, nat_lt, nat_le, ◌==◌, if◌then◌else◌, List, [], ◌∷◌, ◌++◌, length, take, drop, Result, Ok, Err}
use Rattle.std.specs.Prelude.{bytes_eq}
use Rattle.std.specs.Int.{w32, to_be_bytes, from_be_bytes}
use Rattle.std.specs.List.{AllByRecursion}
use Rattle.mc_records.specs.Entry.{Entry, Fits, payload}
use Rattle.mc_records.specs.Sizes.{tail, tail_size, size}
use Rattle.mc_records.specs.Forms.{entry_of}
use Rattle.mc_requests.specs.declared.limits.TheConstants.Limits.{MOST_JOURNAL}
use Rattle.mc_records.specs.declared.sizes.TheConstants.{PAYLOAD_BOUND}

-- `MCJRNL1` and LF
unfoldable pub header : List ℕ
header = 77 ∷ 67 ∷ 74 ∷ 82 ∷ 78 ∷ 76 ∷ 49 ∷ 10 ∷ []

-- the length of an entry's payload in four bytes, the payload, and its tail after the entries before
unfoldable pub framed : List Entry → Entry → List ℕ
framed before e = to_be_bytes w32 (length (payload e)) ++ (payload e ++ tail before e)

-- entries, each behind an open gate, after the entries before them
abbrev pub gated : List Entry → List Entry → List ℕ
gated before [] = []
gated before (e ∷ es) = 1 ∷ (framed before e ++ gated (before ++ e ∷ []) es)

-- the header, and the entries behind their gates
abbrev pub body : List Entry → List ℕ
body h = header ++ gated [] h

-- The bytes encode these entries: behind them comes a closed gate, at a place that a journal may have. A gate is
-- closed where its byte is any other than 1. What follows a closed gate means nothing.
pub record Encodes (h : List Entry) (bytes : List ℕ) : Type 0 where
  pub fits : AllByRecursion Fits h
  pub most : size h ≤ MOST_JOURNAL
  pub gate : ℕ
  pub rest : List ℕ
  pub closed : gate ≢ 1
  pub shape : bytes ≡ body h ++ gate ∷ rest

-- ---- reading on behind some entries

-- what comes at a gate: the gate is closed, or an entry stands behind it, or the bytes can't stand,
-- from this place on, or the chain of the entry there, whose first byte has this place, is another than the one
-- computed
pub data Next : Type 0 where
  at_end : Next
  entered : Entry → Next
  spoiled : (place : ℕ) → Next
  unchained : (place : ℕ) (stood computed : List ℕ) → Next

-- what stands behind a payload: the tail of its entry, whose first byte has this place
abbrev pub next_tail : List Entry → ℕ → Entry → List ℕ → Next
next_tail h place e rest =
    if nat_lt (length rest) (tail_size h) then spoiled (place + length rest)
    else if bytes_eq (take (tail_size h) rest) (tail h e) then entered e
    else unchained place (take (tail_size h) rest) (tail h e)

-- a payload of so many bytes, whose first byte has this place, and the bytes behind it
abbrev pub next_payload : List Entry → ℕ → ℕ → Result Entry ℕ → List ℕ → Next
next_payload h place n (Ok e) rest = next_tail h (place + n) e rest
next_payload h place n (Err fault) rest = spoiled (place + fault)

-- A length whose first byte has this place, and the bytes behind it. The length has to be below
-- the bound of payloads, the entry with its tail and the next gate has to end within the most of a journal, and the
-- payload has to be there.
abbrev pub next_framed : List Entry → ℕ → ℕ → List ℕ → Next
next_framed h place n rest =
    if nat_le PAYLOAD_BOUND n then spoiled place
    else if nat_lt MOST_JOURNAL (place + 4 + n + tail_size h + 1) then spoiled place
    else if nat_lt (length rest) n then spoiled (place + 4 + length rest)
    else next_payload h (place + 4) n (entry_of (take n rest)) (drop n rest)

-- behind an open gate, where the first byte has this place
abbrev pub next_behind : List Entry → ℕ → List ℕ → Next
next_behind h place rest =
    if nat_lt (length rest) 4 then spoiled (place + length rest)
    else next_framed h place (from_be_bytes w32 (take 4 rest)) (drop 4 rest)

-- what comes at the gate behind some entries, by the bytes from the gate on
abbrev pub next_of : List Entry → List ℕ → Next
next_of h [] = spoiled (length (body h))
next_of h (gate ∷ rest) = if gate == 1 then next_behind h (length (body h) + 1) rest else at_end

-- the bytes begin with these entries, and this comes behind them
pub record Reads (h : List Entry) (bytes : List ℕ) (next : Next) : Type 0 where
  pub fits : AllByRecursion Fits h
  pub most : size h ≤ MOST_JOURNAL
  pub rest : List ℕ
  pub shape : bytes ≡ body h ++ rest
  pub next_is : next_of h rest ≡ next

-- The bytes begin with these entries, and what comes behind them can't stand, from this place on. So
-- they encode no entries.
abbrev pub IsSpoiled : List Entry → List ℕ → ℕ → Type 0
IsSpoiled h bytes place = Reads h bytes (spoiled place)

-- The bytes begin with these entries, and the one behind them has another chain at this place than the one computed.
-- So they encode no entries, either.
abbrev pub IsUnchained : List Entry → List ℕ → ℕ → List ℕ → List ℕ → Type 0
IsUnchained h bytes place stood computed = Reads h bytes (unchained place stood computed)
