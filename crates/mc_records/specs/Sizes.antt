-- How many bytes the journal of a history has.
use Rattle.std.specs.Prelude.{ℕ, ◌+◌, Bool, if◌then◌else◌, List, [], ◌∷◌, ◌++◌, length}
use Rattle.mc_records.specs.declared.sizes.TheConstants.{EMPTY_JOURNAL, FRAME}
use Rattle.mc_records.specs.declared.ranges.TheConstants.{CHAIN_BYTES}
use Rattle.mc_records.specs.Entry.{Entry, payload}
use Rattle.mc_records.specs.Chains.{chain, has_switch}

-- the tail with this chain, where a Switch stands and where none does
abbrev pub tail_by : Bool → List ℕ → List ℕ
tail_by switched chain = if switched then chain else []

-- What stands behind the payload of an entry, after the entries before it: where a Switch stands among these, the
-- chain up to and with the entry, else nothing.
unfoldable pub tail : List Entry → Entry → List ℕ
tail before e = tail_by (has_switch before) (chain (before ++ e ∷ []))

-- how many bytes a tail has, where a Switch stands and where none does
abbrev pub tail_bytes : Bool → ℕ
tail_bytes switched = if switched then CHAIN_BYTES else 0

-- how many bytes that is for every entry that comes next
unfoldable pub tail_size : List Entry → ℕ
tail_size before = tail_bytes (has_switch before)

-- how many bytes an entry adds to a journal, with a payload and a tail of so many bytes: these, the four bytes of
-- the payload's length before them, and the gate after them
abbrev pub framed_size : ℕ → ℕ → ℕ
framed_size payload_bytes tail_bytes = payload_bytes + tail_bytes + FRAME

-- likewise of an entry after the entries before it
abbrev pub entry_size : List Entry → Entry → ℕ
entry_size before e = framed_size (length (payload e)) (length (tail before e))

abbrev pub size_from : List Entry → List Entry → ℕ
size_from before [] = 0
size_from before (e ∷ es) = entry_size before e + size_from (before ++ e ∷ []) es

-- how many bytes a journal of no entries has: the header and the first gate
abbrev pub empty_size : ℕ
empty_size = EMPTY_JOURNAL

abbrev pub size : List Entry → ℕ
size h = empty_size + size_from [] h
