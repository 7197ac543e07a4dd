-- The chain of a history: a digest of all its entries, one after the other.
use Rattle.std.specs.Prelude.{◌≡◌, ℕ, Bool, true, false, List, [], ◌∷◌, ◌++◌, replicate}
use Rattle.std.specs.List.{list_any}
use Rattle.sha2.specs.Sha256.{sha256}
use Rattle.mc_records.specs.declared.ranges.TheConstants.{CHAIN_BYTES}
use Rattle.mc_records.specs.Entry.{Entry, Switch, payload}

-- the chain of no entries: 32 zero bytes
abbrev pub first_chain : List ℕ
first_chain = replicate CHAIN_BYTES 0

-- the chain of some entries and of one more, by their chain and its payload: SHA-256 of both
unfoldable pub chain_after : List ℕ → List ℕ → List ℕ
chain_after before payload_bytes = sha256 (before ++ payload_bytes)

abbrev pub chain_from : List ℕ → List Entry → List ℕ
chain_from before [] = before
chain_from before (e ∷ es) = chain_from (chain_after before (payload e)) es

unfoldable pub chain : List Entry → List ℕ
chain h = chain_from first_chain h

-- ---- from which entry on each carries its chain

abbrev pub is_switch : Entry → Bool
is_switch (Switch m c) = true
is_switch _ = false

-- whether a Switch stands: an entry that comes next then has its chain behind it
abbrev pub has_switch : List Entry → Bool
has_switch h = list_any is_switch h

-- a Switch tells this chain
abbrev pub Tells : List ℕ → Entry → Type 0
Tells chain (Switch m c) = c ≡ chain
Tells chain _ = Unit {0}

-- a Switch tells the chain of the entries before it
abbrev pub TellsChain : List Entry → Entry → Type 0
TellsChain h e = Tells (chain h) e
