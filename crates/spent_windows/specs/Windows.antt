-- Which identities are spent, as windows: 4,096 serials of one series at a time.
use Rattle.std.specs.Prelude.{ℕ, ◌<◌, ◌/◌, ◌%◌, ◌^◌, ◌-◌, ◌==◌, nat_lt, Bool, true, false, IsFalse, List, slice_index, Option, Some, None, IfSome, option_map, unwrap_or, is_some, find, if◌then◌else◌}
use Rattle.std.specs.List.{AllPairs, list_all}
use Rattle.std.specs.Int.{bit_at}

-- A window: its number, which its identities have in common (the series, and the serial without its
-- last 12 bits); the end of the series, in seconds since 1970; and its bits, 64 in a word. A window
-- without bits is full: each of its identities is marked.
pub record WindowView : Type 0 where
  pub number : ℕ
  pub end : ℕ
  pub words : Option (List ℕ)

-- the number of the window of an identity
abbrev pub window_of : ℕ → ℕ
window_of id = id / 2 ^ 12

-- the bit of an identity in its window
abbrev pub bit_of : ℕ → ℕ
bit_of id = id % 2 ^ 12

-- whether a bit is set in these words
abbrev pub has_bit : List ℕ → ℕ → Bool
has_bit words bit = bit_at (slice_index words (bit / 64)) (bit % 64) == 1

-- whether a window has the mark of a bit
abbrev pub has_mark : WindowView → ℕ → Bool
has_mark w bit = unwrap_or (option_map (λ words. has_bit words bit) w.words) true

-- whether a window has a number
abbrev pub is_numbered : ℕ → WindowView → Bool
is_numbered number w = w.number == number

-- ---- what windows tell of an identity

-- whether an identity is marked: its window is among these and has its mark
unfoldable pub is_marked : List WindowView → ℕ → Bool
is_marked ws id = unwrap_or (option_map (λ w. has_mark w (bit_of id)) (find (is_numbered (window_of id)) ws)) false

-- the end of the window of an identity, where it is among these
unfoldable pub end_of : List WindowView → ℕ → Option ℕ
end_of ws id = option_map (λ w. w.end) (find (is_numbered (window_of id)) ws)

-- whether there is room to mark an identity: its window is among these
abbrev pub has_room : List WindowView → ℕ → Bool
has_room ws id = is_some (end_of ws id)

-- ---- ends

-- whether a window ends after a time
abbrev pub ends_after : ℕ → WindowView → Bool
ends_after now w = nat_lt now w.end

-- an end, where it is after a time
abbrev pub later_than : ℕ → Option ℕ → Option ℕ
later_than now None = None
later_than now (Some end) = if nat_lt now end then Some end else None

-- whether an end, where there is one, is after a time
abbrev pub lasts : ℕ → Option ℕ → Bool
lasts now None = true
lasts now (Some end) = nat_lt now end

-- ---- what holds of all windows that are kept

-- their numbers rise, so that no two are of the same serials
abbrev pub AreInOrder : List WindowView → Type 0
AreInOrder ws = AllPairs (λ v w. v.number < w.number) ws

-- whether each bit is set in these words
abbrev pub is_full : List ℕ → Bool
is_full words = list_all (λ word. word == 2 ^ 64 - 1) words

-- no bits are kept of a window that is full
abbrev pub IsCompact : WindowView → Type 0
IsCompact w = IfSome w.words (λ words. IsFalse (is_full words))
