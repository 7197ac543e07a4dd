-- How the program stores windows and finds them. No clause of a public call cites this.
use Rattle.std.specs.Prelude.{◌≡◌, ℕ, ◌<◌, ◌≤◌, false, List, length, slice_index_or, None}
use Rattle.std.specs.List.{All, insert}
use Rattle.spent_windows.specs.Windows.{WindowView, has_mark, AreInOrder, IsCompact}

-- What holds of what is stored: the order, a time before which no window ends, and that no full window
-- keeps its bits.
pub record AreStored (ws : List WindowView) (first : ℕ) : Type 0 where
  pub order : AreInOrder ws
  pub ends : All (λ w. first ≤ w.end) ws
  pub compact : All IsCompact ws

-- a window to read where a list has none
abbrev pub no_window : WindowView
no_window = record { number = 0; end = 0; words = None }

-- the number of the window at a place of the list
abbrev pub number_at : List WindowView → ℕ → ℕ
number_at ws i = let w = slice_index_or ws i no_window in w.number

-- the window of a number is at a place of the list
pub record IsAt (ws : List WindowView) (number i : ℕ) : Type 0 where
  pub within : i < length ws
  pub there : number_at ws i ≡ number

-- there is none, and a place is the one for it: smaller numbers before, and greater ones from there on
pub record IsGapFor (ws : List WindowView) (number i : ℕ) : Type 0 where
  pub within : i ≤ length ws
  pub smaller : (j : ℕ) → j < i → number_at ws j < number
  pub greater : (j : ℕ) → i ≤ j → j < length ws → number < number_at ws j

-- a window without a mark was put at a place
pub record IsAdded (old new : List WindowView) (i number end : ℕ) : Type 0 where
  pub window : WindowView
  pub numbered : window.number ≡ number
  pub ends : window.end ≡ end
  pub blank : (bit : ℕ) → bit < 4096 → has_mark window bit ≡ false
  pub compact : IsCompact window
  pub put : new ≡ insert old i window
