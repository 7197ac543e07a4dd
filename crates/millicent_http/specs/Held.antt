-- What a reader of heads holds.
use Rattle.std.specs.Prelude.{◌≡◌, ℕ, ◌+◌, ◌≤◌, List, [], length, take, slice_range}
use Rattle.millicent_http.specs.HeadEnds.{line_ends, HasNoEnd}
use Rattle.millicent_http.specs.Items.{max_head}

pub record Held : Type 0 where
  -- the bytes received that belong to no item given
  pub bytes : List ℕ
  -- how many items were given, counted up to 1,000
  pub given : ℕ

abbrev pub nothing_held : Held
nothing_held = record { bytes = []; given = 0 }

-- the held bytes lie from start to end of the buffer; the first skip of them are line ends, and no
-- empty line ends in the first searched of them
pub record IsBuffer (buf : List ℕ) (start end skip searched : ℕ) : Type 0 where
  pub size : length buf ≡ max_head
  pub order : start + searched ≤ end
  pub within : end ≤ max_head
  pub skipped : skip ≤ searched
  pub front : line_ends (take skip (slice_range buf start end)) ≡ skip
  pub none : HasNoEnd (slice_range buf start end) searched
