-- What the outside of a program means that tells nothing of its bytes.
use Rattle.std.specs.Prelude.{ℕ, false}
use Rattle.mc_outside.specs.Silent.{Silent}

-- a book by itself, by how many of its calls failed; it has no links
abbrev pub book_counts : ℕ → Silent
book_counts n = record { disk_faults = n; link_faults = 0; stands = false; at_end = false; over = false }
