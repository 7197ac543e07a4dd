-- The range of a keeping time.
use Rattle.std.specs.Prelude.{ℕ}
use Rattle.mc_records.specs.declared.ranges.TheConstants.{LEAST_KEEP, MOST_KEEP}
use Rattle.command_table.specs.Ranges.{IsWithin}

-- 60 to 86,400 seconds
abbrev pub IsKeepingTime : ℕ → Type 0
IsKeepingTime keep = IsWithin LEAST_KEEP MOST_KEEP keep
