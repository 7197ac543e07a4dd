-- Books that are left alone, or only read.
use Rattle.std.proofs.Common.{List, [], ◌∷◌}
use Rattle.std.specs.List.{AllZip}
use Rattle.mc_outside.specs.DiskView.{DiskView, IsDisk, OnlyRead}
use Rattle.mc_outside.proofs.Runs.{read_none}

-- left alone, they read as before
pub all_read : {D : Type 0} (view : D → DiskView) → ((d : D) → IsDisk (view d)) → (xs : List D) → AllZip (λ a b. OnlyRead (view a) (view b)) xs xs
all_read view is_disk [] = tt
all_read view is_disk (d ∷ ds) = (read_none (view d) (is_disk d), all_read view is_disk ds)
