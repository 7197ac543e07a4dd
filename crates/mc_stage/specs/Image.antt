-- What the choices of a crash leave.
use Rattle.std.specs.Prelude.{ℕ, ◌+◌, ◌*◌, ◌%◌, ◌==◌, Bool, List, [], ◌∷◌, if◌then◌else◌}
use Rattle.mc_stage.specs.Model.{Model}

-- the byte that choice n puts at a place that isn't synced
abbrev pub fill : ℕ → ℕ → ℕ
fill n place = (n * place + 1) % 256

-- the bytes from a place on: those that are synced stay
abbrev pub image_from : ℕ → ℕ → List ℕ → List Bool → List ℕ
image_from n place [] marks = []
image_from n place (x ∷ xs) [] = fill n place ∷ image_from n (place + 1) xs []
image_from n place (x ∷ xs) (kept ∷ marks) = (if kept then x else fill n place) ∷ image_from n (place + 1) xs marks

-- 0 is what a read gives, 1 what the last sync left
abbrev pub chosen : ℕ → Model → List ℕ
chosen n m = if n == 0 then m.contents else if n == 1 then m.synced else image_from n 0 m.contents m.marks
