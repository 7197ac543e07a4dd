-- Entries that follow one another.
use Rattle.std.specs.Prelude.{List, [], ◌∷◌, ◌++◌}
use Rattle.mc_records.specs.Entry.{Entry}

-- each of some entries may follow those before it, by a relation that says which entries may follow which
abbrev pub AllFollowBy : (List Entry → Entry → Type 0) → List Entry → List Entry → Type 0
AllFollowBy may before [] = Unit {0}
AllFollowBy may before (e ∷ es) = may before e × AllFollowBy may (before ++ e ∷ []) es
