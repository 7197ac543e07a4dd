-- Entries that accept nothing.
use Rattle.mc_records.specs.Entry.{Entry, Site, Accept, Draw}

-- no entry that founds a site
abbrev pub IsNoSite : Entry → Type 0
IsNoSite (Site m kind name house) = ⊥
IsNoSite _ = Unit {0}

-- An entry by a command of the house's operator: it founds no site, and is no request that was accepted.
abbrev pub IsCommand : Entry → Type 0
IsCommand (Site m kind name house) = ⊥
IsCommand (Accept m scrip target sign price change deed) = ⊥
IsCommand (Draw m target sign drawn) = ⊥
IsCommand _ = Unit {0}
