-- How a site is founded.
use Rattle.std.specs.Prelude.{ℕ, Some, unwrap_or}
use Rattle.mc_records.specs.Entry.{Entry, Site}
use Rattle.site_words.specs.Words.{Founder, own_terms}
use Rattle.site_words.specs.declared.founder.TheConstants.{KEEP}

-- A site of a kind is founded at a moment, with the keeping time of `KEEP` where the words say none.
abbrev pub site_of : ℕ → Founder → ℕ → Entry
site_of kind founder moment =
    Site moment kind founder.name (Some (record { keep = unwrap_or founder.keep KEEP; fee = founder.fee; clear = founder.clear; terms = own_terms founder }))
