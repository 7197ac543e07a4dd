-- The lines of pieces of the house's own.
use Rattle.std.specs.Prelude.{ℕ, List, [], ◌∷◌, ◌++◌}
use Rattle.scrip_form.specs.Issuing.{Issuing}
use Rattle.scrip_form.specs.Scrip.{Scrip, scrip_body, scrip_text}
use Rattle.scrip_form.specs.Identities.{series_of}
use Rattle.scrip_certs.specs.Digests.{certificate, customer_secret}
use Rattle.mc_records.specs.Entry.{Held}
use Rattle.mc_records.specs.PieceLine.{piece_line}

-- the text and the customer secret of a piece that the house's own terms certify, by the versions of series
abbrev pub own_held : (ℕ → ℕ) → Issuing → Scrip → Held
own_held version terms p = record {
  text = scrip_text p (certificate terms (scrip_body p) p.id);
  secret = customer_secret terms p.cust (version (series_of p.cust));
}

-- its line
abbrev pub own_line : (ℕ → ℕ) → Issuing → Scrip → List ℕ
own_line version terms p = piece_line (own_held version terms p)

abbrev pub piece_lines : (ℕ → ℕ) → Issuing → List Scrip → List ℕ
piece_lines version terms [] = []
piece_lines version terms (p ∷ ps) = own_line version terms p ++ piece_lines version terms ps
