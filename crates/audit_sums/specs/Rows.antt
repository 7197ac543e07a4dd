-- What is kept of an entry.
use Rattle.std.specs.Prelude.{ℕ, List, [], filter_map, Option, Some, None, option_map, is_some}
use Rattle.mc_records.specs.Entry.{Held, Entry, Accept, Mint, Licence, Stock}
use Rattle.ledger_model.specs.Pieces.{piece_of}
use Rattle.ledger_model.specs.Stock.{sale_of}
use Rattle.audit_model.specs.Parts.{part_of}
use Rattle.audit_sums.specs.declared.rows.Acceptance.{Acceptance}
use Rattle.audit_sums.specs.declared.rows.Run.{Run}
use Rattle.audit_sums.specs.declared.rows.Licence as rows
use Rattle.audit_sums.specs.declared.rows.Stocked.{Stocked}

-- of an Accept entry: the piece, where its text is one, and whether scrip was sold for it
abbrev pub acceptance_of : Entry → Option Acceptance
acceptance_of (Accept m scrip target sign price change deed) =
    Some (record { piece = option_map part_of (piece_of scrip); sale = is_some (sale_of (Accept m scrip target sign price change deed)) })
acceptance_of _ = None

-- of a Mint entry: its pieces
abbrev pub run_of : Entry → Option Run
run_of (Mint m reference count value first) = Some (record { first = first; count = count; value = value })
run_of _ = None

-- of a Licence entry: the vendor and the terms
abbrev pub licence_of : Entry → Option rows.Licence
licence_of (Licence m vendor terms) = Some (record { vendor = vendor; terms = terms })
licence_of _ = None

-- of a text that is put into stock for a vendor: the piece
abbrev pub stocked_text : List ℕ → List ℕ → Option Stocked
stocked_text vendor text = option_map (λ p. record { vendor = vendor; part = part_of p }) (piece_of text)

abbrev pub stocked_held : List ℕ → Held → Option Stocked
stocked_held vendor held = stocked_text vendor held.text

-- of a Stock entry: its pieces, each with the vendor
abbrev pub stocked_of : Entry → List Stocked
stocked_of (Stock m vendor pieces) = filter_map (stocked_held vendor) pieces
stocked_of _ = []
