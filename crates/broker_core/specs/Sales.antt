-- What a broker sells of a vendor.
use Rattle.std.specs.Prelude.{◌≡◌, ℕ, List, true, false, Result, Ok}
use Rattle.scrip_form.specs.Identities.{series_of}
use Rattle.scrip_form.specs.Issuing.{Issuing}
use Rattle.scrip_form.specs.Scrip.{Scrip, scrip_body}
use Rattle.scrip_certs.specs.Digests.{certificate, customer_secret}
use Rattle.mc_records.specs.Entry as entries
use Rattle.kept_replies.specs.declared.deed.Deed.{Deed}
use Rattle.kept_replies.specs.declared.deed.Deed.TheVariants as kept
use Rattle.ledger_model.specs.Lines.{Stop, ◌>>=◌}
use Rattle.ledger_model.specs.Stages.{next_by}
use Rattle.ledger_model.specs.Stock.{licensed_piece}
use Rattle.broker_stock.specs.declared.piece.StockPiece.{StockPiece}
use Rattle.broker_stalls.specs.Listed.{piece_in_stock}

-- a deed that sells scrip of a vendor
abbrev pub IsSale : Deed → Type 0
IsSale (kept.Sale piece cert secret stock) = Unit {0}
IsSale _ = ⊥

-- the sale of a piece that is made under a licence, whose customer's identity is its own
abbrev pub licensed_deed : Issuing → Scrip → Deed
licensed_deed terms p = kept.Sale p (certificate terms (scrip_body p) p.id) (customer_secret terms p.cust p.version) false

-- the sale of a piece in stock
abbrev pub stock_deed : List ℕ → ℕ → StockPiece → Deed
stock_deed vendor value p = kept.Sale (piece_in_stock vendor value p) p.cert p.secret true

-- a deed is the sale of some piece of a vendor and a value that is made under a licence, in the version of its series
abbrev pub IsLicensed : Issuing → (ℕ → ℕ) → List ℕ → ℕ → Deed → Type 0
IsLicensed terms version vendor value (kept.Sale piece cert secret stock) =
    kept.Sale piece cert secret stock ≡ licensed_deed terms (licensed_piece (version (series_of piece.id)) terms vendor value piece.id)
IsLicensed terms version vendor value _ = ⊥

-- the sale of the next piece of a series in which so many pieces stand
abbrev pub sale_of_next : ℕ → ℕ → ℕ → Result entries.Deed Stop
sale_of_next limit series count = do
  id ← next_by limit series count
  Ok (entries.sale false id)
