-- Pieces, as sums and strangers ask of them.
use Rattle.std.specs.Prelude.{ℕ, if◌then◌else◌, List, Option, None}
use Rattle.scrip_form.specs.Scrip.{Scrip}
use Rattle.ledger_model.specs.Histories.{History}
use Rattle.ledger_model.specs.Stock.{Sale, is_of_vendor, sold_piece}
use Rattle.slow_sums.specs.declared.sold.Sold.{Sold}

-- a sale, as it is read
abbrev pub sale_by : Sold → Sale
sale_by s = record { vendor = s.vendor.now; value = s.value; stock = s.stock; id = s.id }

-- the piece of a sale, where it is of a vendor
abbrev pub sold_to : History → List ℕ → Sale → Option Scrip
sold_to h vendor s = if is_of_vendor vendor s then sold_piece h s else None
