-- A sale, as it is kept.
use Rattle.ledger_model.specs.Stock.{Sale}
use Rattle.audit_model.specs.declared.sold.Sold.{Sold}

abbrev pub sale_by : Sold → Sale
sale_by s = record { vendor = s.vendor; value = s.value; stock = s.stock; id = s.id }
