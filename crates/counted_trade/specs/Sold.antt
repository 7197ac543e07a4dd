-- What an entry sells under a licence.
use Rattle.std.specs.Prelude.{Option, Some, None, option_and_then, if◌then◌else◌}
use Rattle.mc_records.specs.Entry.{Entry}
use Rattle.ledger_model.specs.Stock.{Sale, sale_of}

abbrev pub unless_stock : Sale → Option Sale
unless_stock s = if s.stock then None else Some s

-- the sale of an entry that is one under a licence
abbrev pub licensed_sale : Entry → Option Sale
licensed_sale e = option_and_then unless_stock (sale_of e)
