-- The sums of the books of a broker and of vendors.
use Rattle.std.specs.Prelude.{List, map}
use Rattle.ledger_model.specs.Histories.{History}
use Rattle.ledger_model.specs.Houses.{site_name}
use Rattle.ledger_model.specs.Accounts.{all_balances}
use Rattle.ledger_model.specs.Pieces.{own_out}
use Rattle.ledger_model.specs.Sums.{paid_in, paid_out, fees, takings, handed_out, outstanding, lapsed}
use Rattle.audit_model.specs.declared.sums.VendorSums.{VendorSums}
use Rattle.audit_model.specs.declared.sums.Sums.{Sums}

-- those of a vendor's book beside a broker's: of what the broker sold of it, and of its own change
abbrev pub vendor_sums : History → History → VendorSums
vendor_sums b v = record {
  name = site_name v;
  takings = takings v;
  outstanding = outstanding (handed_out b v) v;
  lapsed = lapsed (handed_out b v) v;
}

-- those of a broker's book and of the vendors' beside it, in their order
abbrev pub sums_of : History → List History → Sums
sums_of b vs = record {
  paid_in = paid_in b;
  paid_out = paid_out b;
  accounts = all_balances b;
  fees = fees b;
  outstanding = outstanding (own_out b) b;
  lapsed = lapsed (own_out b) b;
  vendors = map (vendor_sums b) vs;
}
