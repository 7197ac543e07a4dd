-- The lines of a report.
use Rattle.std.specs.Prelude.{ℕ, List, ◌++◌, flat_map, codes, decimal}
use Rattle.audit_model.specs.declared.sums.Report.{Report}
use Rattle.audit_model.specs.declared.sums.VendorSums.{VendorSums}

-- the broker's name
abbrev pub broker_line : List ℕ → List ℕ
broker_line name = codes "broker " ++ name ++ codes "\n"

-- a word and a number
abbrev pub number_line : List ℕ → ℕ → List ℕ
number_line word n = word ++ codes " " ++ decimal n ++ codes "\n"

-- the sums of a vendor
abbrev pub vendor_line : VendorSums → List ℕ
vendor_line v =
    codes "vendor " ++ v.name ++ codes " takings " ++ decimal v.takings ++ codes " outstanding " ++ decimal v.outstanding
    ++ codes " lapsed " ++ decimal v.lapsed ++ codes "\n"

abbrev pub vendor_lines : List VendorSums → List ℕ
vendor_lines vendors = flat_map vendor_line vendors

-- the broker, its sums, those of the vendors, and that the books are balanced
abbrev pub report_text : Report → List ℕ
report_text r =
    broker_line r.broker
    ++ number_line (codes "paid-in") r.sums.paid_in
    ++ number_line (codes "paid-out") r.sums.paid_out
    ++ number_line (codes "accounts") r.sums.accounts
    ++ number_line (codes "fees") r.sums.fees
    ++ number_line (codes "outstanding") r.sums.outstanding
    ++ number_line (codes "lapsed") r.sums.lapsed
    ++ vendor_lines r.sums.vendors
    ++ codes "balanced\n"
