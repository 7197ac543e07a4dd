-- A report as JSON.
use Rattle.std.specs.Prelude.{ℕ, List, ◌++◌, map, codes, decimal}
use Rattle.serde_json.specs.Data.{Data, string, array, object, no_members, member}
use Rattle.serde_json.specs.View.{items_of}
use Rattle.serde_json.specs.Written.{compact_text}
use Rattle.audit_model.specs.declared.sums.Report.{Report}
use Rattle.audit_model.specs.declared.sums.VendorSums.{VendorSums}

-- a sum, as a text of its digits, so that no reader rounds it
abbrev pub sum_data : ℕ → Data
sum_data n = string (decimal n)

-- the sums of a vendor; members stand in the order of their names
abbrev pub vendor_data : VendorSums → Data
vendor_data v = object
    (member (codes "lapsed") (sum_data v.lapsed)
    (member (codes "name") (string v.name)
    (member (codes "outstanding") (sum_data v.outstanding)
    (member (codes "takings") (sum_data v.takings) no_members))))

-- the broker, its sums, and those of the vendors
abbrev pub report_data : Report → Data
report_data r = object
    (member (codes "accounts") (sum_data r.sums.accounts)
    (member (codes "broker") (string r.broker)
    (member (codes "fees") (sum_data r.sums.fees)
    (member (codes "lapsed") (sum_data r.sums.lapsed)
    (member (codes "outstanding") (sum_data r.sums.outstanding)
    (member (codes "paid_in") (sum_data r.sums.paid_in)
    (member (codes "paid_out") (sum_data r.sums.paid_out)
    (member (codes "vendors") (array (items_of (map vendor_data r.sums.vendors))) no_members))))))))

-- its text without spaces, and a line end
abbrev pub report_json : Report → List ℕ
report_json r = compact_text (report_data r) ++ codes "\n"
