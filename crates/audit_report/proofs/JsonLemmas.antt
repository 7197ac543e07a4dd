-- A report has no number that JSON's readers may round.
use Rattle.std.proofs.Common.{◌≡◌, false, List, [], ◌∷◌, map, refl}
use Rattle.serde_json.specs.View.{items_of}
use Rattle.serde_json.specs.Written.{has_float, items_have_float}
use Rattle.audit_model.specs.declared.sums.Report.{Report}
use Rattle.audit_model.specs.declared.sums.VendorSums.{VendorSums}
use Rattle.audit_report.specs.Json.{report_data, vendor_data}

none_of_vendors : (vs : List VendorSums) → items_have_float (items_of (map vendor_data vs)) ≡ false
none_of_vendors [] = refl
none_of_vendors (v ∷ vs) = none_of_vendors vs

pub no_float : (r : Report) → has_float (report_data r) ≡ false
no_float r = rw none_of_vendors refl
