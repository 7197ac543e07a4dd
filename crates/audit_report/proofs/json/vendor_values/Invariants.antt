use Rattle.std.proofs.Common.{◌≡◌, ◌++◌, map, drop}
use Rattle.serde_json.specs.View.{view}
use Rattle.audit_report.specs.Json.{vendor_data}
use Rattle.audit_report.proofs.json.vendor_values.Given as goal

abbrev pub invariant-loop-vendor : goal.invariant-loop-vendor
invariant-loop-vendor l = map view l.values.items ++ map vendor_data (drop l.vendor-index l.vendors) ≡ map vendor_data l.vendors
