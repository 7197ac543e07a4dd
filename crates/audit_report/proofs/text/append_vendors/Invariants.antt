use Rattle.std.proofs.Common.{◌≡◌, ◌++◌, drop}
use Rattle.audit_report.specs.Text.{vendor_lines}
use Rattle.audit_report.proofs.text.append_vendors.Given as goal

abbrev pub invariant-loop-vendor : goal.invariant-loop-vendor
invariant-loop-vendor l = l.lines.items ++ vendor_lines (drop l.vendor-index l.vendors) ≡ l.fn.lines.items ++ vendor_lines l.vendors
