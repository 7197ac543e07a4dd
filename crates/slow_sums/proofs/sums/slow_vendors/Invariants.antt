use Rattle.std.proofs.Common.{◌≡◌, ◌++◌, map, drop}
use Rattle.audit_model.specs.Sums.{vendor_sums}
use Rattle.slow_sums.proofs.sums.slow_vendors.Given as goal

abbrev pub invariant-loop-vendor : goal.invariant-loop-vendor
invariant-loop-vendor l = l.all.items ++ map (vendor_sums l.broker) (drop l.vendor-index l.vendors) ≡ map (vendor_sums l.broker) l.vendors
