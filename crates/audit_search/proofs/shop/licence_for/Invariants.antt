use Rattle.std.proofs.Common.{◌≡◌, drop}
use Rattle.audit_search.specs.Shops.{licensed}
use Rattle.audit_search.proofs.shop.licence_for.Given as goal

abbrev pub invariant-loop-licence : goal.invariant-loop-licence
invariant-loop-licence l = licensed (drop l.licence-index l.licences) l.name ≡ licensed l.licences l.name
