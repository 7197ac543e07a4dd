use Rattle.std.proofs.Common.{[], ℕ, Option, ap, sym, subst}
use Rattle.std.specs.Prelude.{option_and_then, slice_get, unwrap_or}
use Rattle.broker_stalls.specs.Stalls.{empty_stall}
use Rattle.broker_stalls.specs.Shown.{Shows}
use Rattle.broker_stalls.proofs.VendorLaws.{nothing_shown}
use Rattle.broker_stalls.proofs.stalls.Stalls.new.Goals as goal

pub returns : goal.returns
returns c vendor =
    subst (Shows [] vendor) (sym (ap (λ (o : Option ℕ). unwrap_or (option_and_then (slice_get c.new.result.items) o) empty_stall) (c.new-2.ensures.places vendor))) (nothing_shown vendor)
