use Rattle.std.proofs.Common.{subst}
use Rattle.std.specs.List.{AllByRecursion}
use Rattle.mc_records.specs.Entry.{Fits}
use Rattle.world_model.proofs.WalletFits.{fits_time}
use Rattle.mc_world.proofs.schedule.begin.Goals as goal

pub opened-requires : goal.opened-requires
opened-requires c = fits_time c.in-Some.history (subst (AllByRecursion (λ h. AllByRecursion Fits h)) c.in-Some.ensures.steps.0 c.loop-history.invariant.fits).0
