use Rattle.std.proofs.Common.{ap, arith}
use Rattle.house_core.specs.Session.{State}
use Rattle.world_model.specs.Worlds.{with_house}
use Rattle.world_model.proofs.WalletFits.{fits_time}
use Rattle.mc_world.specs.Games.{world_of}
use Rattle.mc_world.proofs.Happening.{get_none, get_at, house_at, restart_absent, restarted}
use Rattle.mc_world.proofs.game.restart.Goals as goal

pub returns-then-place-len : goal.returns-then-place-len
returns-then-place-len c = record { happens = restart_absent c.args.limits (world_of c.args.game.now) c.args.party (get_none c.args.game.now.houses.items c.args.party (omega (arith, c.args.game.now.houses.ok.0))) }

pub restart-requires : goal.restart-requires
restart-requires c =
    let at = house_at c.args.limits (world_of c.args.game.now) c.args.party c.index_mut.result.now c.requires.lawful (get_at c.args.game.now.houses.items c.args.party c.index_mut.result.now (omega (arith, c.args.game.now.houses.ok.0)) c.index_mut.ensures.value) in
    record { in_range = fits_time c.index_mut.result.now.history at.book.fits }

pub returns : goal.returns
returns c = record {
  happens = restarted c.args.limits (world_of c.args.game.now) (with_house (world_of c.args.game.now) c.args.party c.restart.new.self) c.args.party c.index_mut.result.now (get_at c.args.game.now.houses.items c.args.party c.index_mut.result.now (omega (arith, c.args.game.now.houses.ok.0)) c.index_mut.ensures.value) (ap (λ (s : State). with_house (world_of c.args.game.now) c.args.party s) c.restart.ensures);
}
