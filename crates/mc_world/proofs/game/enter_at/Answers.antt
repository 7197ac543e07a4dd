use Rattle.std.proofs.Common.{◌≡◌, Some, sym, subst, arith, slice_get}
use Rattle.house_core.specs.Session.{State}
use Rattle.mc_world.specs.Houses.{IsHouseAt}
use Rattle.mc_world.specs.Games.{world_of}
use Rattle.mc_world.proofs.Happening.{get_none, get_at, house_at, enter_absent, entered_there}
use Rattle.mc_world.proofs.game.enter_at.Goals as goal

pub returns-then-place-len : goal.returns-then-place-len
returns-then-place-len c = record { happens = enter_absent c.args.limits (world_of c.args.game.now) c.args.house c.args.payload.now (get_none c.args.game.now.houses.items c.args.house (omega (arith, c.args.game.now.houses.ok.0))) }

pub enter-requires-clause-house : goal.enter-requires-clause-house
enter-requires-clause-house c =
    subst (λ (s : State). IsHouseAt c.args.limits s) (sym c.replace-before.ensures.value) (house_at c.args.limits (world_of c.args.game.now) c.args.house c.index_mut.result.now c.requires.lawful (get_at c.args.game.now.houses.items c.args.house c.index_mut.result.now (omega (arith, c.args.game.now.houses.ok.0)) c.index_mut.ensures.value))

pub returns : goal.returns
returns c = record {
  happens = entered_there c.args.limits (world_of c.args.game.now) c.args.house c.args.payload.now c.replace-before.result c.in_ok-game.field-0 c.replace-before.new.dest
      (subst (λ (s : State). slice_get c.args.game.now.houses.items c.args.house ≡ Some s) (sym c.replace-before.ensures.value) (get_at c.args.game.now.houses.items c.args.house c.index_mut.result.now (omega (arith, c.args.game.now.houses.ok.0)) c.index_mut.ensures.value)) c.in_ok-game.ensures.entered;
}
