use Rattle.std.proofs.Common.{List, map, take, subst}
use Rattle.std.specs.List.{AllByRecursion}
use Rattle.ledger_model.specs.Histories.{History}
use Rattle.world_model.proofs.Theorems.{stay_lawful}
use Rattle.mc_world.specs.declared.world.World.{World as Left}
use Rattle.mc_world.specs.Games.{IsRead, IsPlayed, Shows, first_world, world_of, event_of}
use Rattle.mc_world.proofs.Playing.{all_fit, is_setup, played_more, played_whole, is_played, if_ok}
use Rattle.mc_world.proofs.schedule.play.Goals as goal

pub begin-requires : goal.begin-requires
begin-requires c = record { in_range = all_fit c.args.setup.houses.items (subst (λ (hs : List History). AllByRecursion IsRead hs) c.deref.ensures.value c.histories_are_read.ensures) }

pub loop-event-init : goal.loop-event-init
loop-event-init c = c.in_ok-game.ensures.begun

pub step-requires-clause-lawful : goal.step-requires-clause-lawful
step-requires-clause-lawful c =
    stay_lawful c.args.setup.limits (first_world c.args.setup) (world_of c.loop-event.game) (map event_of (take c.loop-event.event-index c.args.events.now))
    (is_setup c.args.setup c.requires.setup (subst (λ (hs : List History). AllByRecursion IsRead hs) c.deref.ensures.value c.histories_are_read.ensures) (subst (λ (hs : List History). AllByRecursion IsRead hs) c.deref-2.ensures.value c.histories_are_read-2.ensures)) c.loop-event.invariant

pub loop-event-preserved : goal.loop-event-preserved
loop-event-preserved c =
    played_more c.args.setup.limits (first_world c.args.setup) (world_of c.loop-event.game) (world_of c.step.new.game) c.args.events.now c.loop-event.event-index c.event-item.result c.loop-event-test.true c.event-item.is
    c.loop-event.invariant c.in_ok-step.ensures.happens

pub returns : goal.returns
returns c =
    let plays = played_whole c.args.setup.limits (first_world c.args.setup) (world_of c.loop-event.game) c.args.events.now c.loop-event.event-index c.loop-event-test.false c.loop-event.invariant in
    record {
      played = if_ok (λ (left : Left). Shows left (world_of c.loop-event.game)) (λ (left : Left). IsPlayed c.args.setup.limits (first_world c.args.setup) (map event_of c.args.events.now) left) c.end.result
          (λ left shows. is_played c.args.setup.limits (first_world c.args.setup) (world_of c.loop-event.game) (map event_of c.args.events.now) left (is_setup c.args.setup c.requires.setup (subst (λ (hs : List History). AllByRecursion IsRead hs) c.deref.ensures.value c.histories_are_read.ensures) (subst (λ (hs : List History). AllByRecursion IsRead hs) c.deref-2.ensures.value c.histories_are_read-2.ensures)) plays shows) c.end.ensures.shown;
    }
