use Rattle.std.proofs.Common.{map, take}
use Rattle.world_model.specs.Worlds.{Plays}
use Rattle.mc_world.specs.Games.{first_world, world_of, event_of}
use Rattle.mc_world.proofs.schedule.play.Given as goal

abbrev pub invariant-loop-event : goal.invariant-loop-event
invariant-loop-event l = Plays l.limits (first_world l.fn.setup) (map event_of (take l.event-index l.events)) (world_of l.game)
