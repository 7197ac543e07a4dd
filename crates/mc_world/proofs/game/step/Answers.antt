use Rattle.std.proofs.Common.{ℕ, List, subst}
use Rattle.std.specs.Prelude.{OnOk}
use Rattle.world_model.specs.Worlds.{Enter, Forge, Tell, Happens}
use Rattle.mc_world.specs.declared.event.Event.TheVariants as events
use Rattle.mc_world.specs.Games.{world_of}
use Rattle.mc_world.proofs.Happening.{happens_as}
use Rattle.mc_world.proofs.game.step.Goals as goal

pub returns-in-Enter : goal.returns-in-Enter
returns-in-Enter c = record { happens = happens_as c.args.limits (world_of c.args.game.now) (world_of c.enter_at.new.game) c.args.event.now (events.Enter c.in-Enter.house c.in-Enter.payload) c.enter_at.result c.in-Enter.is (subst (λ (b : List ℕ). OnOk c.enter_at.result (Happens c.args.limits (world_of c.args.game.now) (Enter c.in-Enter.house b) (world_of c.enter_at.new.game))) c.deref.ensures.value c.enter_at.ensures.happens) }

pub returns-in-Ask : goal.returns-in-Ask
returns-in-Ask c = record { happens = happens_as c.args.limits (world_of c.args.game.now) (world_of c.ask_at.new.game) c.args.event.now (events.Ask c.in-Ask.wallet c.in-Ask.ask c.in-Ask.reading) c.ask_at.result c.in-Ask.is c.ask_at.ensures.happens }

pub returns-in-Again : goal.returns-in-Again
returns-in-Again c = record { happens = happens_as c.args.limits (world_of c.args.game.now) (world_of c.send_again_at.new.game) c.args.event.now (events.Again c.in-Again.wallet c.in-Again.peer) c.send_again_at.result c.in-Again.is c.send_again_at.ensures.happens }

pub returns-in-Forge : goal.returns-in-Forge
returns-in-Forge c = record { happens = happens_as c.args.limits (world_of c.args.game.now) (world_of c.forge.new.game) c.args.event.now (events.Forge c.in-Forge.bytes) c.forge.result c.in-Forge.is (subst (λ (b : List ℕ). OnOk c.forge.result (Happens c.args.limits (world_of c.args.game.now) (Forge b) (world_of c.forge.new.game))) c.deref-in-Forge.ensures.value (c.forge.ensures.happens c.args.limits)) }

pub returns-in-Tell : goal.returns-in-Tell
returns-in-Tell c = record { happens = happens_as c.args.limits (world_of c.args.game.now) (world_of c.tell.new.game) c.args.event.now (events.Tell c.in-Tell.bytes) c.tell.result c.in-Tell.is (subst (λ (b : List ℕ). OnOk c.tell.result (Happens c.args.limits (world_of c.args.game.now) (Tell b) (world_of c.tell.new.game))) c.deref-in-Tell.ensures.value (c.tell.ensures.happens c.args.limits)) }

pub returns-in-Deliver : goal.returns-in-Deliver
returns-in-Deliver c = record { happens = happens_as c.args.limits (world_of c.args.game.now) (world_of c.deliver_at.new.game) c.args.event.now (events.Deliver c.in-Deliver.message c.in-Deliver.house c.in-Deliver.reading) c.deliver_at.result c.in-Deliver.is c.deliver_at.ensures.happens }

pub returns-in-Return : goal.returns-in-Return
returns-in-Return c = record { happens = happens_as c.args.limits (world_of c.args.game.now) (world_of c.return_to.new.game) c.args.event.now (events.Return c.in-Return.reply c.in-Return.wallet c.in-Return.request c.in-Return.reading) c.return_to.result c.in-Return.is c.return_to.ensures.happens }

pub returns-in-Restart : goal.returns-in-Restart
returns-in-Restart c = record { happens = happens_as c.args.limits (world_of c.args.game.now) (world_of c.restart.new.game) c.args.event.now (events.Restart c.in-Restart.party) c.restart.result c.in-Restart.is c.restart.ensures.happens }
