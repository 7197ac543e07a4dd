use Rattle.std.proofs.Common.{◌≡◌, ◌∙◌, ℕ, List, [], Some, sym, ap, subst, map, arith, slice_get}
use Rattle.std.specs.Global.{Vec}
use Rattle.house_core.specs.Session.{State}
use Rattle.world_model.specs.Worlds.{Message, clamped}
use Rattle.mc_world.specs.Houses.{IsHouseAt}
use Rattle.mc_world.specs.Links.{IsDelivered}
use Rattle.mc_world.specs.Games.{world_of}
use Rattle.mc_world.proofs.Fronts.{map_snoc}
use Rattle.mc_world.proofs.Happening.{get_none, get_at, house_at, deliver_no_message, deliver_no_house, delivered_there}
use Rattle.mc_world.proofs.game.deliver_at.Goals.{then-from-len-via-then-from-len, then-from-len-via-else-from-len+then-to-len}
use Rattle.mc_world.proofs.game.deliver_at.Goals as goal

pub returns-then-from-len : goal.returns-then-from-len
returns-then-from-len c = elim c.then-from-len.branch [
  | then-from-len-via-then-from-len w ↦ record {
    happens = deliver_no_message c.args.limits (world_of c.args.game.now) c.args.message c.args.house c.args.reading (get_none c.args.game.now.messages.items c.args.message (omega (arith, c.args.game.now.messages.ok.0)));
  }
  | then-from-len-via-else-from-len+then-to-len w ↦ record {
    happens = deliver_no_house c.args.limits (world_of c.args.game.now) c.args.message c.args.house c.args.reading (get_none c.args.game.now.houses.items c.args.house (omega (arith, c.args.game.now.houses.ok.0)));
  }
]

pub deliver-requires-clause-house : goal.deliver-requires-clause-house
deliver-requires-clause-house c =
    subst (λ (s : State). IsHouseAt c.args.limits s) (sym c.replace-before.ensures.value) (house_at c.args.limits (world_of c.args.game.now) c.args.house c.index_mut.result.now c.requires.lawful (get_at c.args.game.now.houses.items c.args.house c.index_mut.result.now (omega (arith, c.args.game.now.houses.ok.0)) c.index_mut.ensures.value))

pub returns : goal.returns
returns c =
    let bytes : c.deref.result.now ≡ c.index.result.now.bytes = c.deref.ensures.value ∙ ap (λ (m : Message). m.bytes) c.behind-game.view_is in
    record {
      happens = delivered_there c.args.limits (world_of c.args.game.now) c.args.message c.args.house c.args.reading c.index.result.now c.replace-before.result c.in_ok-after.after c.replace-before.new.dest c.in_ok-after.reply.items
          (map (λ (v : Vec ℕ). v.items) c.push.new.self.items)
          (get_at c.args.game.now.messages.items c.args.message c.index.result.now (omega (arith, c.args.game.now.messages.ok.0)) c.index.ensures)
          (subst (λ (s : State). slice_get c.args.game.now.houses.items c.args.house ≡ Some s) (sym c.replace-before.ensures.value) (get_at c.args.game.now.houses.items c.args.house c.index_mut.result.now (omega (arith, c.args.game.now.houses.ok.0)) c.index_mut.ensures.value))
          (subst (λ (b : List ℕ). IsDelivered c.args.limits c.replace-before.result (clamped c.args.reading) b [] c.in_ok-after.reply.items c.in_ok-after.after) bytes c.in_ok-after.ensures.delivered)
          (ap (map (λ (v : Vec ℕ). v.items)) c.in_ok-push.ensures.items ∙ map_snoc (λ (v : Vec ℕ). v.items) c.args.game.now.replies.items c.in_ok-after.reply);
    }
