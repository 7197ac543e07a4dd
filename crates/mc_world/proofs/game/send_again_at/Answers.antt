use Rattle.std.proofs.Common.{ℕ, arith}
use Rattle.std.specs.Global.{Vec}
use Rattle.mc_world.specs.Games.{world_of}
use Rattle.mc_world.proofs.Happening.{get_none, get_at, wallet_at, again_absent, again_nothing, again_something}
use Rattle.mc_world.proofs.game.send_again_at.Goals as goal

pub returns-then-place-len : goal.returns-then-place-len
returns-then-place-len c = record { happens = again_absent c.args.limits (world_of c.args.game.now) c.args.wallet c.args.peer.now (get_none c.args.game.now.wallets.items c.args.wallet (omega (arith, c.args.game.now.wallets.ok.0))) }

pub send_again-requires : goal.send_again-requires
send_again-requires c = record { book = wallet_at c.args.limits (world_of c.args.game.now) c.args.wallet c.index.result.now c.requires.lawful (get_at c.args.game.now.wallets.items c.args.wallet c.index.result.now (omega (arith, c.args.game.now.wallets.ok.0)) c.index.ensures) }

pub returns-in_default : goal.returns-in_default
returns-in_default c = record {
  happens = again_nothing (λ (v : Vec ℕ). v.items) c.args.limits (world_of c.args.game.now) c.args.wallet c.args.peer.now c.index.result.now c.in_ok-bytes.field-0 (get_at c.args.game.now.wallets.items c.args.wallet c.index.result.now (omega (arith, c.args.game.now.wallets.ok.0)) c.index.ensures) c.in_default.is c.in_ok-bytes.ensures.sends;
}

pub returns : goal.returns
returns c = record {
  happens = again_something (λ (v : Vec ℕ). v.items) c.args.limits (world_of c.args.game.now) c.args.wallet c.args.peer.now c.index.result.now c.in_ok-bytes.field-0 c.in-Some.bytes c.push.new.self.items
      (get_at c.args.game.now.wallets.items c.args.wallet c.index.result.now (omega (arith, c.args.game.now.wallets.ok.0)) c.index.ensures) c.in-Some.is c.in_ok-bytes.ensures.sends c.in_ok-push.ensures.items;
}
