use Rattle.std.proofs.Common.{ℕ, arith}
use Rattle.std.specs.Global.{Vec}
use Rattle.wallet_core.specs.Asks.{asking_of}
use Rattle.mc_world.specs.Games.{world_of}
use Rattle.mc_world.proofs.Happening.{get_none, get_at, wallet_at, asked_absent, asked_nothing, asked_something}
use Rattle.mc_world.proofs.game.ask_at.Goals as goal

pub returns-then-place-len : goal.returns-then-place-len
returns-then-place-len c = record {
  happens = asked_absent c.args.limits (world_of c.args.game.now) c.args.wallet (asking_of c.args.asked.now) c.args.reading (get_none c.args.game.now.wallets.items c.args.wallet (omega (arith, c.args.game.now.wallets.ok.0)));
}

pub ask-requires : goal.ask-requires
ask-requires c = record { book = wallet_at c.args.limits (world_of c.args.game.now) c.args.wallet c.index_mut.result.now c.requires.lawful (get_at c.args.game.now.wallets.items c.args.wallet c.index_mut.result.now (omega (arith, c.args.game.now.wallets.ok.0)) c.index_mut.ensures.value) }

pub returns-in_default : goal.returns-in_default
returns-in_default c = record {
  happens = asked_nothing (λ (v : Vec ℕ). v.items) c.args.limits (world_of c.args.game.now) c.args.wallet (asking_of c.args.asked.now) c.args.reading c.index_mut.result.now c.ask.new.history c.in_ok-bytes.field-0
      (get_at c.args.game.now.wallets.items c.args.wallet c.index_mut.result.now (omega (arith, c.args.game.now.wallets.ok.0)) c.index_mut.ensures.value) c.in_default.is c.in_ok-bytes.ensures.asks;
}

pub returns : goal.returns
returns c = record {
  happens = asked_something (λ (v : Vec ℕ). v.items) c.args.limits (world_of c.args.game.now) c.args.wallet (asking_of c.args.asked.now) c.args.reading c.index_mut.result.now c.ask.new.history c.in_ok-bytes.field-0 c.in-Some.bytes c.push.new.self.items
      (get_at c.args.game.now.wallets.items c.args.wallet c.index_mut.result.now (omega (arith, c.args.game.now.wallets.ok.0)) c.index_mut.ensures.value) c.in-Some.is c.in_ok-bytes.ensures.asks c.in_ok-push.ensures.items;
}
