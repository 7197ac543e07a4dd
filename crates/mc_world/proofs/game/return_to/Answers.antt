use Rattle.std.proofs.Common.{◌∙◌, ℕ, List, Option, Some, refl, sym, ap, arith}
use Rattle.std.specs.Prelude.{option_map, slice_set}
use Rattle.std.specs.Global.{Vec}
use Rattle.mc_world.specs.Games.{world_of}
use Rattle.mc_world.proofs.Happening.{map_get, get_none, get_at, wallet_at, return_no_reply, return_no_wallet, returned}
use Rattle.mc_world.proofs.game.return_to.Goals.{then-from-len-via-then-from-len, then-from-len-via-else-from-len+then-to-len}
use Rattle.mc_world.proofs.game.return_to.Goals as goal

pub returns-then-from-len : goal.returns-then-from-len
returns-then-from-len c = elim c.then-from-len.branch [
  | then-from-len-via-then-from-len w ↦ record {
    happens = return_no_reply c.args.limits (world_of c.args.game.now) c.args.reply c.args.wallet c.args.request c.args.reading
        (map_get (λ (v : Vec ℕ). v.items) c.args.game.now.replies.items c.args.reply
        ∙ ap (option_map (λ (v : Vec ℕ). v.items)) (get_none c.args.game.now.replies.items c.args.reply (omega (arith, c.args.game.now.replies.ok.0))));
  }
  | then-from-len-via-else-from-len+then-to-len w ↦ record {
    happens = return_no_wallet c.args.limits (world_of c.args.game.now) c.args.reply c.args.wallet c.args.request c.args.reading (get_none c.args.game.now.wallets.items c.args.wallet (omega (arith, c.args.game.now.wallets.ok.0)));
  }
]

pub take_reply-requires : goal.take_reply-requires
take_reply-requires c = record { book = wallet_at c.args.limits (world_of c.args.game.now) c.args.wallet c.index_mut.result.now c.requires.lawful (get_at c.args.game.now.wallets.items c.args.wallet c.index_mut.result.now (omega (arith, c.args.game.now.wallets.ok.0)) c.index_mut.ensures.value) }

pub returns : goal.returns
returns c =
    let some : List ℕ → Option (List ℕ) = λ b. Some b in
    let at = map_get (λ (v : Vec ℕ). v.items) c.args.game.now.replies.items c.args.reply
    ∙ ap (option_map (λ (v : Vec ℕ). v.items)) (get_at c.args.game.now.replies.items c.args.reply c.index.result.now (omega (arith, c.args.game.now.replies.ok.0)) c.index.ensures) ∙ ap some (sym c.deref.ensures.value) in
    record {
      happens = returned c.args.limits (world_of c.args.game.now) (record (world_of c.args.game.now) { wallets = slice_set c.args.game.now.wallets.items c.args.wallet c.take_reply.new.history }) c.args.reply c.args.wallet c.args.request c.args.reading
          c.index_mut.result.now c.take_reply.new.history c.deref.result.now c.in_ok-take_reply.field-0 (get_at c.args.game.now.wallets.items c.args.wallet c.index_mut.result.now (omega (arith, c.args.game.now.wallets.ok.0)) c.index_mut.ensures.value) at c.in_ok-take_reply.ensures.settles refl;
    }
