use Rattle.std.proofs.Common.{◌≡◌, ◌∷◌, ◌++◌, codes}
use Rattle.std.specs.Prelude.{decimal}
use Rattle.mc_fields.proofs.Puts.{appends_then}
use Rattle.slow_wallet.proofs.asks.write_draw.Goals as goal

pub returns : goal.returns
returns c =
    let order : c.as_bytes.result.now ≡ decimal c.args.order = cc in
    let amount : c.as_bytes-2.result.now ≡ decimal c.args.amount = cc in
    let middle = rw order at c.in_ok-append_both-2.ensures in
    let last = rw amount at c.append_both-3.ensures in
    appends_then c.args.out.now.items c.append_both.new.out.items c.append_both-3.new.out.items (codes "/draw/" ++ c.args.account.now) (47 ∷ (decimal c.args.order ++ 47 ∷ decimal c.args.amount)) c.append_both-3.result c.in_ok-append_both.ensures
    (appends_then c.append_both.new.out.items c.append_both-2.new.out.items c.append_both-3.new.out.items (47 ∷ decimal c.args.order) (47 ∷ decimal c.args.amount) c.append_both-3.result middle last)
