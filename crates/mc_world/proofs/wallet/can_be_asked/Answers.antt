use Rattle.std.proofs.Common.{◌≡◌, ap}
use Rattle.wallet_model.specs.Asks.{draw}
use Rattle.wallet_core.specs.Asks.{asking_of}
use Rattle.mc_world.proofs.Wallets.{draw_can}
use Rattle.mc_world.proofs.wallet.can_be_asked.Goals as goal

pub returns-then-is_order-clause-can : goal.returns-then-is_order-clause-can
returns-then-is_order-clause-can c =
    let ask : asking_of c.args.ask.now ≡ draw c.in-Draw.broker c.in-Draw.account c.in-Draw.key c.in-Draw.order c.in-Draw.amount = ap asking_of c.in-Draw.is in
    draw_can (asking_of c.args.ask.now) c.in-Draw.broker c.in-Draw.account c.in-Draw.key c.in-Draw.order c.in-Draw.amount c.get-then-is_order.result c.is_order.result ask c.bytes-broker-in-Draw.ensures.name c.bytes-account.ensures.name
    c.is_a_key.ensures c.is_order.ensures c.if-is_order.true c.get-then-is_order.ensures.units c.get-then-is_order.ensures.most
