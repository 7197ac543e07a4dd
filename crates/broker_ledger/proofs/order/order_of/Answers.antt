use Rattle.mc_requests.specs.Errands.{draw}
use Rattle.broker_ledger.proofs.LearnLaws.{errand_is}
use Rattle.broker_ledger.proofs.order.order_of.Goals as goal

pub unwrap-account-requires : goal.unwrap-account-requires
unwrap-account-requires c =
    let is = errand_is c.args.target.now c.in-Some-Draw.field-0-is c.in-Some-Draw.ensures in
    c.new.ensures.valid.1 (c.errands_are_texts.ensures.told c.args.target.now (draw c.in-Some-Draw.account.now c.in-Some-Draw.order c.in-Some-Draw.amount) is).0.0

pub unwrap-amount-requires : goal.unwrap-amount-requires
unwrap-amount-requires c =
    let is = errand_is c.args.target.now c.in-Some-Draw.field-0-is c.in-Some-Draw.ensures in
    c.new-2.ensures.valid.1 (c.errands_are_texts.ensures.told c.args.target.now (draw c.in-Some-Draw.account.now c.in-Some-Draw.order c.in-Some-Draw.amount) is).0.2.within
