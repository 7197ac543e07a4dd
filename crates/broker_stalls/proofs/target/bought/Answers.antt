use Rattle.mc_requests.specs.Errands.{buy}
use Rattle.std.proofs.Common.{arith}
use Rattle.broker_stalls.proofs.VendorLaws.{errand_is, amount_is}
use Rattle.broker_stalls.proofs.target.bought.Goals as goal

pub unwrap-vendor-requires : goal.unwrap-vendor-requires
unwrap-vendor-requires c =
    let is = errand_is c.args.target.now c.in-Some-Buy.field-0-is c.in-Some-Buy.ensures in
    c.new.ensures.valid.1 (c.errands_are_texts.ensures.told c.args.target.now (buy c.in-Some-Buy.vendor.now c.in-Some-Buy.amount) is).0.0

pub unwrap-value-requires : goal.unwrap-value-requires
unwrap-value-requires c =
    let is = errand_is c.args.target.now c.in-Some-Buy.field-0-is c.in-Some-Buy.ensures in
    c.new-2.ensures.valid.1 (c.errands_are_texts.ensures.told c.args.target.now (buy c.in-Some-Buy.vendor.now c.in-Some-Buy.amount) is).0.1.within

pub returns-clause-some : goal.returns-clause-some
returns-clause-some c =
    let is = errand_is c.args.target.now c.in-Some-Buy.field-0-is c.in-Some-Buy.ensures in
    let some = (c.errands_are_texts.ensures.told c.args.target.now (buy c.in-Some-Buy.vendor.now c.in-Some-Buy.amount) is).0.1.some in
    let value = amount_is _ _ c.in-Some-Buy.amount c.new-2.ensures.value c.unwrap-value.ensures in
    omega (arith, some, value)
