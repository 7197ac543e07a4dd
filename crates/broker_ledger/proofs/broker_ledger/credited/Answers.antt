use Rattle.mc_requests.specs.Errands.{pay_in}
use Rattle.broker_ledger.proofs.LearnLaws.{errand_is}
use Rattle.broker_ledger.proofs.broker_ledger.credited.Goals as goal

pub unwrap-account-requires : goal.unwrap-account-requires
unwrap-account-requires c =
    let is = errand_is c.args.target.now c.in-Some-Credit.field-0-is c.in-Some-Credit.ensures in
    c.new.ensures.valid.1 (c.errands_are_texts.ensures.told c.args.target.now (pay_in c.in-Some-Credit.account.now) is).0
