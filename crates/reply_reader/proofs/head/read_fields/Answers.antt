use Rattle.std.proofs.Common.{refl}
use Rattle.reply_reader.proofs.head.read_fields.Goals as goal

pub returns-clause-within : goal.returns-clause-within
returns-clause-within c = record {
  refusal = c.in_ok-refusal.ensures.within;
  price = c.in_ok-price.ensures.within;
  change = c.in_ok-change.ensures.within;
  sign = c.in_ok-sign.ensures.within;
  contents = c.in_ok-length.ensures.within;
}

pub returns-clause-says : goal.returns-clause-says
returns-clause-says c = rw (← c.in_ok-length.ensures.says, c.in_ok-price.ensures.some, c.in_ok-change.ensures.some, c.in_ok-sign.ensures.some, c.in_ok-refusal.ensures.some) refl
