use Rattle.std.proofs.Common.{◌∙◌, arith}
use Rattle.vendor_commands.proofs.shop.enter.Goals as goal

pub enter-requires-clause-order : goal.enter-requires-clause-order
enter-requires-clause-order c h st = omega (arith, st.state.in_time, c.requires.may.1.time, c.requires.time)

pub returns-in-Ok : goal.returns-in-Ok
returns-in-Ok c h open' = record {
  house = record { represents = (c.in-Ok.ensures.exact h open'.house.represents (c.requires.told h)).2; contents = c.in-Ok.ensures.contents h open'.house.represents open'.house.contents };
  time = omega (arith, c.in-Ok.ensures.time, open'.time, c.requires.time);
  limits = c.in-Ok.ensures.limits ∙ open'.limits;
  used = c.in-Ok.ensures.used open'.used;
  tally = c.in-Ok.ensures.tally ∙ open'.tally;
  within = c.in-Ok.ensures.within open'.within;
}
