use Rattle.std.proofs.Common.{sym, subst, ◌∙◌}
use Rattle.mc_records.specs.Views.{entry}
use Rattle.counted_trade.proofs.KeyLaws.{Adds, counted_some, counted_none}
use Rattle.counted_trade.proofs.series_sums.count_paid.Goals as goal

pub returns-in-Some : goal.returns-in-Some
returns-in-Some c = record {
  counted = λ h counts long.
      counted_some c.args.sums.now c.add.new.self h (entry c.args.r.now) c.in-Some.part c.args._number c.ranges._number.fits long counts
      (sym c.paid.ensures ∙ c.in-Some.is) c.requires.room
      (subst (Adds c.args.sums.now c.add.new.self) c.from.ensures c.add.ensures.sums);
}

pub returns-in-None : goal.returns-in-None
returns-in-None c = record {
  counted = λ h counts long. counted_none c.args.sums.now h (entry c.args.r.now) counts (sym c.paid.ensures ∙ c.in-None.is);
}
