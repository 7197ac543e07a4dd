use Rattle.std.proofs.Common.{sym, arith}
use Rattle.mc_records.specs.Views.{entry}
use Rattle.counted_trade.proofs.NoteLaws.{counted_payment, not_counted_payment}
use Rattle.counted_trade.proofs.notes.count_paid.Goals as goal

pub returns-in-Some : goal.returns-in-Some
returns-in-Some c = record {
  counted = λ h stands order.
      counted_payment c.args.table.now c.put.new.self h (entry c.args.r.now) c.in-Some.payment (omega arith) c.in-Some.ensures.fits.claim'
      (sym c.in-Some.ensures.is) stands c.requires.room order c.put.ensures.sums;
}

pub returns-in-None : goal.returns-in-None
returns-in-None c = record {
  counted = λ h stands order. not_counted_payment c.args.table.now h (entry c.args.r.now) (sym c.in-None.ensures.is) stands;
}
