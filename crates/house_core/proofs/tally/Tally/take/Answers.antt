use Rattle.std.proofs.Common.{◌≡◌, ◌+◌, arith}
use Rattle.house_core.proofs.TallyLaws.{one_taken}
use Rattle.house_core.proofs.tally.Tally.take.Goals as goal

pub returns-clause-counted : goal.returns-clause-counted
returns-clause-counted c e entries is most paid given =
    let t = c.args.self.now in
    let takings : c.saturating_add-self.result ≡ t.takings + c.args.price = omega (arith, is.takings, most, c.ranges.price.fits, c.from.ensures, c.saturating_add-self.ensures) in
    let change : c.saturating_add-self-2.result ≡ t.change + c.args.change = omega (arith, is.change, most, c.ranges.change.fits, c.from-2.ensures, c.saturating_add-self-2.ensures) in
    rw (takings, change) (one_taken t e c.one_more-self.result c.args.price c.args.change is.counts c.one_more-self.ensures paid given)

pub returns-clause-within : goal.returns-clause-within
returns-clause-within c entries is = record {
  counts = record { taken = c.one_more-self.type_inv; again = is.counts.again; expired = is.counts.expired; spent = is.counts.spent; little = is.counts.little; other = is.counts.other; memory = is.counts.memory };
  takings = omega (arith, is.takings, c.ranges.price.fits, c.from.ensures, c.saturating_add-self.ensures);
  change = omega (arith, is.change, c.ranges.change.fits, c.from-2.ensures, c.saturating_add-self-2.ensures);
}
