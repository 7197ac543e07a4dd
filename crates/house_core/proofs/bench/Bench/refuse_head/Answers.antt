use Rattle.std.proofs.Common.{sym, subst}
use Rattle.house_core.specs.BenchView.{BenchView}
use Rattle.house_core.specs.Tallies.{IsWithin}
use Rattle.house_core.proofs.bench.Bench.refuse_head.Goals as goal

pub returns-clause-within : goal.returns-clause-within
returns-clause-within g c is =
    let raised : IsWithin c.raise-time.new.self.state.count c.raise-time.new.self.tally = rw (c.raise-time.ensures.count, c.raise-time.ensures.tally) is in
    c.refuse.ensures.within c.self.inside.state.count (subst (λ (b : BenchView g.row.T.Denot). IsWithin b.state.count b.tally) (sym c.self.view_is) raised)
