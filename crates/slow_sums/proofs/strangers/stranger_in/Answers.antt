use Rattle.std.proofs.Common.{arith, ◌∙◌, Some, None}
use Rattle.std.specs.Option.{option_or}
use Rattle.slow_sums.specs.Strangers.{vendors_of}
use Rattle.slow_ledger.proofs.SlowLaws.{from_next}
use Rattle.slow_sums.proofs.Strange.{first_in, first_in_cons}
use Rattle.slow_sums.proofs.strangers.stranger_in.Goals as goal

pub returns-in-Some : goal.returns-in-Some
returns-in-Some c =
    let b = c.args.broker.now in
    let vs = vendors_of c.args.books.now in
    let h = c.args.h.now in
    from_next option_or _ (first_in b vs h) (first_in_cons b vs h) h c.loop-n.n (Some c.in-Some.id) (omega arith) (c.in-Some.ensures b (c.deref.ensures.value ∙ c.in_ok-handed.ensures)) ∙ c.loop-n.invariant

pub loop-n-preserved : goal.loop-n-preserved
loop-n-preserved c =
    let b = c.args.broker.now in
    let vs = vendors_of c.args.books.now in
    let h = c.args.h.now in
    from_next option_or _ (first_in b vs h) (first_in_cons b vs h) h c.loop-n.n None (omega arith) (c.in-None.ensures b (c.deref.ensures.value ∙ c.in_ok-handed.ensures)) ∙ c.loop-n.invariant
