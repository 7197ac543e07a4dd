use Rattle.audit_search.proofs.Kept.{if_ok, left_from}
use Rattle.audit_search.proofs.check.left_of.Goals as goal

pub returns : goal.returns
returns c =
    if_ok _ _ c.left.result (λ l is. left_from c.args.book.now c.args.handed.now c.accepted.result.now c.in_ok-spent.spent c.time.result l c.accepted.ensures c.time.ensures c.in_ok-spent.ensures is) c.left.ensures
