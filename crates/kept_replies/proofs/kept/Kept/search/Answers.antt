use Rattle.std.proofs.Common.{◌≡◌, ◌<◌, ◌≤◌, true, false, ltb, sym, arith, rules, of_calls}
use Rattle.std.specs.List.Sorted.{IsPartitionPoint}
use Rattle.std.proofs.lemmas.List.Sorted.{IsPartitionPoint-from_clause, IsPartitionedBy-ltb}
use Rattle.kept_replies.proofs.ReplyLaws.{number, IsNonDecreasingBy-rising}
use Rattle.kept_replies.proofs.FoundLaws.{past_point, read_point}
use Rattle.kept_replies.proofs.kept.Kept.search.Goals as goal
use Rattle.kept_replies.proofs.kept.Kept.search.Goals.{After-get}

-- the place that was searched for
point : (c : After-get) → IsPartitionPoint (λ r. ltb (number r) c.args.number ≡ true) (λ r. ltb (number r) c.args.number ≡ false) c.self.inside.replies.items c.partition_point-at.result
point c =
    let rs = c.self.inside.replies.items in
    let n = c.args.number in
    IsPartitionPoint-from_clause (λ r. ltb (number r) n) rs c.partition_point-at.result c.partition_point-at.ensures.partitioned (IsPartitionedBy-ltb number rs n (IsNonDecreasingBy-rising rs c.self.invariant.rising)) (λ a r f k. search (rules, of_calls))

pub returns-in_err-reply-clause-reply : goal.returns-in_err-reply-clause-reply
returns-in_err-reply-clause-reply c =
    let rs = c.self.inside.replies.items in
    let past : c.self.inside.replies.len ≤ c.partition_point-at.result = search rules in
    rw (c.from_residual.ensures, ← c.self.view_is)
    (sym (past_point c.args.number c.partition_point-at.result rs c.self.invariant.rising (point (goal.at.returns-in_err-reply-clause-reply c).After-get) (omega (arith, past, c.self.inside.replies.ok))))

pub returns-clause-reply : goal.returns-clause-reply
returns-clause-reply c =
    let rs = c.self.inside.replies.items in
    let lt : c.partition_point-at.result < c.self.inside.replies.len = search rules in
    rw (c.then_some.ensures, c.number.ensures, ← c.self.view_is)
    (read_point c.args.number c.partition_point-at.result rs c.self.invariant.rising (point (goal.at.returns-clause-reply c).After-get) c.in_ok-reply.reply (omega (arith, lt, c.self.inside.replies.ok)) c.in_ok-reply.ensures.lookup)
