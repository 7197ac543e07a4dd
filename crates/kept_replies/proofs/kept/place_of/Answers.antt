use Rattle.std.proofs.Common.{◌≡◌, true, ltb, MatchOption, rules, of_calls}
use Rattle.std.proofs.lemmas.List.Sorted.{IsPartitionPoint-from_clause, IsPartitionedBy-ltb}
use Rattle.kept_replies.proofs.ReplyLaws.{number, IsNonDecreasingBy-rising}
use Rattle.kept_replies.proofs.InsertLaws.{placed_by_last}
use Rattle.kept_replies.proofs.kept.place_of.Goals as goal

pub returns-then-is_none_or-clause-place : goal.returns-then-is_none_or-clause-place
returns-then-is_none_or-clause-place c =
    let n = c.args.number in
    let said : MatchOption c.back-last.result (c.is_none_or.result ≡ true) (λ r. c.is_none_or.result ≡ ltb (number r.now) n) = search (rules, of_calls) in
    rw c.len.ensures (placed_by_last c.args.replies.now.items c.args.replies.now.len n c.back-last.result c.is_none_or.result c.args.replies.now.ok.0 c.requires c.back-last.ensures.variant.1 c.back-last.ensures.lookup said c.if-is_none_or.true)

pub returns-clause-place : goal.returns-clause-place
returns-clause-place c =
    let rs = c.args.replies.now.items in
    let n = c.args.number in
    IsPartitionPoint-from_clause (λ r. ltb (number r) n) rs c.partition_point.result c.partition_point.ensures.partitioned (IsPartitionedBy-ltb number rs n (IsNonDecreasingBy-rising rs c.requires)) (λ a r f k. search (rules, of_calls))
