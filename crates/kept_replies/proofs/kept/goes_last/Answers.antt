use Rattle.std.proofs.Common.{◌≡◌, true, leb, MatchOption, ◌∙◌, rules, of_calls}
use Rattle.kept_replies.proofs.InsertLaws.{judged_by_last}
use Rattle.kept_replies.proofs.kept.goes_last.Goals as goal

pub returns-then-at-len : goal.returns-then-at-len
returns-then-at-len c = λ passed.
    let order = c.requires c.if-not-in_order.false in
    let all = c.args.replies.now.ok.0 in
    let said : MatchOption c.back.result (c.is_none_or.result ≡ true) (λ r. c.is_none_or.result ≡ leb r.now.entry.moment c.args.moment) = search (rules, of_calls) in (
      order,
      c.if-at-len.true ∙ c.len.ensures ∙ all,
      judged_by_last c.args.replies.now.items c.args.replies.now.len c.args.moment c.back.result c.is_none_or.result all order c.back.ensures.variant.1 c.back.ensures.lookup said passed,
    )
