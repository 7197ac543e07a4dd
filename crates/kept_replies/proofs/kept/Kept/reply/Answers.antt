use Rattle.std.proofs.Common.{◌≡◌, ◌<◌, Some, get_or, sym, ap, subst, ◌∙◌, arith, rules}
use Rattle.kept_replies.specs.Kept.{KeptReply, with_number}
use Rattle.kept_replies.proofs.ReplyLaws.{number}
use Rattle.kept_replies.proofs.FoundLaws.{by_own_number}
use Rattle.kept_replies.proofs.kept.Kept.reply.Goals as goal

pub returns-in-Some-clause-reply : goal.returns-in-Some-clause-reply
returns-in-Some-clause-reply c =
    let rs = c.self.inside.replies.items in
    let r = c.in-Some.reply.now in
    let at = c.known.inside.at in
    let lt : at < c.self.inside.replies.len = search rules in
    let read : r ≡ get_or rs at r = c.in-Some.ensures.lookup in
    let its : number r ≡ c.args.known.now = sym c.number.ensures ∙ c.if-number-known.true ∙ c.known.view_is in
    let there = by_own_number rs c.self.invariant.rising at r (omega (arith, lt, c.self.inside.replies.ok)) in
    rw (← c.self.view_is) (sym (subst (λ (x : KeptReply). with_number rs (number x) ≡ Some x) (sym read) there) ∙ ap (with_number rs) its)
