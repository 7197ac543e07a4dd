use Rattle.std.proofs.Common.{◌≡◌, ◌<◌, ◌≤◌, false, length, get_or, sym, ap, ◌∙◌, arith, rules}
use Rattle.std.specs.List.{remove}
use Rattle.std.proofs.lemmas.List.Edits.{length-remove, get_or-remove_below}
use Rattle.kept_replies.specs.Kept.{KeptReply, is_in_time}
use Rattle.kept_replies.specs.Index.{request_tag}
use Rattle.kept_replies.proofs.ReplyLaws.{number}
use Rattle.kept_replies.proofs.SearchLaws.{filter_all}
use Rattle.kept_replies.proofs.ForgetLaws.{filter-remove, AreRising-remove, AreInOrder-remove, marked-remove, marked_at, all_in_time}
use Rattle.kept_replies.proofs.kept.drop_over.Goals as goal
use Rattle.kept_replies.proofs.kept.drop_over.Goals.{After-is_in_time}

-- the reply that is looked at is the one at the place
within : (c : After-is_in_time) → c.loop-reply.at < length c.loop-reply.replies.items
within c = let lt : c.loop-reply.at < c.loop-reply.replies.len = search rules in omega (arith, lt, c.loop-reply.replies.ok)

there : (c : After-is_in_time) → c.in-Some.reply.now ≡ get_or c.loop-reply.replies.items c.loop-reply.at c.in-Some.reply.now
there c = c.in-Some.ensures.lookup

judged : (c : After-is_in_time) → is_in_time c.args.keep c.args.now (get_or c.loop-reply.replies.items c.loop-reply.at c.in-Some.reply.now) ≡ c.is_in_time.result
judged c = ap (is_in_time c.args.keep c.args.now) (sym (there c)) ∙ sym c.is_in_time.ensures

pub loop-reply-preserved-then-not-is_in_time : goal.loop-reply-preserved-then-not-is_in_time
loop-reply-preserved-then-not-is_in_time c =
    let rs = c.loop-reply.replies.items in
    let at = c.loop-reply.at in
    let r = c.in-Some.reply.now in
    let looked = (goal.at.loop-reply-preserved-then-not-is_in_time c).After-is_in_time in
    let fails : is_in_time c.args.keep c.args.now (get_or rs at r) ≡ false = judged looked ∙ c.if-not-is_in_time.true in
    let left : c.drop_at.new.replies.items ≡ remove rs at = c.drop_at.ensures in
    let its : c.number.result ≡ number (get_or rs at r) = c.number.ensures ∙ ap number (there looked) in
    let tag : c.tag_of.result ≡ request_tag (get_or rs at r).asked = c.tag_of.ensures ∙ ap request_tag c.request.ensures ∙ ap (λ (q : KeptReply). request_tag q.asked) (there looked) in
    let led = marked_at rs at c.tag_of.result c.number.result r c.loop-reply.index (within looked) tag its c.loop-reply.invariant.marked in
    rw left (record {
      within = omega (arith, length-remove rs at (within looked), within looked);
      front = λ k d lt. ap (is_in_time c.args.keep c.args.now) (get_or-remove_below rs at d k lt (within looked)) ∙ c.loop-reply.invariant.front k d lt;
      rest = filter-remove (is_in_time c.args.keep c.args.now) rs at r (within looked) fails ∙ c.loop-reply.invariant.rest;
      first = c.loop-reply.invariant.first;
      order = λ noted. AreInOrder-remove rs at (c.loop-reply.invariant.order noted);
      rising = AreRising-remove rs at c.loop-reply.invariant.rising;
      marked = marked-remove rs at c.number.result r c.loop-reply.index c.drop_mark.new.self c.loop-reply.invariant.rising (within looked) its c.drop_mark.ensures.left c.loop-reply.invariant.marked;
      few = omega (arith, length-remove rs at (within looked), c.drop_mark.ensures.fewer led, c.loop-reply.invariant.few);
    })

pub returns-then-in_order-clause-replies : goal.returns-then-in_order-clause-replies
returns-then-in_order-clause-replies c =
    let looked = (goal.at.returns-then-in_order-clause-replies c).After-is_in_time in
    sym (all_in_time c.args.keep c.args.now c.loop-reply.at c.in-Some.reply.now c.loop-reply.replies.items (c.loop-reply.invariant.order c.if-in_order.true)
    (c.loop-reply.invariant.first c.if-in_order.true) (within looked) (judged looked ∙ c.if-not-is_in_time.false)) ∙ c.loop-reply.invariant.rest

pub returns-in_default-clause-replies : goal.returns-in_default-clause-replies
returns-in_default-clause-replies c =
    let past : c.loop-reply.replies.len ≤ c.loop-reply.at = search rules in
    sym (filter_all (is_in_time c.args.keep c.args.now) c.loop-reply.replies.items (λ k d lt. c.loop-reply.invariant.front k d (omega (arith, lt, past, c.loop-reply.replies.ok)))) ∙ c.loop-reply.invariant.rest
