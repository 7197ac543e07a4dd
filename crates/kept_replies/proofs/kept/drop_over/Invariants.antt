use Rattle.std.proofs.Common.{◌≡◌, ℕ, ◌<◌, ◌≤◌, ◌-◌, true, length, get_or, filter, All}
use Rattle.kept_replies.specs.Kept.{KeptReply, AreRising, is_in_time}
use Rattle.kept_replies.specs.Index.{marks}
use Rattle.kept_replies.specs.Store.{AreInOrder, has_mark}
use Rattle.kept_replies.proofs.kept.drop_over.Given as goal

-- those before the place are in time, those that are in time are as at first, and there are no more marks than replies
abbrev pub invariant-loop-reply : goal.invariant-loop-reply
invariant-loop-reply l = record {
  within : l.at ≤ length l.replies.items;
  front : (k : ℕ) (d : KeptReply) → k < l.at → is_in_time l.keep l.now (get_or l.replies.items k d) ≡ true;
  rest : filter (is_in_time l.keep l.now) l.replies.items ≡ filter (is_in_time l.keep l.now) l.initial.replies.items;
  first : l.in_order ≡ true → l.at ≡ 0;
  order : l.in_order ≡ true → AreInOrder l.replies.items;
  rising : AreRising l.replies.items;
  marked : All (λ r. has_mark l.index r ≡ true) l.replies.items;
  few : marks l.index ≤ length l.replies.items;
}

abbrev pub decreases-loop-reply : goal.decreases-loop-reply
decreases-loop-reply l = length l.replies.items - l.at
