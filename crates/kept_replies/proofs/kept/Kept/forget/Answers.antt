use Rattle.kept_replies.specs.Kept.{AreRising, is_in_time}
use Rattle.kept_replies.proofs.ReplyLaws.{AreRising-filter, own-filter}
use Rattle.kept_replies.proofs.ForgetLaws.{AreInOrder-filter}
use Rattle.kept_replies.proofs.kept.Kept.forget.Goals as goal
use Rattle.kept_replies.proofs.kept.Kept.forget.Goals.{After-drop_over}

rise : (c : After-drop_over) → AreRising c.drop_over.new.replies.items
rise c = rw c.drop_over.ensures.replies (AreRising-filter (is_in_time c.self.inside.keep c.args.now) c.self.inside.replies.items c.self.invariant.rising)

pub invariant_of-self : goal.invariant_of-self
invariant_of-self c =
    let test = is_in_time c.self.inside.keep c.args.now in
    let rs = c.self.inside.replies.items in
    record {
      rising = rise c;
      order = λ noted. rw c.drop_over.ensures.replies (AreInOrder-filter test rs (c.self.invariant.order noted));
      own = rw c.drop_over.ensures.replies (own-filter test rs c.self.invariant.own);
      marked = c.drop_over.ensures.marked;
      few = c.drop_over.ensures.few;
      empty = c.self.invariant.empty;
      short = c.self.invariant.short;
    }

pub returns-clause-rising : goal.returns-clause-rising
returns-clause-rising c = rise c
