use Rattle.std.proofs.Common.{◌≡◌, ℕ, false, find, IsNone, subst}
use Rattle.mc_requests.specs.Requests.{asked_of}
use Rattle.kept_replies.specs.Index.{request_tag, leads}
use Rattle.kept_replies.specs.Store.{is_repeat}
use Rattle.kept_replies.proofs.FoundLaws.{asks, number_if, number_found, none_exactly}
use Rattle.kept_replies.proofs.kept.Kept.find.Goals as goal
use Rattle.kept_replies.proofs.kept.Kept.find.Goals.{After-first_repeat}

-- where no mark led to a repeat, the marks lead to none
not_led : (c : After-first_repeat) → IsNone c.first_repeat.result → leads c.self.inside.index (request_tag (asked_of c.args.q.now)) (is_repeat c.args.self.now c.args.now (asked_of c.args.q.now)) ≡ false
not_led c none =
    let led = rw (c.first-first.ensures, c.second-second.ensures, c.older.ensures) at (c.first_repeat.ensures.none none) in
    subst (λ (t : ℕ). leads c.self.inside.index t (is_repeat c.args.self.now c.args.now (asked_of c.args.q.now)) ≡ false) c.tag_of-tag.ensures led

one_found : (c : After-first_repeat) → c.first_repeat.result ≡ number_if (find (asks c.args.self.now c.args.now (asked_of c.args.q.now)) c.args.self.now.replies)
one_found c =
    number_found c.args.self.now c.self.inside.index c.args.now (asked_of c.args.q.now) c.first_repeat.result
    (rw (← c.self.view_is) c.self.invariant.rising) (rw (← c.self.view_is) c.self.invariant.own) (rw (← c.self.view_is) c.self.invariant.marked)
    c.first_repeat.ensures.repeat (not_led c)

pub returns-clause-found : goal.returns-clause-found
returns-clause-found c = one_found c

pub returns-clause-none : goal.returns-clause-none
returns-clause-none c = none_exactly c.args.self.now c.args.now (asked_of c.args.q.now) c.first_repeat.result (one_found c)
