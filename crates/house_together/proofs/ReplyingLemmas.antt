-- A reply that is sent on a slot's link.
use Rattle.std.proofs.Common.{false, ◌≡◌, ◌≢◌, ⊎_elim, ℕ, ◌<◌, List, [], ◌∷◌, ◌++◌, length, take, drop, refl, sym, ap, ◌∙◌, subst, append_assoc, append-nil, Option, Some, Result}
use Rattle.std.specs.Prelude.{OnOk, OnErr, IsTrue, IsSome, option_map}
use Rattle.std.proofs.lemmas.List.{drop_at}
use Rattle.mc_outside.specs.Bytes.{BeginsWith}
use Rattle.mc_outside.specs.DiskView.{DiskView, LinkKeeps}
use Rattle.mc_outside.specs.LinkView.{LinkView, Session, IsLink, Failed, after_send, on_last, send, all_sent}
use Rattle.mc_outside.specs.declared.link.LinkFault.{LinkFault}
use Rattle.mc_outside.proofs.Runs.{follows}
use Rattle.mc_outside.proofs.Sessions.{aside_more}
use Rattle.link_slots.specs.SlotsView.{SlotsView, SlotsStay, WorksHere, SendsBehind, TurnKeeps}
use Rattle.millicent_http.specs.declared.item.After.{After}
use Rattle.millicent_http.proofs.AsideLemmas.{some_of, is_there}
use Rattle.link_turns.specs.declared.turn.Turn.{Turn}
use Rattle.link_turns.specs.Turns.{Sent, turn_after}
use Rattle.link_turns.proofs.ItemLemmas.{sent_so, sent_sessions}
use Rattle.house_together.specs.Replying.{SendsDue, left_by, RepliesDue, RepliesRound, NoneDue, AreDue, reply_in}
use Rattle.house_together.specs.declared.replies.Due.{Due}
use Rattle.link_turns.specs.declared.turn.Turn.TheVariants as turns

begins_then : (x y z : List ℕ) → BeginsWith x y → BeginsWith y z → BeginsWith x z
begins_then x y z p q = (p.0 ++ q.0, q.1 ∙ ap (λ (l : List ℕ). l ++ q.0) p.1 ∙ append_assoc x p.0 q.0)

-- links worked, and then links worked again
pub keeps_then : (a b c : DiskView) → LinkKeeps a b → LinkKeeps b c → LinkKeeps a c
keeps_then a b c first second = record {
  goes = follows a b c first.goes second.goes;
  contents = second.contents ∙ first.contents;
  faults = second.faults ∙ first.faults;
  leaves = λ i. (λ l. (first.leaves i).0 ((second.leaves i).0 l), λ l. (second.leaves i).1 ((first.leaves i).1 l));
  sent = begins_then a.aside b.aside c.aside first.sent second.sent;
  pairs = λ i s p. ⊎_elim
      (λ (early : b.pairs a.moment i s). let x = first.pairs i s early in (x.0, (x.1.0, begins_then s b.aside c.aside x.1.1 second.sent)))
      (λ (late : c.pairs b.moment i s). let x = second.pairs i s late in ((first.leaves i).0 x.0, (begins_then a.aside b.aside s first.sent x.1.0, x.1.1)))
      ((second.goes.joins a.moment i s first.goes.later).0 p);
}

-- the same bytes in front, the same behind
same_behind : (x y z w : List ℕ) → w ≡ x ++ y → w ≡ x ++ z → y ≡ z
same_behind x y z w first second = sym (drop_at x y (length x) refl) ∙ ap (λ (l : List ℕ). drop (length x) l) (sym first ∙ second) ∙ drop_at x z (length x) refl

-- what is sent on the standing link is behind all that was sent
behind_all : (v w : LinkView) (a b : DiskView) (x : List ℕ) → IsLink v → IsTrue v.stands → SendsBehind v w a b → w.sessions ≡ (after_send x v).sessions → IsSome v.sessions → b.aside ≡ a.aside ++ x
behind_all v w a b x is stands behind sent told =
    let some = some_of v.sessions told in
    let ts : List Session = on_last (send x) some.0 in
    let after : w.sessions ≡ Some ts = sent ∙ ap (λ (o : Option (List Session)). option_map (on_last (send x)) o) some.1 in
    let grows = behind.grows some.0 ts some.1 after in
    let same : grows.0 ≡ x = same_behind (all_sent some.0) grows.0 x (all_sent ts) grows.1 (aside_more v some.0 x is stands some.1) in
    grows.2 ∙ ap (λ (l : List ℕ). a.aside ++ l) same

pub sends_due : {O : Type 0} (slots : O → SlotsView) (disk : O → DiskView) (link : O → LinkView) (p : ℕ) (reply : List ℕ) (after : After) (a m b : O) (r : Result (Unit {0}) LinkFault)
    → SlotsStay (slots a) (slots m) → (slots m).at ≡ p → TurnKeeps (disk a) (disk m) → link m ≡ (slots m).slot (slots m).at → link b ≡ (slots b).slot (slots b).at → IsLink (link m)
    → WorksHere (slots m) (slots b) → LinkKeeps (disk m) (disk b) → SendsBehind (link m) (link b) (disk m) (disk b) → IsTrue ((slots a).slot p).stands
    → OnOk r (link b ≡ after_send reply (link m)) → OnErr r ((n : ℕ) × (n < length reply) × Failed (after_send (take n reply) (link m)) (link b))
    → SendsDue slots disk p reply after a b (turn_after r after)
sends_due slots disk link p reply after a m b r stay at turned here_m here_b is works keeps behind stands ok failed =
    let before : link m ≡ (slots a).slot p = here_m ∙ ap (λ (q : ℕ). (slots m).slot q) at ∙ stay.slot' p in
    let now : link b ≡ (slots b).slot p = here_b ∙ ap (λ (q : ℕ). (slots b).slot q) (works.at' ∙ at) in
    let was = sent_so after reply r (link m) (link b) ok failed in
    let standing : IsTrue (link m).stands = subst (λ (v : LinkView). IsTrue v.stands) (sym before) stands in
    record {
      part = was.0;
      sent = subst (λ (v : LinkView). Sent after reply (turn_after r after) was.0 v ((slots b).slot p)) before (subst (λ (w : LinkView). Sent after reply (turn_after r after) was.0 (link m) w) now was.1);
      others = λ q other. works.others q (λ same. other (same ∙ at)) ∙ stay.slot' q;
      count' = works.count' ∙ stay.count';
      at' = works.at' ∙ at;
      keeps = keeps_then (disk a) (disk m) (disk b) turned.keeps keeps;
      aside = λ told. behind_all (link m) (link b) (disk m) (disk b) was.0 is standing behind (sent_sessions after reply was.0 (turn_after r after) (link m) (link b) was.1) (subst (λ (v : LinkView). IsSome v.sessions) (sym before) told)
          ∙ ap (λ (l : List ℕ). l ++ was.0) turned.aside;
    }

-- ---- and the link goes on, or is ended

pub replies_on : {O : Type 0} (slots : O → SlotsView) (disk : O → DiskView) (p : ℕ) (reply : List ℕ) (after : After) (a b : O) (turn : Turn) → turn ≡ turns.GoOn → SendsDue slots disk p reply after a b turn → RepliesDue slots disk p reply after a b turn
replies_on slots disk p reply after a b turn goes s = record {
  part = s.part;
  link' = (slots b).slot p;
  sent = s.sent;
  now = ap (λ (t : Turn). left_by t ((slots b).slot p)) (sym goes);
  others = s.others;
  count' = s.count';
  keeps = s.keeps;
  aside = s.aside;
}

ends : (turn : Turn) (v : LinkView) → (turn ≡ turns.GoOn → ⊥) → left_by turn v ≡ record v { stands = false }
ends turns.GoOn v not = absurd (not refl)
ends turns.Last v not = refl
ends turns.End v not = refl
ends turns.NotReceived v not = refl
ends turns.NotSent v not = refl

pub replies_ended : {O : Type 0} (slots : O → SlotsView) (disk : O → DiskView) (link : O → LinkView) (p : ℕ) (reply : List ℕ) (after : After) (a b c : O) (turn : Turn) → (turn ≡ turns.GoOn → ⊥) → SendsDue slots disk p reply after a b turn
    → link b ≡ (slots b).slot (slots b).at → link c ≡ (slots c).slot (slots c).at → WorksHere (slots b) (slots c) → LinkKeeps (disk b) (disk c) → SendsBehind (link b) (link c) (disk b) (disk c)
    → (IsSome ((slots a).slot p).sessions → IsSome (link b).sessions) → link c ≡ record (link b) { stands = false } → RepliesDue slots disk p reply after a c turn
replies_ended slots disk link p reply after a b c turn not s here_b here_c works keeps behind told ended =
    let before : link b ≡ (slots b).slot p = here_b ∙ ap (λ (q : ℕ). (slots b).slot q) s.at' in
    let now : link c ≡ (slots c).slot p = here_c ∙ ap (λ (q : ℕ). (slots c).slot q) (works.at' ∙ s.at') in
    let quiet : IsSome (link b).sessions → (disk c).aside ≡ (disk b).aside = λ t. nothing_sent (link b) (link c) (disk b) (disk c) behind (ap (λ (v : LinkView). v.sessions) ended) t in
    record {
      part = s.part;
      link' = (slots b).slot p;
      sent = s.sent;
      now = sym now ∙ ended ∙ ap (λ (v : LinkView). record v { stands = false }) before ∙ sym (ends turn ((slots b).slot p) not);
      others = λ q other. works.others q (λ here. other (here ∙ s.at')) ∙ s.others q other;
      count' = works.count' ∙ s.count';
      keeps = keeps_then (disk a) (disk b) (disk c) s.keeps keeps;
      aside = λ t. quiet (told t) ∙ s.aside t;
    }
  where
    nothing_sent : (v w : LinkView) (x y : DiskView) → SendsBehind v w x y → w.sessions ≡ v.sessions → IsSome v.sessions → y.aside ≡ x.aside
    nothing_sent v w x y behind' stay some' =
        let some = some_of v.sessions some' in
        let grows = behind'.grows some.0 some.0 some.1 (stay ∙ some.1) in
        let none : grows.0 ≡ [] = sym (same_behind (all_sent some.0) [] grows.0 (all_sent some.0) (sym (append-nil (all_sent some.0))) grows.1) in
        grows.2 ∙ ap (λ (l : List ℕ). x.aside ++ l) none ∙ append-nil x.aside

-- where a link told what was sent, it does after a reply
pub told_sent : (after : After) (reply part : List ℕ) (turn : Turn) (v w : LinkView) → Sent after reply turn part v w → IsSome v.sessions → IsSome w.sessions
told_sent after reply part turn v w sent some' =
    let some = some_of v.sessions some' in
    is_there w.sessions _ (sent_sessions after reply part turn v w sent ∙ ap (λ (o : Option (List Session)). option_map (on_last (send part)) o) some.1)

-- ---- one reply after another

-- what is due on other slots stays so
due_stays : (v w : SlotsView) (p size : ℕ) (ds : List Due) → w.count ≡ v.count → ((q : ℕ) → q ≢ p → w.slot q ≡ v.slot q) → NoneDue p ds → AreDue v size ds → AreDue w size ds
due_stays v w p size [] count others none due = tt
due_stays v w p size (d ∷ ds) count others none due = (
  (subst (λ (n : ℕ). d.slot < n) (sym count) due.0.0, due.0.1, due.0.2),
  subst (λ (x : LinkView). IsTrue x.stands) (sym (others d.slot none.0)) due.1,
  due.2,
  due_stays v w p size ds count others none.1 due.3,
)

pub due_next : {O : Type 0} (slots : O → SlotsView) (disk : O → DiskView) (a b : O) (size : ℕ) (d : Due) (ds : List Due) (reply : List ℕ) (turn : Turn) → AreDue (slots a) size (d ∷ ds) → RepliesDue slots disk d.slot reply d.after a b turn → AreDue (slots b) size ds
due_next slots disk a b size d ds reply turn due replied = due_stays (slots a) (slots b) d.slot size ds replied.count' replied.others due.2 due.3

pub replies_more : {O : Type 0} (slots : O → SlotsView) (disk : O → DiskView) (out : List ℕ) (ds : List Due) (ts : List Turn) (d : Due) (t : Turn) (a b c : O) → RepliesRound slots disk out ds ts a b → RepliesDue slots disk d.slot (reply_in out d) d.after b c t
    → RepliesRound slots disk out (ds ++ d ∷ []) (ts ++ t ∷ []) a c
replies_more {O = O} slots disk out [] [] d t a b c none last = (c, subst (λ (x : O). RepliesDue slots disk d.slot (reply_in out d) d.after x c t) none last, refl)
replies_more slots disk out [] (u ∷ us) d t a b c none last = absurd none
replies_more slots disk out (e ∷ es) [] d t a b c none last = absurd none
replies_more slots disk out (e ∷ es) (u ∷ us) d t a b c first last = (first.0, first.1, replies_more slots disk out es us d t first.0 b c first.2 last)

-- what is due stays so while the disk works
pub due_kept : (v w : SlotsView) (size : ℕ) (ds : List Due) → SlotsStay v w → AreDue v size ds → AreDue w size ds
due_kept v w size [] stay due = tt
due_kept v w size (d ∷ ds) stay due = (
  (subst (λ (n : ℕ). d.slot < n) (sym stay.count') due.0.0, due.0.1, due.0.2),
  subst (λ (x : LinkView). IsTrue x.stands) (sym (stay.slot' d.slot)) due.1,
  due.2,
  due_kept v w size ds stay due.3,
)
