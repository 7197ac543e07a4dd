-- From what came in the buffer to what was taken.
use Rattle.std.proofs.Common.{◌≡◌, ℕ, ◌+◌, ◌≤◌, List, ◌++◌, inl, inr, length, take, drop, refl, sym, ◌∙◌, ap, subst, arith, Result, Ok, Err}
use Rattle.std.specs.Prelude.{slice_range}
use Rattle.std.proofs.lemmas.List.{length-take, take-append-drop}
use Rattle.mc_outside.specs.LinkView.{LinkView, after_recv}
use Rattle.mc_outside.proofs.Sessions.{heard_more}
use Rattle.millicent_http.specs.Items.{max_head}
use Rattle.millicent_http.proofs.EndLemmas.{range_stays}
use Rattle.reply_reader.specs.declared.reply.ReplyFault.{ReplyFault}
use Rattle.reply_reader.specs.declared.reply.ReplyFault.TheVariants.{BadReply, NoReply, Fault}
use Rattle.reply_reader.specs.declared.arrival.Arrived.{Arrived}
use Rattle.reply_reader.specs.declared.reader.TheConstants.{REPLY_ROOM}
use Rattle.reply_reader.specs.Said.{HeadSaid, HeadSays, SaysNothing}
use Rattle.millicent_http.specs.Received.{Received}
use Rattle.reply_reader.specs.Replies.{received_with, head_text, Says, IsShort}
use Rattle.reply_reader.specs.Takes.{WaitedFor, EndsAs, TookReply}
use Rattle.reply_reader.specs.Arrivals.{Stopped, HasHead, HeadArrives, ContentsArrive}
use Rattle.reply_reader.proofs.ReplyLemmas.{says_stays}
use Rattle.reply_reader.proofs.ArrivalLemmas.{take_on, part_stays, front_of_front}

-- ---- the head

few_held : (buf : List ℕ) (held : ℕ) → length buf ≡ REPLY_ROOM → length (take held buf) ≤ REPLY_ROOM
few_held buf held size = omega (arith, size, length-take held buf)

-- no head came
pub took_no_head : (before after : LinkView) (buf : List ℕ) (fault : ReplyFault) → HeadArrives before buf (Err fault) after → length buf ≡ REPLY_ROOM → TookReply before (Err fault) after
took_no_head before after buf BadReply a size = record { got = take a.held buf; few = few_held buf a.held size; waited = a.waited; ends = (inr a.ends.0, a.ends.1) }
took_no_head before after buf NoReply a size = record { got = take a.held buf; few = few_held buf a.held size; waited = a.waited; ends = ((length (take a.held buf) + 1, inl (record { none = a.ends.0; one = refl })), a.ends.1) }
took_no_head before after buf Fault a size = record { got = take a.held buf; few = few_held buf a.held size; waited = a.waited; ends = ((length (take a.held buf) + 1, inl (record { none = a.ends.0; one = refl })), a.ends.1) }

-- a part of a front
part_of_front : (a : List ℕ) (n i end : ℕ) → end ≤ length (take n a) → slice_range (take n a) i end ≡ slice_range a i end
part_of_front a n i end le = sym (range_stays (take n a) (drop n a) i end le) ∙ ap (λ (z : List ℕ). slice_range z i end) (take-append-drop n a)

-- the text of a head in the buffer
text_here : (buf : List ℕ) (held : ℕ) (head : Arrived) → HasHead (take held buf) head → slice_range buf head.skip head.end ≡ head_text (take held buf) head.end
text_here buf held head h =
    let got : List ℕ = take held buf in
    let within : head.end ≤ length (take held buf) = omega (arith, h.first.within, length-take max_head got) in
    sym (part_of_front buf held head.skip head.end within)
    ∙ sym (part_of_front got max_head head.skip head.end h.first.within)
    ∙ ap (λ (n : ℕ). slice_range (take max_head got) n head.end) h.skip

-- a head that says nothing
pub took_bad : (before after : LinkView) (buf : List ℕ) (head : Arrived) → HeadArrives before buf (Ok head) after → length buf ≡ REPLY_ROOM → SaysNothing (slice_range buf head.skip head.end)
    → TookReply before (Err BadReply) after
took_bad before after buf head a size none = record {
  got = take a.held buf;
  few = few_held buf a.held size;
  waited = a.waited;
  ends = (inl (record { end = head.end; first = a.ends.1.first; none = subst SaysNothing (text_here buf a.held head a.ends.1) none }), a.ends.2);
}

-- ---- the contents

-- a head that says something, and what came behind it
pub record Comes (before mid : LinkView) (old new : List ℕ) (arrived : Arrived) (x : HeadSaid) : Type 0 where
  pub head : HeadArrives before old (Ok arrived) mid
  pub size : length old ≡ REPLY_ROOM
  pub len : length new ≡ length old
  pub says : HeadSays (slice_range old arrived.skip arrived.end) x

-- so many bytes of the new buffer, from the old ones on
grown : (old new : List ℕ) (held now : ℕ) → held ≤ now → take held new ≡ take held old → take now new ≡ take held old ++ slice_range new held now
grown old new held now le front = take_on new held now le ∙ ap (λ (z : List ℕ). z ++ slice_range new held now) front

says_grown : (before mid : LinkView) (old new : List ℕ) (head : Arrived) (x : HeadSaid) (now : ℕ) → Comes before mid old new head x → head.held ≤ now → take head.held new ≡ take head.held old → Says (take now new) head.end x
says_grown before mid old new head x now c le front =
    let same : c.head.held ≡ head.held = sym c.head.ends.0 in
    let here : HasHead (take head.held old) head = subst (λ (n : ℕ). HasHead (take n old) head) same c.head.ends.1 in
    let says : Says (take head.held old) head.end x = record { first = here.first; says = subst (λ (t : List ℕ). HeadSays t x) (text_here old head.held head here) c.says } in
    subst (λ (z : List ℕ). Says z head.end x) (sym (grown old new head.held now le front)) (says_stays (take head.held old) (slice_range new head.held now) head.end x says)

waited_on : (before mid : LinkView) (old new : List ℕ) (head : Arrived) (x : HeadSaid) (answer : Result (Unit {0}) ReplyFault) (after : LinkView)
    → Comes before mid old new head x → (a : ContentsArrive head.held (head.end + x.length) mid old new answer after) → WaitedFor (take a.now new)
waited_on before mid old new head x answer after c a = elim (a.waited) [
  | inl none ↦
      let same : c.head.held ≡ head.held = sym c.head.ends.0 in
      subst (λ (n : ℕ). WaitedFor (take n new)) (sym none) (subst WaitedFor (sym a.front) (subst (λ (n : ℕ). WaitedFor (take n old)) same c.head.waited))
  | inr some ↦ inr (
    take some.0 new,
    slice_range new some.0 a.now,
    take_on new some.0 a.now some.2,
    (
      head.end + x.length,
      inr (record {
        end = head.end;
        x = x;
        says = says_grown before mid old new head x some.0 c some.1 a.front;
        whole = refl;
        few = omega (arith, some.3, length-take some.0 new);
      }),
    ),
  )
]

-- all that came
heard_grown : (before mid : LinkView) (old new : List ℕ) (head : Arrived) (x : HeadSaid) (now : ℕ) → Comes before mid old new head x → head.held ≤ now → take head.held new ≡ take head.held old
    → after_recv (slice_range new head.held now) mid ≡ after_recv (take now new) before
heard_grown before mid old new head x now c le front =
    let same : c.head.held ≡ head.held = sym c.head.ends.0 in
    ap (after_recv (slice_range new head.held now)) (c.head.ends.2 ∙ ap (λ (n : ℕ). after_recv (take n old) before) same)
    ∙ heard_more before (take head.held old) (slice_range new head.held now)
    ∙ ap (λ (z : List ℕ). after_recv z before) (sym (grown old new head.held now le front))

stops_short : (got : List ℕ) (fault : ReplyFault) (before after : LinkView) → IsShort got → Stopped fault before after → EndsAs got (Err fault) before after
stops_short got BadReply before after short s = absurd s
stops_short got NoReply before after short s = (short, s)
stops_short got Fault before after short s = (short, s)

pub took_less : (before mid after : LinkView) (old new : List ℕ) (head : Arrived) (x : HeadSaid) (fault : ReplyFault) → Comes before mid old new head x
    → ContentsArrive head.held (head.end + x.length) mid old new (Err fault) after → TookReply before (Err fault) after
took_less before mid after old new head x fault c a =
    let short : IsShort (take a.now new) = (
      head.end + x.length,
      inr (record {
        end = head.end;
        x = x;
        says = says_grown before mid old new head x a.now c a.order a.front;
        whole = refl;
        few = omega (arith, a.ends.0, length-take a.now new);
      }),
    ) in
    record {
      got = take a.now new;
      few = few_held new a.now (c.len ∙ c.size);
      waited = waited_on before mid old new head x (Err fault) after c a;
      ends = stops_short (take a.now new) fault (after_recv (take a.now new) before) after short
          (subst (λ (v : LinkView). Stopped fault v after) (heard_grown before mid old new head x a.now c a.order a.front) a.ends.1);
    }

pub took_whole : (before mid after : LinkView) (old new : List ℕ) (head : Arrived) (x : HeadSaid) (u : Unit {0}) (r : Received) → Comes before mid old new head x
    → ContentsArrive head.held (head.end + x.length) mid old new (Ok u) after → r ≡ received_with x (slice_range new head.end (head.end + x.length)) → TookReply before (Ok r) after
took_whole before mid after old new head x u r c a is =
    let len : length (take a.now new) ≡ a.now = omega (arith, length-take a.now new, a.within) in
    let contents : slice_range (take a.now new) head.end (head.end + x.length) ≡ slice_range new head.end (head.end + x.length) =
    part_of_front new a.now head.end (head.end + x.length) (omega (arith, len, a.ends.0)) in
    record {
      got = take a.now new;
      few = few_held new a.now (c.len ∙ c.size);
      waited = waited_on before mid old new head x (Ok u) after c a;
      ends = (
        record {
          end = head.end;
          x = x;
          says = says_grown before mid old new head x a.now c a.order a.front;
          enough = omega (arith, len, a.ends.0);
          is = is ∙ ap (received_with x) (sym contents);
        },
        a.ends.1 ∙ heard_grown before mid old new head x a.now c a.order a.front,
      );
    }

-- the text of the head is what it was
pub text_stays : (old new : List ℕ) (skip end held : ℕ) → skip ≤ end → end ≤ held → take held new ≡ take held old → slice_range new skip end ≡ slice_range old skip end
text_stays old new skip end held order within front = part_stays old new skip end order (front_of_front old new end held within front)
