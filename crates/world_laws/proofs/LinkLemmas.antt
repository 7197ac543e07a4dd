-- What becomes of a link at a house is a schedule.
use Rattle.std.proofs.Common.{◌≡◌, ◌⊎◌, inl, inr, ℕ, zero, suc, ◌<◌, false, List, [], ◌∷◌, ◌++◌, length, take, drop, Option, Some, None, refl, sym, ap, subst, ◌∙◌, append-nil, slice_get, option_map}
use Rattle.std.proofs.lemmas.List.{take-append-drop}
use Rattle.mc_outside.specs.LinkView as views
use Rattle.mc_outside.specs.LinkView.{LinkView, Session, fresh, on_last, hear, send, next_taken, after_recv, after_send, Failed}
use Rattle.mc_requests.specs.declared.limits.Limits.{Limits}
use Rattle.mc_records.specs.Entry.{Entry}
use Rattle.millicent_http.specs.declared.clock.Clock.TheVariants.{OfLinks}
use Rattle.millicent_http.specs.Items.{Item, request}
use Rattle.millicent_http.specs.Reads.{HaveRead}
use Rattle.millicent_http.specs.Steps.{Did, sent_of, state_after, Run}
use Rattle.millicent_http.specs.Courses.{AreRead, Replied, HadLink, HadLinks, IsServed, BrokeReceiving, BrokeSending}
use Rattle.millicent_http.proofs.CourseLemmas.{replied_more}
use Rattle.millicent_http.proofs.StepLemmas.{state_after-append}
use Rattle.ledger_model.specs.Answer.{Answer}
use Rattle.ledger_model.specs.Replies.{reply_of}
use Rattle.house_core.specs.Session.{State, raised, entered, Gives, Step}
use Rattle.house_serving.specs.InDoubt.{InDoubtLink}
use Rattle.world_model.specs.Worlds.{World, Plays}
use Rattle.world_laws.specs.Links.{AreMoments, TellsMoments, AreSent, IsHeard, LinkIsPlayed, FrontIsPlayed, LinkIsSchedule, LinksArePlayed, AllArePlayed, SomeArePlayed, FirstArePlayed, link_events, after_link, replies_of, AreTexts, IsPartOf, IsReceivedOn, AreReceived, IsOfServing, Leads, AllLead, SomeLead, FirstLead, DoubtLeads, FrontsLead, AllFrontsLead, SomeFrontsLead}
use Rattle.ledger_model.proofs.ListLaws.{all_weaker}
use Rattle.world_model.proofs.Lists.{get_last, set_here}
use Rattle.world_laws.proofs.Cutting.{HasTexts, texts_read, texts_of}
use Rattle.world_laws.proofs.Delivering.{link_plays, link_leads, leads_none, leads_on, leads_from, leads_same, Grow, texts_part}

-- ---- readings

pub front : (xs ys : List ℕ) → AreMoments (xs ++ ys) → AreMoments xs
front [] ys all = tt
front (x ∷ xs) ys all = (all.0, front xs ys all.1)

pub behind : (xs ys : List ℕ) → AreMoments (xs ++ ys) → AreMoments ys
behind [] ys all = all
behind (x ∷ xs) ys all = behind xs ys all.1

-- moments that are told now were told before, and these readings are moments
pub these_moments : (before after : LinkView) (readings : List ℕ) → AreRead OfLinks readings before.readings after.readings → TellsMoments after → AreMoments readings
these_moments before after readings read tells = let r = read tells.0 tells.1 in behind r.0 readings (subst AreMoments r.2 tells.2)

pub moments_read : (before after : LinkView) (readings : List ℕ) → AreRead OfLinks readings before.readings after.readings → TellsMoments after → TellsMoments before
moments_read before after readings read tells = let r = read tells.0 tells.1 in (r.0, r.1, front r.0 readings (subst AreMoments r.2 tells.2))

pub same_moments : (v w : LinkView) → w.readings ≡ v.readings → TellsMoments w → TellsMoments v
same_moments v w same tells = (tells.0, sym same ∙ tells.1, tells.2)

-- ---- what was sent

sent_whole : (steps : List (Did State)) → AreSent steps steps
sent_whole [] = tt
sent_whole (d ∷ ds) = (([], sym (append-nil d.sent)), (λ c. refl), refl, sent_whole ds)

sent_last : (done : List (Did State)) (step last : Did State) → AreSent (step ∷ []) (last ∷ []) → AreSent (done ++ step ∷ []) (done ++ last ∷ [])
sent_last [] step last sent = sent
sent_last (d ∷ ds) step last sent = (([], sym (append-nil d.sent)), (λ c. refl), refl, sent_last ds step last sent)

same_after : (s : State) (steps whole : List (Did State)) → AreSent steps whole → state_after s whole ≡ state_after s steps
same_after s [] [] sent = refl
same_after s [] (e ∷ es) sent = absurd sent
same_after s (d ∷ ds) [] sent = absurd sent
same_after s (d ∷ ds) (e ∷ es) sent = ap (λ (t : State). state_after t es) (sym sent.2) ∙ same_after d.after ds es sent.3

-- ---- a link

played : (limits : Limits) (w : World) (i : ℕ) (s : State) (steps whole : List (Did State)) (before after : LinkView) (got : List ℕ) (items : List Item) → slice_get w.houses i ≡ Some s → HasTexts got items
    → Replied (Step limits) OfLinks items whole s before.readings after.readings → IsHeard got steps before after → AreSent steps whole → LinkIsPlayed limits w i s steps before after
played limits w i s steps whole before after got items house texts replied heard sent = record {
  got = got;
  items = items;
  texts = texts.texts;
  readings = replied.readings;
  whole = whole;
  heard = heard;
  of_bytes = texts.are;
  read = replied.read;
  ran = replied.ran;
  sent = sent;
  moments = λ tells. these_moments before after replied.readings replied.read tells;
  plays = λ moments none. subst (λ (t : State). Plays limits w (link_events i (length w.messages) texts.texts replied.readings) (after_link w i t texts.texts (replies_of whole))) (same_after s steps whole sent)
      (link_plays limits w i s got items texts.texts replied.readings whole house texts.are moments replied.ran none);
}

abbrev pub sessions_of : LinkView → Option (List Session)
sessions_of v = v.sessions

pub heard_served : (limits : Limits) (s : State) (steps : List (Did State)) (before after : LinkView) (c : IsServed (Step limits) OfLinks steps s before after) → IsHeard c.got steps before after
heard_served limits s steps before after c = elim c.to_end [
  | inl eof ↦ inr (ap sessions_of c.sent ∙ ap (λ (v : LinkView). (after_send (sent_of steps) v).sessions) eof)
  | inr stays ↦ inl (ap sessions_of c.sent ∙ ap (λ (v : LinkView). (after_send (sent_of steps) v).sessions) stays.0)
]

served : (limits : Limits) (w : World) (i : ℕ) (s : State) (steps : List (Did State)) (before after : LinkView) → slice_get w.houses i ≡ Some s → IsServed (Step limits) OfLinks steps s before after
    → LinkIsPlayed limits w i s steps before after
served limits w i s steps before after house c =
    played limits w i s steps steps before after c.got c.items house (texts_of _ c.got c.items c.heads) c.replied (heard_served limits s steps before after c) (sent_whole steps)

broke_receiving : (limits : Limits) (w : World) (i : ℕ) (s : State) (steps : List (Did State)) (before after : LinkView) → slice_get w.houses i ≡ Some s → BrokeReceiving (Step limits) OfLinks steps s before after
    → LinkIsPlayed limits w i s steps before after
broke_receiving limits w i s steps before after house c =
    played limits w i s steps steps before after c.got c.items house (texts_of _ c.got c.items c.heads) c.replied (inl (ap sessions_of c.fault.same)) (sent_whole steps)

broke_sending : (limits : Limits) (w : World) (i : ℕ) (s : State) (steps : List (Did State)) (before after : LinkView) → slice_get w.houses i ≡ Some s → BrokeSending (Step limits) OfLinks steps s before after
    → LinkIsPlayed limits w i s steps before after
broke_sending limits w i s steps before after house c =
    let last : Did State = record { sent = c.reply; after = c.step.after } in
    let part : AreSent (c.step ∷ []) (last ∷ []) =
    (subst (λ (l : List ℕ). (rest : List ℕ) × (c.reply ≡ l ++ rest)) (sym c.sent) (drop c.n c.reply, sym (take-append-drop c.n c.reply)), (λ none. absurd (none refl)), refl, tt) in
    let whole = sent_last c.done c.step last part in
    played limits w i s steps (c.done ++ last ∷ []) before after c.got (c.front ++ c.last ∷ []) house (texts_read c.got c.first.held (c.front ++ c.last ∷ []) c.first.read)
    (replied_more (Step limits) OfLinks c.front (c.last ∷ []) c.done (last ∷ []) s before.readings c.between after.readings c.replied c.replied_last)
    (inl (ap sessions_of c.fault.same))
    (subst (λ (ds : List (Did State)). AreSent ds (c.done ++ last ∷ [])) (sym c.steps_are) whole)

-- the link is ended then
ended : (limits : Limits) (w : World) (i : ℕ) (s : State) (steps : List (Did State)) (before stood after : LinkView) → after ≡ record stood { stands = false } → LinkIsPlayed limits w i s steps before stood
    → LinkIsPlayed limits w i s steps before after
ended limits w i s steps before stood after is p = subst (λ (v : LinkView). LinkIsPlayed limits w i s steps before v) (sym is) (record {
  got = p.got;
  items = p.items;
  texts = p.texts;
  readings = p.readings;
  whole = p.whole;
  heard = p.heard;
  of_bytes = p.of_bytes;
  read = p.read;
  ran = p.ran;
  sent = p.sent;
  moments = p.moments;
  plays = p.plays;
})

pub link_is_schedule : LinkIsSchedule
link_is_schedule limits w i s steps before after house had =
    let there : LinkIsPlayed limits w i s steps before had.served = elim had.course [
      | inl a ↦ served limits w i s steps before had.served house a
      | inr b ↦ elim b [
        | inl c ↦ broke_receiving limits w i s steps before had.served house c
        | inr d ↦ broke_sending limits w i s steps before had.served house d
      ]
    ] in
    ended limits w i s steps before had.served after had.ended there

-- ---- links one after another

-- where moments are told after a link, they were told before it
pub moments_before : (limits : Limits) (s : State) (steps : List (Did State)) (before after : LinkView) → HadLink (Step limits) OfLinks steps s before after → TellsMoments after → TellsMoments before
moments_before limits s steps before after had tells =
    let here : TellsMoments had.served = same_moments had.served after (ap (λ (v : LinkView). v.readings) had.ended) tells in
    elim had.course [
      | inl a ↦ moments_read before had.served a.replied.readings a.replied.read here
      | inr b ↦ elim b [
        | inl c ↦ moments_read before had.served c.replied.readings c.replied.read here
        | inr d ↦
            let r = d.replied_last.read here.0 here.1 in
            let q = d.replied.read r.0 r.1 in
            (q.0, q.1, front q.0 d.replied.readings (subst AreMoments q.2 (front r.0 d.replied_last.readings (subst AreMoments r.2 here.2))))
      ]
    ]

links_are_played : (limits : Limits) (i n : ℕ) (s : State) (steps : List (Did State)) (before after : LinkView) → HadLinks (Step limits) OfLinks n steps s before after → LinksArePlayed limits i n s steps before after
links_are_played limits i zero s steps before after had = had
links_are_played limits i (suc n) s steps before after had =
    let first = had.0 in
    let last = had.1 in
    let between = had.2 in
    let link = had.5 in (
      first,
      last,
      between,
      had.3,
      links_are_played limits i n s first before between had.4,
      (λ tells. same_moments between (next_taken between) refl (moments_before limits (state_after s first) last (next_taken between) after link tells)),
      (λ w house. link_is_schedule limits w i (state_after s first) last (next_taken between) after house link),
    )

pub all_are_played : AllArePlayed
all_are_played limits i links n s steps before after all = elim all [
  | inl a ↦ record { between = after; played = links_are_played limits i n s steps before after a.1; same = refl; tells = λ tells. tells }
  | inr b ↦ record {
    between = b.1.0;
    played = links_are_played limits i n s steps before b.1.0 b.1.1;
    same = ap sessions_of b.1.2;
    tells = λ tells. same_moments b.1.0 after (ap (λ (v : LinkView). v.readings) b.1.2) tells;
  }
]

pub some_are_played : SomeArePlayed
some_are_played limits i links s steps before after x = (
  x.n,
  record {
    between = x.between;
    played = links_are_played limits i x.n s steps before x.between x.links_had;
    same = ap sessions_of x.fault.same;
    tells = λ tells. same_moments x.between after (ap (λ (v : LinkView). v.readings) x.fault.same) tells;
  },
)

-- ---- the link on which the disk failed

record FrontRead (bytes : List ℕ) (items : List Item) : Type 0 where
  held : List ℕ
  read : HaveRead bytes items held

front_read : (bytes held : List ℕ) (items : List Item) (last : Item) → HaveRead bytes (items ++ last ∷ []) held → FrontRead bytes items
front_read bytes held [] last read = record { held = bytes; read = refl }
front_read bytes held (item ∷ items) last read =
    let more = front_read read.0 held items last read.2 in
    record { held = more.held; read = (read.0, read.1, more.read) }

-- a reply, or a first part of it, was sent
pub sends_sessions : (reply said : List ℕ) (before after : LinkView)
    → ((said ≡ reply) × (after ≡ after_send reply before)) ⊎ ((n : ℕ) × (n < length reply) × (said ≡ take n reply) × Failed (after_send said before) after) → after.sessions ≡ (after_send said before).sessions
sends_sessions reply said before after (inl a) = ap sessions_of a.1 ∙ ap (λ (l : List ℕ). (after_send l before).sessions) (sym a.0)
sends_sessions reply said before after (inr b) = ap sessions_of b.3.same

pub front_is_played : (limits : Limits) (w : World) (i : ℕ) (s : State) (steps : List (Did State)) (before : LinkView) (e : Entry) (said : List ℕ) (after : LinkView) → slice_get w.houses i ≡ Some s → InDoubtLink limits steps s before e said after
    → FrontIsPlayed limits w i s steps said before after
front_is_played limits w i s steps before e said after house l =
    let first = front_read l.got l.first.held l.front (request l.q l.closes) l.first.read in
    let texts = texts_read l.got first.held l.front first.read in
    record {
      got = l.got;
      items = l.front;
      texts = texts.texts;
      readings = l.replied.readings;
      heard = sends_sessions _ said _ after l.in_doubt.sent;
      of_bytes = texts.are;
      ran = l.replied.ran;
      moments = λ tells.
          let r = l.in_doubt.read tells.0 tells.1 in
          let q = l.replied.read r.0 r.1 in
          behind q.0 l.replied.readings (subst AreMoments q.2 (front r.0 (l.in_doubt.reading ∷ []) (subst AreMoments r.2 tells.2)));
      plays = λ moments none. link_plays limits w i s l.got l.front texts.texts l.replied.readings steps house texts.are moments l.replied.ran none;
    }

pub front_ended : (limits : Limits) (w : World) (i : ℕ) (s : State) (steps : List (Did State)) (said : List ℕ) (before stood after : LinkView) → after ≡ record stood { stands = false }
    → FrontIsPlayed limits w i s steps said before stood → FrontIsPlayed limits w i s steps said before after
front_ended limits w i s steps said before stood after is p = subst (λ (v : LinkView). FrontIsPlayed limits w i s steps said before v) (sym is) (record {
  got = p.got;
  items = p.items;
  texts = p.texts;
  readings = p.readings;
  heard = p.heard;
  of_bytes = p.of_bytes;
  ran = p.ran;
  moments = p.moments;
  plays = p.plays;
})

pub first_are_played : FirstArePlayed
first_are_played limits i links s steps before after e said x =
    let l = x.last_link in
    record {
      n = x.n;
      front = x.front;
      last = x.last;
      between = x.between;
      steps_are = x.steps_are;
      played = links_are_played limits i x.n s x.front before x.between x.links_had;
      here = λ w house. front_ended limits w i (state_after s x.front) x.last said (next_taken x.between) x.stopped after x.ended
          (front_is_played limits w i (state_after s x.front) x.last (next_taken x.between) e said x.stopped house x.last_link);
      tells = λ tells.
          let here : TellsMoments x.stopped = same_moments x.stopped after (ap (λ (v : LinkView). v.readings) x.ended) tells in
          let r = l.in_doubt.read here.0 here.1 in
          let q = l.replied.read r.0 r.1 in
          (q.0, q.1, front q.0 l.replied.readings (subst AreMoments q.2 (front r.0 (l.in_doubt.reading ∷ []) (subst AreMoments r.2 here.2))));
    }

-- ---- what was received

on_last_of : (f : Session → Session) (xs : List Session) (x : Session) → on_last f (xs ++ x ∷ []) ≡ xs ++ f x ∷ []
on_last_of f [] x = refl
on_last_of f (y ∷ []) x = refl
on_last_of f (y ∷ z ∷ xs) x = ap (λ (l : List Session). y ∷ l) (on_last_of f (z ∷ xs) x)

-- the last link, on which these bytes were received, behind those before it
pub record TellsLast (before after : LinkView) (got : List ℕ) (ss : List Session) : Type 0 where
  pub earlier : List Session
  pub last : Session
  pub were : before.sessions ≡ Some earlier
  pub are : ss ≡ earlier ++ last ∷ []
  pub bytes : last.received ≡ got

-- what a link does to the sessions: a list is changed at its last element
one_more : (before after : LinkView) (got : List ℕ) (f : Session → Session) → (f fresh).received ≡ got → (o : Option (List Session)) → before.sessions ≡ o → (ss : List Session)
    → option_map (λ xs. xs ++ f fresh ∷ []) o ≡ Some ss → TellsLast before after got ss
one_more before after got f is None were ss told = absurd cc
one_more before after got f is (Some rs) were ss told = record { earlier = rs; last = f fresh; were = were; are = sym (let same : rs ++ f fresh ∷ [] ≡ ss = cc in same); bytes = is }

pub mapped_last : (g : Session → Session) (x : Session) (o : Option (List Session)) → option_map (on_last g) (option_map (λ xs. xs ++ x ∷ []) o) ≡ option_map (λ xs. xs ++ g x ∷ []) o
mapped_last g x None = refl
mapped_last g x (Some rs) = ap some (on_last_of g rs x)
  where
    some : List Session → Option (List Session)
    some l = Some l

pub tells_last : (between after : LinkView) (got : List ℕ) (steps : List (Did State)) → IsHeard got steps (next_taken between) after → (ss : List Session) → after.sessions ≡ Some ss → TellsLast between after got ss
tells_last between after got steps heard ss is = elim heard [
  | inl a ↦ one_more between after got (λ x. send (sent_of steps) (hear got x)) refl between.sessions refl ss
      (sym (ap (option_map (on_last (send (sent_of steps)))) (mapped_last (hear got) fresh between.sessions) ∙ mapped_last (send (sent_of steps)) (hear got fresh) between.sessions) ∙ sym a ∙ is)
  | inr b ↦ one_more between after got (λ x. send (sent_of steps) (views.ended (hear got x))) refl between.sessions refl ss
      (sym (ap (option_map (on_last (send (sent_of steps)))) (ap (option_map (on_last views.ended)) (mapped_last (hear got) fresh between.sessions) ∙ mapped_last views.ended (hear got fresh) between.sessions) ∙ mapped_last (send (sent_of steps)) (views.ended (hear got fresh)) between.sessions) ∙ sym b ∙ is)
]

tells_front : (between after : LinkView) (got said : List ℕ) (steps : List (Did State)) → after.sessions ≡ (after_send said (after_send (sent_of steps) (after_recv got (next_taken between)))).sessions → (ss : List Session) → after.sessions ≡ Some ss → TellsLast between after got ss
tells_front between after got said steps heard ss is =
    one_more between after got (λ x. send said (send (sent_of steps) (hear got x))) refl between.sessions refl ss
    (sym (ap (option_map (on_last (send said))) (ap (option_map (on_last (send (sent_of steps)))) (mapped_last (hear got) fresh between.sessions) ∙ mapped_last (send (sent_of steps)) (hear got fresh) between.sessions) ∙ mapped_last (send said) (send (sent_of steps) (hear got fresh)) between.sessions) ∙ sym heard ∙ is)

pub grows_by : (between after : LinkView) (got : List ℕ) → ((ss : List Session) → after.sessions ≡ Some ss → TellsLast between after got ss) → Grow between after
grows_by between after got last ss is = let t = last ss is in (t.earlier, t.last ∷ [], t.were, t.are)

texts_received : (between after : LinkView) (got : List ℕ) (items : List Item) (texts : List (List ℕ)) → AreTexts got items texts → ((ss : List Session) → after.sessions ≡ Some ss → TellsLast between after got ss) → AreReceived texts after
texts_received between after got items texts are last ss is =
    let t = last ss is in
    all_weaker (IsPartOf got) (IsReceivedOn ss) (λ text p. (
      length t.earlier,
      t.last,
      subst (λ (xs : List Session). slice_get xs (length t.earlier) ≡ Some t.last) (sym t.are) (get_last t.earlier t.last),
      subst (λ (l : List ℕ). IsPartOf l text) (sym t.bytes) p,
    )) texts (texts_part got items texts are)

-- ---- where they lead

-- a first part of some steps, with the items that it answers
record Front (limits : Limits) (s : State) (bytes : List ℕ) (done : List (Did State)) : Type 0 where
  items : List Item
  texts : List (List ℕ)
  readings : List ℕ
  whole : List (Did State)
  are : AreTexts bytes items texts
  moments : AreMoments readings
  ran : Run (Step limits) s items readings whole
  ends : state_after s whole ≡ state_after s done

front_of : (limits : Limits) (s : State) (bytes : List ℕ) (items : List Item) (texts : List (List ℕ)) (readings : List ℕ) (whole done rest : List (Did State))
    → AreTexts bytes items texts → AreMoments readings → Run (Step limits) s items readings whole → AreSent (done ++ rest) whole → Front limits s bytes done
front_of limits s bytes items texts readings whole [] rest are moments ran sent = record { items = []; texts = []; readings = []; whole = []; are = tt; moments = tt; ran = tt; ends = refl }
front_of limits s bytes items texts readings [] (d ∷ done) rest are moments ran sent = absurd sent
front_of limits s bytes [] texts [] (e ∷ whole) (d ∷ done) rest are moments ran sent = absurd ran
front_of limits s bytes [] texts (r ∷ readings) (e ∷ whole) (d ∷ done) rest are moments ran sent = absurd ran
front_of limits s bytes (item ∷ items) texts [] (e ∷ whole) (d ∷ done) rest are moments ran sent = absurd ran
front_of limits s bytes (item ∷ items) [] (r ∷ readings) (e ∷ whole) (d ∷ done) rest are moments ran sent = absurd are
front_of limits s bytes (item ∷ items) (text ∷ texts) (r ∷ readings) (e ∷ whole) (d ∷ done) rest are moments ran sent =
    let f = front_of limits e.after are.1.0 items texts readings whole done rest are.1.2 moments.1 ran.1 sent.3 in
    record {
      items = item ∷ f.items;
      texts = text ∷ f.texts;
      readings = r ∷ f.readings;
      whole = e ∷ f.whole;
      are = (are.0, (are.1.0, are.1.1, f.are));
      moments = (moments.0, f.moments);
      ran = (ran.0, f.ran);
      ends = f.ends ∙ ap (λ (t : State). state_after t done) (sym sent.2);
    }

-- two ways to part a list
pub parts : {X : Type 0} (first last done rest : List X) → first ++ last ≡ done ++ rest → ((m : List X) × (first ≡ done ++ m)) ⊎ ((m : List X) × (done ≡ first ++ m) × (last ≡ m ++ rest))
parts [] last done rest is = inr (done, refl, is)
parts {X} (x ∷ first) last [] rest is = inl (x ∷ first, refl)
parts {X} (x ∷ first) last (y ∷ done) rest is =
    let head : x ≡ y = cc in
    let tail : first ++ last ≡ done ++ rest = cc in
    elim (parts first last done rest tail) [
      | inl a ↦ inl (a.0, ap (λ (z : X). z ∷ first) head ∙ ap (λ (zs : List X). y ∷ zs) a.1)
      | inr b ↦ inr (b.0, ap (λ (zs : List X). y ∷ zs) b.1 ∙ ap (λ (z : X). z ∷ (first ++ b.0)) (sym head), b.2)
    ]

-- a first part of the steps on a link leads somewhere
pub link_front : (limits : Limits) (w : World) (i : ℕ) (s : State) (steps : List (Did State)) (between after : LinkView) → slice_get w.houses i ≡ Some s → LinkIsPlayed limits w i s steps (next_taken between) after → TellsMoments after
    → (done rest : List (Did State)) → steps ≡ done ++ rest → Leads limits w i (state_after s done) after
link_front limits w i s steps between after house p tells done rest is =
    let f = front_of limits s p.got p.items p.texts p.readings p.whole done rest p.of_bytes (p.moments tells) p.ran (subst (λ (ds : List (Did State)). AreSent ds p.whole) is p.sent) in
    let x = link_leads limits w i s p.got f.items f.texts f.readings f.whole house f.are f.moments f.ran in
    subst (λ (t : State). Leads limits w i t after) f.ends (record {
      events = x.0;
      texts = f.texts;
      replies = replies_of f.whole;
      plays = x.1;
      received = texts_received between after p.got f.items f.texts f.are (tells_last between after p.got steps p.heard);
      kinds = x.2;
    })

link_grows : (limits : Limits) (w : World) (i : ℕ) (s : State) (steps : List (Did State)) (between after : LinkView) → LinkIsPlayed limits w i s steps (next_taken between) after → Grow between after
link_grows limits w i s steps between after p = grows_by between after p.got (tells_last between after p.got steps p.heard)

-- a world with a house in this state
one_house : State → World
one_house s = record { houses = s ∷ []; wallets = []; messages = []; replies = [] }

pub grows_after : (limits : Limits) (s : State) (steps : List (Did State)) (between after : LinkView) → HadLink (Step limits) OfLinks steps s (next_taken between) after → Grow between after
unfolding one_house
grows_after limits s steps between after had = link_grows limits (one_house s) 0 s steps between after (link_is_schedule limits (one_house s) 0 s steps (next_taken between) after refl had)

fronts_lead : (limits : Limits) (i n : ℕ) (s : State) (steps : List (Did State)) (before after : LinkView) → HadLinks (Step limits) OfLinks n steps s before after → FrontsLead limits i s steps after
fronts_lead limits i zero s steps before after had [] rest is w house tells = leads_none IsOfServing limits w i s after house
fronts_lead limits i zero s steps before after had (d ∷ done) rest is w house tells = absurd (let none : [] ≡ d ∷ (done ++ rest) = sym had.0 ∙ is in cc)
fronts_lead limits i (suc n) s steps before after had done rest is w house tells =
    let first = had.0 in
    let last = had.1 in
    let between = had.2 in
    let link = had.5 in
    let told = same_moments between (next_taken between) refl (moments_before limits (state_after s first) last (next_taken between) after link tells) in
    let grow = grows_after limits (state_after s first) last between after link in
    elim (parts first last done rest (sym had.3 ∙ is)) [
      | inl a ↦ leads_on IsOfServing limits w i s (state_after s done) (state_after s done) between after grow house (fronts_lead limits i n s first before between had.4 done a.0 a.1 w house told) (λ x there. leads_none IsOfServing limits x i (state_after s done) after there)
      | inr b ↦
          let m = b.0 in
          let here = fronts_lead limits i n s first before between had.4 first [] (sym (append-nil first)) w house told in
          let both = leads_on IsOfServing limits w i s (state_after s first) (state_after (state_after s first) m) between after grow house here (λ x there.
          link_front limits x i (state_after s first) last between after there (link_is_schedule limits x i (state_after s first) last (next_taken between) after there link) tells m rest b.2) in
          subst (λ (t : State). Leads limits w i t after) (sym (ap (state_after s) b.1 ∙ state_after-append s first m)) both
    ]

pub all_fronts_lead : AllFrontsLead
all_fronts_lead limits i links n s steps before after all done rest is w house tells = elim all [
  | inl a ↦ fronts_lead limits i n s steps before after a.1 done rest is w house tells
  | inr b ↦ leads_same IsOfServing limits w i (state_after s done) b.1.0 after (ap sessions_of b.1.2) (fronts_lead limits i n s steps before b.1.0 b.1.1 done rest is w house (same_moments b.1.0 after (ap (λ (v : LinkView). v.readings) b.1.2) tells))
]

pub some_fronts_lead : SomeFrontsLead
some_fronts_lead limits i links s steps before after x done rest is w house tells =
    leads_same IsOfServing limits w i (state_after s done) x.between after (ap sessions_of x.fault.same) (fronts_lead limits i x.n s steps before x.between x.links_had done rest is w house (same_moments x.between after (ap (λ (v : LinkView). v.readings) x.fault.same) tells))

pub all_lead : AllLead
all_lead limits i links n s steps before after all w house tells = all_fronts_lead limits i links n s steps before after all steps [] (sym (append-nil steps)) w house tells

pub some_lead : SomeLead
some_lead limits i links s steps before after x w house tells = some_fronts_lead limits i links s steps before after x steps [] (sym (append-nil steps)) w house tells

-- ---- the link on which the disk failed

-- moments that are told after it were told before it
pub doubt_tells : (limits : Limits) (u : State) (last : List (Did State)) (between stopped after : LinkView) (e : Entry) (said : List ℕ) → InDoubtLink limits last u (next_taken between) e said stopped
    → after ≡ record stopped { stands = false } → TellsMoments after → TellsMoments between
doubt_tells limits u last between stopped after e said l ended' tells =
    let here : TellsMoments stopped = same_moments stopped after (ap (λ (v : LinkView). v.readings) ended') tells in
    let q = l.in_doubt.read here.0 here.1 in
    let q2 = l.replied.read q.0 q.1 in
    (q2.0, q2.1, front q2.0 l.replied.readings (subst AreMoments q2.2 (front q.0 (l.in_doubt.reading ∷ []) (subst AreMoments q.2 here.2))))

pub doubt_grows : (limits : Limits) (u : State) (last : List (Did State)) (between stopped after : LinkView) (e : Entry) (said : List ℕ) → InDoubtLink limits last u (next_taken between) e said stopped
    → after ≡ record stopped { stands = false } → Grow between after
doubt_grows limits u last between stopped after e said l ended' =
    let heard : after.sessions ≡ (after_send said (after_send (sent_of last) (after_recv l.got (next_taken between)))).sessions = ap sessions_of ended' ∙ sends_sessions _ said _ stopped l.in_doubt.sent in
    grows_by between after l.got (tells_front between after l.got said last heard)

-- the steps before the request in doubt lead somewhere
pub front_leads : (limits : Limits) (w : World) (i : ℕ) (u : State) (last : List (Did State)) (between stopped after : LinkView) (e : Entry) (said : List ℕ) → slice_get w.houses i ≡ Some u → InDoubtLink limits last u (next_taken between) e said stopped
    → after ≡ record stopped { stands = false } → TellsMoments after → Leads limits w i (state_after u last) after
front_leads limits w i u last between stopped after e said house l ended' tells =
    let f = front_ended limits w i u last said (next_taken between) stopped after ended' (front_is_played limits w i u last (next_taken between) e said stopped house l) in
    let z = link_leads limits w i u f.got f.items f.texts f.readings last house f.of_bytes (f.moments tells) f.ran in
    record { events = z.0; texts = f.texts; replies = replies_of last; plays = z.1; received = texts_received between after f.got f.items f.texts f.of_bytes (tells_front between after f.got said last f.heard); kinds = z.2 }

pub first_lead : FirstLead
first_lead limits i links s steps before after e said x w house tells =
    let u : State = state_after s x.front in
    let a = fronts_lead limits i x.n s x.front before x.between x.links_had x.front [] (sym (append-nil x.front)) w house (doubt_tells limits u x.last x.between x.stopped after e said x.last_link x.ended tells) in
    let grow = doubt_grows limits u x.last x.between x.stopped after e said x.last_link x.ended in
    let b = leads_on IsOfServing limits w i s u (state_after u x.last) x.between after grow house a (λ y there. front_leads limits y i u x.last x.between x.stopped after e said there x.last_link x.ended tells) in
    subst (λ (t : State). Leads limits w i t after) (sym (ap (state_after s) x.steps_are ∙ state_after-append s x.front x.last)) b

-- ---- with the request in doubt

-- the step that the disk failed in, as if it had not
doubt_step : State → ℕ → Entry → Did State
doubt_step u reading e = record { sent = reply_of (u.history ++ e ∷ []) (length u.history); after = entered (raised u reading) e }

pub doubt_link : (limits : Limits) (w : World) (i : ℕ) (s : State) (steps : List (Did State)) (between stopped after : LinkView) (e : Entry) (said : List ℕ) → slice_get w.houses i ≡ Some s → InDoubtLink limits steps s (next_taken between) e said stopped
    → after ≡ record stopped { stands = false } → TellsMoments after → (t : State) × (t.history ≡ (state_after s steps).history ++ e ∷ []) × Leads limits w i t after
unfolding doubt_step
doubt_link limits w i s steps between stopped after e said house l ended' tells =
    let u : State = state_after s steps in
    let r : ℕ = l.in_doubt.reading in
    let d : Did State = doubt_step u r e in
    let item : Item = request l.q l.closes in
    let step : Step limits u r item d.sent d.after = subst (λ (a : Answer). Gives (raised u r) l.q a d.sent d.after) (sym l.in_doubt.takes) (inl (refl, refl)) in
    let last : Replied (Step limits) OfLinks (item ∷ []) (d ∷ []) u l.between stopped.readings = record { readings = r ∷ []; read = l.in_doubt.read; ran = (step, tt) } in
    let all = replied_more (Step limits) OfLinks l.front (item ∷ []) steps (d ∷ []) s (next_taken between).readings l.between stopped.readings l.replied last in
    let texts = texts_read l.got l.first.held (l.front ++ item ∷ []) l.first.read in
    let here : TellsMoments stopped = same_moments stopped after (ap (λ (v : LinkView). v.readings) ended') tells in
    let x = link_leads limits w i s l.got (l.front ++ item ∷ []) texts.texts all.readings (steps ++ d ∷ []) house texts.are (these_moments (next_taken between) stopped all.readings all.read here) all.ran in
    let heard : after.sessions ≡ (after_send said (after_send (sent_of steps) (after_recv l.got (next_taken between)))).sessions = ap sessions_of ended' ∙ sends_sessions _ said _ stopped l.in_doubt.sent in (
      d.after,
      refl,
      subst (λ (t : State). Leads limits w i t after) (state_after-append s steps (d ∷ [])) (record {
        events = x.0;
        texts = texts.texts;
        replies = replies_of (steps ++ d ∷ []);
        plays = x.1;
        received = texts_received between after l.got (l.front ++ item ∷ []) texts.texts texts.are (tells_front between after l.got said steps heard);
        kinds = x.2;
      }),
    )

pub doubt_leads : DoubtLeads
doubt_leads limits i links s steps before after e said x w house tells =
    let u : State = state_after s x.front in
    let a = fronts_lead limits i x.n s x.front before x.between x.links_had x.front [] (sym (append-nil x.front)) w house (doubt_tells limits u x.last x.between x.stopped after e said x.last_link x.ended tells) in
    let y : World = after_link w i u a.texts a.replies in
    let there = set_here w.houses i s u house in
    let grow = doubt_grows limits u x.last x.between x.stopped after e said x.last_link x.ended in
    let z = doubt_link limits y i u x.last x.between x.stopped after e said there x.last_link x.ended tells in (
      z.0,
      z.1 ∙ ap (λ (t : State). t.history ++ e ∷ []) (sym (ap (state_after s) x.steps_are ∙ state_after-append s x.front x.last)),
      leads_from IsOfServing limits w i s u z.0 x.between after grow house a z.2,
    )
