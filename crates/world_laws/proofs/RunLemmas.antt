-- Serving a book is a run of a house.
use Rattle.std.proofs.Common.{◌≡◌, ◌⊎◌, inl, inr, ℕ, zero, suc, List, [], ◌∷◌, ◌++◌, map, Option, Some, refl, sym, ap, subst, ◌∙◌, append_assoc, append-nil, slice_get}
use Rattle.std.proofs.lemmas.List.{append_cancel_left}
use Rattle.std.specs.Prelude.{IsSome}
use Rattle.mc_outside.specs.DiskView.{DiskView}
use Rattle.mc_outside.specs.LinkView.{LinkView, next_taken}
use Rattle.mc_outside.proofs.Runs.{ran_weaker}
use Rattle.mc_requests.specs.declared.limits.Limits.{Limits}
use Rattle.operator_command.specs.Operations.{full}
use Rattle.mc_requests.specs.Requests.{Asked}
use Rattle.mc_records.specs.Entry.{Entry}
use Rattle.ledger_model.specs.Histories.{History, time}
use Rattle.ledger_model.specs.Answer as answers
use Rattle.ledger_model.specs.Answer.{Answer, answer}
use Rattle.scrip_journal.specs.Layout.{Encodes}
use Rattle.scrip_journal.proofs.Unique.{one_history}
use Rattle.command_status.specs.declared.status.Status.TheVariants as ends
use Rattle.millicent_http.specs.declared.clock.Clock.TheVariants.{OfLinks}
use Rattle.millicent_http.specs.Items.{Item, request, refused}
use Rattle.millicent_http.specs.Steps.{Did, state_after, Run}
use Rattle.millicent_http.specs.Courses.{HadLink, HadLinks, ServedAll}
use Rattle.millicent_http.proofs.StepLemmas.{state_after-append}
use Rattle.link_turns.specs.Orders.{InOrder}
use Rattle.house_core.specs.Session.{State, raised, Gives, Step}
use Rattle.house_serving.specs.Orders.{history_of}
use Rattle.site_commands.specs.Serving.{ServePair, ServedFrom}
use Rattle.world_model.specs.Worlds.{World, Event, opens, with_house, Plays}
use Rattle.world_model.proofs.Lists.{set_here}
use Rattle.world_laws.specs.Links.{AreSent, IsOfServing, LeadsBy, sent_by_none, after_link}
use Rattle.world_laws.specs.Runs.{IsRunBy, LeavesRunBy, RunsBy, ServingIsARun, HaltingIsARun}
use Rattle.world_laws.proofs.Delivering.{set_twice}
use Rattle.world_laws.proofs.LinkLemmas.{link_is_schedule, all_fronts_lead, some_fronts_lead, first_lead, doubt_leads}

-- ---- a step adds one entry at most

abbrev pub AddsOne : State → State → Type 0
AddsOne s t = (t.history ≡ s.history) ⊎ ((e : Entry) × (t.history ≡ s.history ++ e ∷ []))

pub history_in : State → History
history_in s = s.history

gives_one : (s : State) (q : Asked) (a : Answer) (reply : List ℕ) (t : State) → Gives s q a reply t → AddsOne s t
unfolding history_in
gives_one s q (answers.Take e) reply t (inl x) = inr (e, ap history_in x.1)
gives_one s q (answers.Take e) reply t (inr x) = inl (ap history_in x.1)
gives_one s q (answers.Again n) reply t x = inl (ap history_in x.1)
gives_one s q (answers.Refused f) reply t x = inl (ap history_in x.1)

pub step_one : (limits : Limits) (s : State) (reading : ℕ) (item : Item) (reply : List ℕ) (t : State) → Step limits s reading item reply t → AddsOne s t
unfolding history_in
step_one limits s reading (request q closes) reply t step = gives_one (raised s reading) q (answer s.history (raised s reading).time limits q) reply t step
step_one limits s reading (refused f closes) reply t step = inl (ap history_in step.1)

front_one : (limits : Limits) (s : State) (items : List Item) (readings : List ℕ) (whole done : List (Did State)) (d : Did State) (rest : List (Did State)) → Run (Step limits) s items readings whole → AreSent (done ++ d ∷ rest) whole
    → AddsOne (state_after s done) d.after
front_one limits s items readings [] [] d rest ran sent = absurd sent
front_one limits s items readings [] (c ∷ done) d rest ran sent = absurd sent
front_one limits s [] [] (e ∷ whole) done d rest ran sent = absurd ran
front_one limits s [] (r ∷ readings) (e ∷ whole) done d rest ran sent = absurd ran
front_one limits s (item ∷ items) [] (e ∷ whole) done d rest ran sent = absurd ran
front_one limits s (item ∷ items) (r ∷ readings) (e ∷ whole) [] d rest ran sent = subst (AddsOne s) (sym sent.2) (step_one limits s r item e.sent e.after ran.0)
front_one limits s (item ∷ items) (r ∷ readings) (e ∷ whole) (c ∷ done) d rest ran sent =
    subst (λ (t : State). AddsOne (state_after t done) d.after) (sym sent.2) (front_one limits e.after items readings whole done d rest ran.1 sent.3)

-- two ways to part a list at an element
pub parted_at : {X : Type 0} (first last done : List X) (d : X) (rest : List X) → first ++ last ≡ done ++ d ∷ rest → ((m : List X) × (first ≡ done ++ d ∷ m)) ⊎ ((m : List X) × (done ≡ first ++ m) × (last ≡ m ++ d ∷ rest))
parted_at [] last done d rest is = inr (done, refl, is)
parted_at {X} (x ∷ first) last [] d rest is =
    let head : x ≡ d = cc in
    inl (first, ap (λ (z : X). z ∷ first) head)
parted_at {X} (x ∷ first) last (y ∷ done) d rest is =
    let head : x ≡ y = cc in
    let tail : first ++ last ≡ done ++ d ∷ rest = cc in
    elim (parted_at first last done d rest tail) [
      | inl a ↦ inl (a.0, ap (λ (z : X). z ∷ first) head ∙ ap (λ (zs : List X). y ∷ zs) a.1)
      | inr b ↦ inr (b.0, ap (λ (zs : List X). y ∷ zs) b.1 ∙ ap (λ (z : X). z ∷ (first ++ b.0)) (sym head), b.2)
    ]

unfoldable pub Ones : State → List (Did State) → Type 0
Ones s steps = (done : List (Did State)) (d : Did State) (rest : List (Did State)) → steps ≡ done ++ d ∷ rest → AddsOne (state_after s done) d.after

pub link_one : (limits : Limits) (s : State) (steps : List (Did State)) (taken after : LinkView) → HadLink (Step limits) OfLinks steps s taken after → Ones s steps
unfolding Ones
link_one limits s steps taken after had done d rest is =
    let w : World = record { houses = s ∷ []; wallets = []; messages = []; replies = [] } in
    let p = link_is_schedule limits w 0 s steps taken after refl had in
    front_one limits s p.items p.readings p.whole done d rest p.ran (subst (λ (ds : List (Did State)). AreSent ds p.whole) is p.sent)

-- some steps, and more
pub ones_on : (s : State) (first last steps : List (Did State)) → steps ≡ first ++ last → Ones s first → Ones (state_after s first) last → Ones s steps
unfolding Ones
ones_on s first last steps are ones later done d rest is = elim (parted_at first last done d rest (sym are ∙ is)) [
  | inl a ↦ ones done d a.0 a.1
  | inr b ↦ subst (λ (t : State). AddsOne t d.after) (sym (ap (state_after s) b.1 ∙ state_after-append s first b.0)) (later b.0 d rest b.2)
]

pub ones_none : (s : State) (steps : List (Did State)) → steps ≡ [] → Ones s steps
unfolding Ones
ones_none s steps none [] d rest is = absurd (let no : [] ≡ d ∷ rest = sym none ∙ is in cc)
ones_none s steps none (c ∷ done) d rest is = absurd (let no : [] ≡ c ∷ (done ++ d ∷ rest) = sym none ∙ is in cc)

links_one : (limits : Limits) (n : ℕ) (s : State) (steps : List (Did State)) (before after : LinkView) → HadLinks (Step limits) OfLinks n steps s before after → Ones s steps
links_one limits zero s steps before after had = ones_none s steps had.0
links_one limits (suc n) s steps before after had =
    ones_on s had.0 had.1 steps had.3 (links_one limits n s had.0 before had.2 had.4) (link_one limits (state_after s had.0) had.1 (next_taken had.2) after had.5)

-- ---- a run

pub opened_as : (t s : State) → t.history ≡ s.history → s.time ≡ time s.history → opens t.history ≡ s
opened_as t s same at = ap opens same ∙ ap (λ (n : ℕ). made s.history n) (sym at)
  where
    made : History → ℕ → State
    made h n = record { history = h; time = n }

pub run_of : (Is : ℕ → Event → Type 0) (w : World) (i : ℕ) (t u : State) (links : LinkView) → slice_get w.houses i ≡ Some t → LeadsBy Is full (with_house w i (opens t.history)) i u links → IsRunBy Is w i u.history links
run_of Is w i t u links house a = record {
  u = u;
  has = refl;
  events = a.events;
  texts = a.texts;
  replies = a.replies;
  received = a.received;
  kinds = a.kinds;
  plays = (with_house w i (opens t.history), inl (record { s = t; house = house; after = refl }), subst (λ (v : World). Plays full (with_house w i (opens t.history)) a.events v) same a.plays);
}
  where
    made : List State → World
    made hs = record w { houses = hs; messages = w.messages ++ map sent_by_none a.texts; replies = w.replies ++ a.replies }

    same : after_link (with_house w i (opens t.history)) i u a.texts a.replies ≡ after_link w i u a.texts a.replies
    same = ap made (set_twice w.houses i (opens t.history) u)

none_left : {X : Type 0} (xs ys : List X) → xs ++ ys ≡ [] → xs ≡ []
none_left [] ys is = refl
none_left (x ∷ xs) ys is = absurd cc

none_right : {X : Type 0} (xs ys : List X) → xs ++ ys ≡ [] → ys ≡ []
none_right [] ys is = is
none_right (x ∷ xs) ys is = absurd cc

-- some first entries of one
part_of_one : (more others : List Entry) (e : Entry) → more ++ others ≡ e ∷ [] → (more ≡ []) ⊎ (others ≡ [])
part_of_one [] others e is = inl refl
part_of_one (m ∷ more) others e is = let tail : more ++ others ≡ [] = cc in inr (none_right more others tail)

module _ (Is : ℕ → Event → Type 0) (w : World) (i : ℕ) (t s : State) (steps : List (Did State)) (links : LinkView) (house : slice_get w.houses i ≡ Some t) (same : opens t.history ≡ s) (fronts : (x : World) → slice_get x.houses i ≡ Some s → (done rest : List (Did State)) → steps ≡ done ++ rest → LeadsBy Is full x i (state_after s done) links) (ones : Ones s steps) where
  there : slice_get (with_house w i (opens t.history)).houses i ≡ Some s
  there = set_here w.houses i t (opens t.history) house ∙ ap some same
    where
      some : State → Option State
      some u = Some u

  front_run : (done rest : List (Did State)) → steps ≡ done ++ rest → IsRunBy Is w i (state_after s done).history links
  front_run done rest is = run_of Is w i t (state_after s done) links house (fronts (with_house w i (opens t.history)) there done rest is)

  -- the image of a crash pair that is in order is that of a run
  image_run : (tells : Type 0) (before : List ℕ) (image sent : List ℕ) → InOrder history_of tells s before steps image sent → (g : History) × IsRunBy Is w i g links × Encodes g image
  unfolding Ones
  image_run tells before image sent o =
      let h : History = (state_after s o.done).history in
      let still : o.more ≡ [] → (g : History) × IsRunBy Is w i g links × Encodes g image = λ none. (
        h,
        front_run o.done o.rest o.split,
        subst (λ (g : History). Encodes g image) (ap (λ (m : List Entry). h ++ m) none ∙ append-nil h) o.stands,
      ) in
      elim o.next [
        | inl none ↦ still none
        | inr x ↦
            let d = x.0 in
            let others = x.2 in
            let is : steps ≡ o.done ++ d ∷ x.1 = o.split ∙ ap (λ (ds : List (Did State)). o.done ++ ds) x.3 in
            elim (ones o.done d x.1 is) [
              | inl stays ↦ still (none_left o.more others (append_cancel_left h (o.more ++ others) [] (sym x.4 ∙ stays ∙ sym (append-nil h))))
              | inr more ↦ elim (part_of_one o.more others more.0 (append_cancel_left h (o.more ++ others) (more.0 ∷ []) (sym x.4 ∙ more.1))) [
                | inl none ↦ still none
                | inr all ↦
                    let whole : h ++ o.more ≡ d.after.history = ap (λ (m : List Entry). h ++ m) (sym (append-nil o.more) ∙ ap (λ (m : List Entry). o.more ++ m) (sym all)) ∙ sym x.4 in
                    let on : steps ≡ (o.done ++ d ∷ []) ++ x.1 = is ∙ sym (append_assoc o.done (d ∷ []) x.1) in
                    let run : IsRunBy Is w i d.after.history links = subst (λ (u : State). IsRunBy Is w i u.history links) (state_after-append s o.done (d ∷ [])) (front_run (o.done ++ d ∷ []) x.1 on) in
                    (d.after.history, run, subst (λ (g : History). Encodes g image) whole o.stands)
              ]
            ]
      ]

pub served_run : {O : Type 0} (Is : ℕ → Event → Type 0) (link : O → LinkView) (disk : O → DiskView) (kind : ℕ) (bytes : List ℕ) (a b : O) (s : State) (steps : List (Did State)) → ServedFrom link disk kind bytes a b s steps
    → ((x : World) (i : ℕ) → slice_get x.houses i ≡ Some s → (done rest : List (Did State)) → steps ≡ done ++ rest → LeadsBy Is full x i (state_after s done) (link b)) → Ones s steps
    → (w : World) (i : ℕ) (t : State) → slice_get w.houses i ≡ Some t → Encodes t.history bytes → RunsBy Is link disk w i a b
served_run Is link disk kind bytes a b s steps from fronts ones w i t house stands =
    let same : opens t.history ≡ s = opened_as t s (one_history t.history s.history bytes stands from.encoded.stands) from.encoded.time' in
    record {
      g = (state_after s steps).history;
      left = from.left;
      run = front_run Is w i t s steps (link b) house same (λ x there done rest is. fronts x i there done rest is) ones steps [] (sym (append-nil steps));
      crash = ran_weaker (disk a) (disk b) (ServePair (IsSome (link a).sessions) (disk a) s steps) (LeavesRunBy Is w i (link b) (disk a)) from.pairs (λ image sent p. elim p [
        | inl old ↦ inl old
        | inr order ↦ inr (image_run Is w i t s steps (link b) house same (λ x there done rest is. fronts x i there done rest is) ones (IsSome (link a).sessions) (disk a).aside image sent order)
      ]);
    }

all_ones : (limits : Limits) (links n : ℕ) (s : State) (steps : List (Did State)) (before after : LinkView) → ServedAll (Step limits) OfLinks links n steps s before after → Ones s steps
all_ones limits links n s steps before after all = elim all [
  | inl x ↦ links_one limits n s steps before after x.1
  | inr x ↦ links_one limits n s steps before x.1.0 x.1.1
]

pub serving_is_run : {O : Type 0} (link : O → LinkView) (disk : O → DiskView) → ServingIsARun link disk
serving_is_run link disk kind links bytes a (ends.Served n) b x served tells w i t house stands =
    served_run IsOfServing link disk kind bytes a b x.0 x.1 x.2 (λ y j there done rest is. all_fronts_lead full j links n x.0 x.1 (link a) (link b) x.3 done rest is y there tells) (all_ones full links n x.0 x.1 (link a) (link b) x.3) w i t house stands
serving_is_run link disk kind links bytes a ends.LinkFault b x served tells w i t house stands =
    served_run IsOfServing link disk kind bytes a b x.0 x.1 x.2 (λ y j there done rest is. some_fronts_lead full j links x.0 x.1 (link a) (link b) x.3 done rest is y there tells) (links_one full x.3.n x.0 x.1 (link a) x.3.between x.3.links_had) w i t house stands
serving_is_run link disk kind links bytes a status b x served tells w i t house stands = absurd served

pub halting_is_run : {O : Type 0} (link : O → LinkView) (disk : O → DiskView) → HaltingIsARun link disk
halting_is_run link disk kind links bytes a b x tells w i t house stands image leaves =
    let s : State = x.0 in
    let from = x.4 in
    let same : opens t.history ≡ s = opened_as t s (one_history t.history s.history bytes stands from.encoded.stands) from.encoded.time' in
    let there : slice_get (with_house w i (opens t.history)).houses i ≡ Some s = set_here w.houses i t (opens t.history) house ∙ ap some same in
    elim (from.left.leaves image leaves) [
      | inl old ↦ ((state_after s x.1).history, run_of IsOfServing w i t (state_after s x.1) (link b) house (first_lead full i links s x.1 (link a) (link b) x.2 x.3 x.5 (with_house w i (opens t.history)) there tells), old)
      | inr new ↦
          let z = doubt_leads full i links s x.1 (link a) (link b) x.2 x.3 x.5 (with_house w i (opens t.history)) there tells in
          (z.0.history, run_of IsOfServing w i t z.0 (link b) house z.2, subst (λ (g : History). Encodes g image) (sym z.1) new)
    ]
  where
    some : State → Option State
    some u = Some u
