-- Steps on a link are deliveries of the texts of its items.
use Rattle.std.proofs.Common.{◌≡◌, inl, inr, ℕ, zero, suc, ◌+◌, ◌^◌, ◌<◌, List, [], ◌∷◌, ◌++◌, length, map, Some, None, refl, sym, ap, subst, ◌∙◌, arith, length-append, append_assoc, append-nil, slice_get}
use Rattle.std.specs.Prelude.{slice_set}
use Rattle.std.specs.List.{AllByRecursion}
use Rattle.std.proofs.lemmas.List.{map-append}
use Rattle.std.proofs.lemmas.Option.{same_Some}
use Rattle.mc_requests.specs.declared.limits.Limits.{Limits}
use Rattle.millicent_http.specs.Items.{Item, request, refused, Heads}
use Rattle.millicent_http.specs.Steps.{Did, state_after, Run}
use Rattle.house_core.specs.Session.{State, raised, Step}
use Rattle.world_model.specs.Deliveries.{did, WantsMemory, NoneWants}
use Rattle.world_model.specs.Worlds.{World, Message, Event, Forge, Tell, Deliver, Read, clamped, with_house, with_message, Does, Plays}
use Rattle.world_model.proofs.Delivered.{steps_are_delivered}
use Rattle.world_model.proofs.Lists.{get_front, get_last, set_here}
use Rattle.ledger_model.proofs.ListLaws.{all_weaker, all_append}
use Rattle.mc_outside.specs.LinkView.{LinkView, Session}
use Rattle.world_laws.specs.Links.{AreTexts, link_events, sent_by_none, after_link, replies_of, IsPartOf, IsReceivedOn, AreReceived, IsOfServing, LeadsBy}

-- ---- lists

pub set_same : {X : Type 0} (xs : List X) (n : ℕ) (x : X) → slice_get xs n ≡ Some x → slice_set xs n x ≡ xs
set_same [] n x is = refl
set_same {X} (y ∷ xs) zero x is = ap (λ (z : X). z ∷ xs) (sym (same_Some y x is))
set_same {X} (y ∷ xs) (suc n) x is = ap (λ (zs : List X). y ∷ zs) (set_same xs n x is)

pub set_twice : {X : Type 0} (xs : List X) (n : ℕ) (x y : X) → slice_set (slice_set xs n x) n y ≡ slice_set xs n y
set_twice [] n x y = refl
set_twice (z ∷ xs) zero x y = refl
set_twice {X} (z ∷ xs) (suc n) x y = ap (λ (zs : List X). z ∷ zs) (set_twice xs n x y)

-- ---- one item

-- a moment is a reading of the clock as it is
pub moment_is : (reading : ℕ) → reading < 2 ^ 35 → clamped reading ≡ reading
moment_is reading lt = omega (arith, lt)

-- after the text of an item was sent and has reached the house
abbrev brought : World → ℕ → List ℕ → Did State → World
brought w i text d = after_link w i d.after (text ∷ []) (d.sent ∷ [])

one_delivered : (limits : Limits) (w : World) (i : ℕ) (s : State) (text : List ℕ) (item : Item) (reading : ℕ) (d : Did State) → slice_get w.houses i ≡ Some s → Heads text (item ∷ []) → reading < 2 ^ 35
    → d ≡ did limits s reading item → Does limits (with_message w text None) (Deliver (length w.messages) i reading) (brought w i text d)
one_delivered limits w i s text item reading d house heads moment is =
    let e : Did State = did limits s (clamped reading) item in
    let same : d ≡ e = is ∙ ap (λ (r : ℕ). did limits s r item) (sym (moment_is reading moment)) in
    record {
      message = sent_by_none text;
      s = s;
      items = item ∷ [];
      sent = get_last w.messages (sent_by_none text);
      house = house;
      heads = heads;
      after = ap (λ (x : Did State). then_is x.after x.sent) same ∙ ap (λ (l : List ℕ). then_is e.after l) (sym (append-nil e.sent));
    }
  where
    then_is : State → List ℕ → World
    then_is t reply = record w { houses = slice_set w.houses i t; messages = w.messages ++ sent_by_none text ∷ []; replies = w.replies ++ reply ∷ [] }

-- ---- all items of a link

rest_after : (w : World) (i : ℕ) (t : State) (text : List ℕ) (texts : List (List ℕ)) (d : Did State) (replies : List (List ℕ))
    → after_link (brought w i text d) i t texts replies ≡ after_link w i t (text ∷ texts) (d.sent ∷ replies)
rest_after w i t text texts d replies =
    ap (λ (hs : List State). made hs ((w.messages ++ sent_by_none text ∷ []) ++ map sent_by_none texts) ((w.replies ++ d.sent ∷ []) ++ replies)) (set_twice w.houses i d.after t)
    ∙ ap (λ (ms : List Message). made (slice_set w.houses i t) ms ((w.replies ++ d.sent ∷ []) ++ replies)) (append_assoc w.messages (sent_by_none text ∷ []) (map sent_by_none texts))
    ∙ ap (λ (rs : List (List ℕ)). made (slice_set w.houses i t) (w.messages ++ sent_by_none text ∷ map sent_by_none texts) rs) (append_assoc w.replies (d.sent ∷ []) replies)
  where
    made : List State → List Message → List (List ℕ) → World
    made hs ms rs = record w { houses = hs; messages = ms; replies = rs }

pub nothing_after : (w : World) (i : ℕ) (s : State) → slice_get w.houses i ≡ Some s → after_link w i s [] [] ≡ w
nothing_after w i s house =
    ap (λ (hs : List State). made hs (w.messages ++ []) (w.replies ++ [])) (set_same w.houses i s house)
    ∙ ap (λ (ms : List Message). made w.houses ms (w.replies ++ [])) (append-nil w.messages)
    ∙ ap (λ (rs : List (List ℕ)). made w.houses w.messages rs) (append-nil w.replies)
  where
    made : List State → List Message → List (List ℕ) → World
    made hs ms rs = record w { houses = hs; messages = ms; replies = rs }

counted : (w : World) (i : ℕ) (text : List ℕ) (d : Did State) → length (brought w i text d).messages ≡ length w.messages + 1
counted w i text d = length-append w.messages (sent_by_none text ∷ [])

pub link_plays : (limits : Limits) (w : World) (i : ℕ) (s : State) (bytes : List ℕ) (items : List Item) (texts : List (List ℕ)) (readings : List ℕ) (steps : List (Did State))
    → slice_get w.houses i ≡ Some s → AreTexts bytes items texts → AllByRecursion (λ reading. reading < 2 ^ 35) readings → Run (Step limits) s items readings steps → NoneWants limits s items readings steps
    → Plays limits w (link_events i (length w.messages) texts readings) (after_link w i (state_after s steps) texts (replies_of steps))
link_plays limits w i s bytes [] [] [] [] house are moments ran none = nothing_after w i s house
link_plays limits w i s bytes [] [] [] (d ∷ ds) house are moments ran none = absurd ran
link_plays limits w i s bytes [] [] (r ∷ rs) ds house are moments ran none = absurd ran
link_plays limits w i s bytes [] (t ∷ ts) rs ds house are moments ran none = absurd are
link_plays limits w i s bytes (item ∷ items) [] rs ds house are moments ran none = absurd are
link_plays limits w i s bytes (item ∷ items) (text ∷ texts) [] ds house are moments ran none = absurd ran
link_plays limits w i s bytes (item ∷ items) (text ∷ texts) (r ∷ rs) [] house are moments ran none = absurd ran
link_plays limits w i s bytes (item ∷ items) (text ∷ texts) (r ∷ rs) (d ∷ ds) house are moments ran none =
    let is : d ≡ did limits s r item = elim (steps_are_delivered limits s r item d ran.0) [
      | inl e ↦ e
      | inr wants ↦ absurd (none.0 wants)
    ] in
    let x : World = brought w i text d in
    let rest : Plays limits x (link_events i (length x.messages) texts rs) (after_link x i (state_after d.after ds) texts (replies_of ds)) =
    link_plays limits x i d.after are.1.0 items texts rs ds (at_house d) are.1.2 moments.1 ran.1 none.1 in
    let here : Plays limits x (link_events i (length w.messages + 1) texts rs) (after_link x i (state_after d.after ds) texts (replies_of ds)) =
    subst (λ (m : ℕ). Plays limits x (link_events i m texts rs) (after_link x i (state_after d.after ds) texts (replies_of ds))) (counted w i text d) rest in (
      with_message w text None,
      inl refl,
      (
        x,
        inl (one_delivered limits w i s text item r d house are.0 moments.0 is),
        subst (λ (v : World). Plays limits x (link_events i (length w.messages + 1) texts rs) v) (rest_after w i (state_after d.after ds) text texts d (replies_of ds)) here,
      ),
    )
  where
    at_house : (e : Did State) → slice_get (brought w i text e).houses i ≡ Some e.after
    at_house e = set_here w.houses i s e.after house

-- ---- whatever memory is refused

wants_after : (limits : Limits) (s : State) (reading : ℕ) (item : Item) (d : Did State) → WantsMemory limits s reading item d → d.after ≡ raised s reading
wants_after limits s reading (request q closes) d wants = wants.1
wants_after limits s reading (refused f closes) d wants = absurd wants

pub link_leads : (limits : Limits) (w : World) (i : ℕ) (s : State) (bytes : List ℕ) (items : List Item) (texts : List (List ℕ)) (readings : List ℕ) (steps : List (Did State))
    → slice_get w.houses i ≡ Some s → AreTexts bytes items texts → AllByRecursion (λ reading. reading < 2 ^ 35) readings → Run (Step limits) s items readings steps
    → (events : List Event) × Plays limits w events (after_link w i (state_after s steps) texts (replies_of steps)) × AllByRecursion (IsOfServing i) events
link_leads limits w i s bytes [] [] [] [] house are moments ran = ([], nothing_after w i s house, tt)
link_leads limits w i s bytes [] [] [] (d ∷ ds) house are moments ran = absurd ran
link_leads limits w i s bytes [] [] (r ∷ rs) ds house are moments ran = absurd ran
link_leads limits w i s bytes [] (t ∷ ts) rs ds house are moments ran = absurd are
link_leads limits w i s bytes (item ∷ items) [] rs ds house are moments ran = absurd are
link_leads limits w i s bytes (item ∷ items) (text ∷ texts) [] ds house are moments ran = absurd ran
link_leads limits w i s bytes (item ∷ items) (text ∷ texts) (r ∷ rs) [] house are moments ran = absurd ran
link_leads limits w i s bytes (item ∷ items) (text ∷ texts) (r ∷ rs) (d ∷ ds) house are moments ran =
    let x : World = brought w i text d in
    let sent : World = with_message w text None in
    let rest = link_leads limits x i d.after are.1.0 items texts rs ds (set_here w.houses i s d.after house) are.1.2 moments.1 ran.1 in
    let here : Plays limits x rest.0 (after_link w i (state_after d.after ds) (text ∷ texts) (d.sent ∷ replies_of ds)) =
    subst (λ (v : World). Plays limits x rest.0 v) (rest_after w i (state_after d.after ds) text texts d (replies_of ds)) rest.1 in
    elim (steps_are_delivered limits s r item d ran.0) [
      | inl is ↦ (
        Forge text ∷ Deliver (length w.messages) i r ∷ rest.0,
        (sent, inl refl, (x, inl (one_delivered limits w i s text item r d house are.0 moments.0 is), here)),
        (tt, (refl, rest.2)),
      )
      | inr wants ↦
          let at : d.after ≡ raised s (clamped r) = wants_after limits s r item d wants ∙ ap (λ (n : ℕ). raised s n) (sym (moment_is r moments.0)) in (
            Forge text ∷ Read i r ∷ Tell d.sent ∷ rest.0,
            (sent, inl refl, (with_house sent i d.after, inl (record { s = s; house = house; after = ap (λ (t : State). with_house sent i t) at }), (x, inl refl, here))),
            (tt, (refl, (tt, rest.2))),
          )
    ]

-- ---- one schedule after another

pub plays_append : (limits : Limits) (w : World) (es fs : List Event) (x v : World) → Plays limits w es x → Plays limits x fs v → Plays limits w (es ++ fs) v
plays_append limits w [] fs x v a b = subst (λ (u : World). Plays limits u fs v) a b
plays_append limits w (e ∷ es) fs x v a b = (a.0, a.1, plays_append limits a.0 es fs x v a.2 b)

pub links_twice : (w : World) (i : ℕ) (t u : State) (xs ys : List (List ℕ)) (rs qs : List (List ℕ)) → after_link (after_link w i t xs rs) i u ys qs ≡ after_link w i u (xs ++ ys) (rs ++ qs)
links_twice w i t u xs ys rs qs =
    ap (λ (hs : List State). made hs ((w.messages ++ map sent_by_none xs) ++ map sent_by_none ys) ((w.replies ++ rs) ++ qs)) (set_twice w.houses i t u)
    ∙ ap (λ (ms : List Message). made (slice_set w.houses i u) ms ((w.replies ++ rs) ++ qs)) (append_assoc w.messages (map sent_by_none xs) (map sent_by_none ys) ∙ ap (λ (ms : List Message). w.messages ++ ms) (sym (map-append sent_by_none xs ys)))
    ∙ ap (λ (rs : List (List ℕ)). made (slice_set w.houses i u) (w.messages ++ map sent_by_none (xs ++ ys)) rs) (append_assoc w.replies rs qs)
  where
    made : List State → List Message → List (List ℕ) → World
    made hs ms rs = record w { houses = hs; messages = ms; replies = rs }

pub leads_none : (Is : ℕ → Event → Type 0) (limits : Limits) (w : World) (i : ℕ) (s : State) (links : LinkView) → slice_get w.houses i ≡ Some s → LeadsBy Is limits w i s links
leads_none Is limits w i s links house = record { events = []; texts = []; replies = []; plays = nothing_after w i s house; received = λ ss is. tt; kinds = tt }

-- the later links begin with the earlier ones
abbrev pub Grow : LinkView → LinkView → Type 0
Grow a b = (ss : List Session) → b.sessions ≡ Some ss → (rs : List Session) × (more : List Session) × (a.sessions ≡ Some rs) × (ss ≡ rs ++ more)

received_still : (a b : LinkView) (texts : List (List ℕ)) → Grow a b → AreReceived texts a → AreReceived texts b
received_still a b texts grow all ss is =
    let g = grow ss is in
    all_weaker (IsReceivedOn g.0) (IsReceivedOn ss) (λ text p. (p.0, p.1, subst (λ (xs : List Session). slice_get xs p.0 ≡ Some p.1) (sym g.3) (get_front g.0 g.1 p.0 p.1 p.2), p.3)) texts (all g.0 g.2)

-- a house that was led somewhere is led on from there
pub leads_from : (Is : ℕ → Event → Type 0) (limits : Limits) (w : World) (i : ℕ) (s t u : State) (a b : LinkView) → Grow a b → slice_get w.houses i ≡ Some s → (first : LeadsBy Is limits w i t a)
    → LeadsBy Is limits (after_link w i t first.texts first.replies) i u b → LeadsBy Is limits w i u b
leads_from Is limits w i s t u a b grow house first c =
    let x : World = after_link w i t first.texts first.replies in
    record {
      events = first.events ++ c.events;
      texts = first.texts ++ c.texts;
      replies = first.replies ++ c.replies;
      plays = subst (λ (v : World). Plays limits w (first.events ++ c.events) v) (links_twice w i t u first.texts c.texts first.replies c.replies) (plays_append limits w first.events c.events x (after_link x i u c.texts c.replies) first.plays c.plays);
      received = λ ss is. all_append (IsReceivedOn ss) first.texts c.texts (received_still a b first.texts grow first.received ss is) (c.received ss is);
      kinds = all_append (Is i) first.events c.events first.kinds c.kinds;
    }

pub leads_on : (Is : ℕ → Event → Type 0) (limits : Limits) (w : World) (i : ℕ) (s t u : State) (a b : LinkView) → Grow a b → slice_get w.houses i ≡ Some s → LeadsBy Is limits w i t a
    → ((x : World) → slice_get x.houses i ≡ Some t → LeadsBy Is limits x i u b) → LeadsBy Is limits w i u b
leads_on Is limits w i s t u a b grow house first then_ =
    leads_from Is limits w i s t u a b grow house first (then_ (after_link w i t first.texts first.replies) (set_here w.houses i s t house))

pub leads_same : (Is : ℕ → Event → Type 0) (limits : Limits) (w : World) (i : ℕ) (t : State) (a b : LinkView) → b.sessions ≡ a.sessions → LeadsBy Is limits w i t a → LeadsBy Is limits w i t b
leads_same Is limits w i t a b same x = record { events = x.events; texts = x.texts; replies = x.replies; plays = x.plays; received = λ ss is. x.received ss (sym same ∙ is); kinds = x.kinds }

pub leads_weaker : (Is Other : ℕ → Event → Type 0) → ((i : ℕ) (e : Event) → Is i e → Other i e) → (limits : Limits) (w : World) (i : ℕ) (t : State) (links : LinkView) → LeadsBy Is limits w i t links → LeadsBy Other limits w i t links
leads_weaker Is Other so limits w i t links x = record { events = x.events; texts = x.texts; replies = x.replies; plays = x.plays; received = x.received; kinds = all_weaker (Is i) (Other i) (so i) x.events x.kinds }

-- the texts of the items at the front of some bytes are parts of them
pub texts_part : (bytes : List ℕ) (items : List Item) (texts : List (List ℕ)) → AreTexts bytes items texts → AllByRecursion (IsPartOf bytes) texts
texts_part bytes [] [] are = tt
texts_part bytes [] (text ∷ texts) are = absurd are
texts_part bytes (item ∷ items) [] are = absurd are
texts_part bytes (item ∷ items) (text ∷ texts) are =
    let rest = are.1.0 in
    let is = are.1.1 in (
      ([], rest, is),
      all_weaker (IsPartOf rest) (IsPartOf bytes) (λ t p. (text ++ p.0, p.1, is ∙ ap (λ (l : List ℕ). text ++ l) p.2 ∙ sym (append_assoc text p.0 (t ++ p.1)))) texts (texts_part rest items texts are.1.2),
    )
