-- One turn of a house over a journal.
use Rattle.std.proofs.Common.{◌≡◌, inl, inr, ℕ, ◌<◌, Bool, List, [], ◌∷◌, length, take, refl, sym, ap, ap₂, ◌∙◌, subst, append-nil, Option, Result, Ok, Err}
use Rattle.std.specs.Prelude.{OnOk, OnErr, IsTrue, max}
use Rattle.mc_outside.specs.declared.link.LinkFault.{LinkFault}
use Rattle.mc_outside.specs.Bytes.{Rose}
use Rattle.mc_outside.specs.DiskView.{DiskView, IsDisk, LinkKeeps, Ran}
use Rattle.mc_outside.specs.LinkView.{LinkView, IsLink, LinkGoes, after_recv, after_send, Failed}
use Rattle.mc_requests.specs.declared.limits.Limits.{Limits}
use Rattle.mc_requests.specs.declared.refusal.Refusal.{Refusal}
use Rattle.mc_requests.specs.declared.refusal.Refusal.TheVariants as refusals
use Rattle.mc_records.specs.Entry.{Entry}
use Rattle.mc_requests.specs.declared.request.Request.{Request}
use Rattle.mc_requests.specs.Requests.{Asked, asked_of}
use Rattle.ledger_model.specs.Histories.{History}
use Rattle.ledger_model.specs.Answer as answers
use Rattle.ledger_model.specs.Answer.{Answer, answer}
use Rattle.ledger_model.specs.Replies.{reply_of, refusal_of, head_refusal}
use Rattle.millicent_http.specs.declared.item.After.{After}
use Rattle.millicent_http.specs.declared.item.HeadRefusal.{HeadRefusal}
use Rattle.millicent_http.specs.declared.item.HeadOut.{HeadOut}
use Rattle.millicent_http.specs.declared.item.HeadOut.TheVariants as outs
use Rattle.millicent_http.specs.HeadRefusals.{as_refusal}
use Rattle.millicent_http.specs.Held.{Held}
use Rattle.millicent_http.specs.Takes.{Took, TookItem, with_more}
use Rattle.millicent_http.specs.Items.{Item, request, refused}
use Rattle.scrip_journal.specs.Exits.{EitherNoOutput}
use Rattle.millicent_http.specs.declared.clock.Clock.TheVariants.{OfLinks}
use Rattle.millicent_http.specs.Steps.{Did}
use Rattle.millicent_http.specs.Courses.{AreRead, with_readings}
use Rattle.house_core.specs.BenchView.{BenchView}
use Rattle.house_core.specs.HouseView.{HouseView}
use Rattle.house_core.specs.SettledView.{SettledView}
use Rattle.house_core.specs.declared.outcome.Outcome.TheVariants as outcomes
use Rattle.house_core.specs.declared.outcome.Response.{Response}
use Rattle.house_core.specs.declared.outcome.Response.TheVariants.{New, Again}
use Rattle.house_core.specs.Bench.{house_time, limits_of, state_of}
use Rattle.house_core.specs.House.{HouseRepresents, HouseRests, HasEntered, IsAsItWas, Responds, Leaves}
use Rattle.house_core.proofs.HouseDisk.{house_keeps}
use Rattle.house_core.specs.Session.{State, Gives, entered, raised, Step}
use Rattle.link_turns.specs.declared.turn.Turn.{Turn}
use Rattle.link_turns.specs.declared.turn.Turn.TheVariants.{End, NotReceived}
use Rattle.link_turns.specs.Turns.{Sent, AnsweredItem, Turned, turn_after}
use Rattle.link_turns.specs.Sending.{Sends}
use Rattle.link_turns.proofs.TurnLemmas.{leads_so, item_turned}
use Rattle.link_turns.proofs.ItemLemmas.{item_answered, sent_so, sent_sessions, sends_so, said_sessions, said_readings}
use Rattle.link_turns.proofs.OrderLemmas.{went_on, went_quiet, went_sent, went_written, went_from, halts_told, halts_quiet}
use Rattle.house_serving.specs.Orders.{outside_of, history_of, StandsAt, RefinesBy}
use Rattle.house_serving.specs.InDoubt.{RequestInDoubt}
use Rattle.house_serving.specs.Links.{RepliesTo, AnswersRequest, RefusesHead, TurnsHouse}
use Rattle.millicent_http.proofs.AsideLemmas.{TellsAside, SentNoMore, no_more_still, no_more_then, no_more_heard, no_more_finished}
use Rattle.house_serving.proofs.HouseOrders.{house_leaves, stands_kept}
use Rattle.house_state.specs.Trade.{TradeView}

-- what follows of an answer
told_so : {A E : Type 0} (r : Result A E) (P Q : Type 0) → (P → Q) → OnOk r P → OnOk r Q
told_so (Ok x) P Q so p = so p
told_so (Err e) P Q so p = p

failed_so : {A E : Type 0} (r : Result A E) (P Q : Type 0) → (P → Q) → OnErr r P → OnErr r Q
failed_so (Ok x) P Q so p = p
failed_so (Err e) P Q so p = so p

-- ---- what an outcome says of the answer

done_is : {D T : Type 0} (view : D → DiskView) (trade : T → TradeView) (d : D) (h : History) (a : Answer) (x : HouseView D T) (s : SettledView) (u v : DiskView) (aside : List ℕ)
    → Responds view trade d h a (outcomes.Done x (New s)) → Ran u v (Leaves {D = D} {T = T} {A = Response} a (outcomes.Done x (New s)) h aside)
    → (e : Entry) × (a ≡ answers.Take e) × HasEntered view trade x h e s.number × Ran u v (EitherNoOutput h e aside)
done_is view trade d h (answers.Take e) x s u v aside responds ran = (e, refl, responds.0, ran)
done_is view trade d h (answers.Refused f) x s u v aside responds ran = absurd responds
done_is view trade d h (answers.Again n) x s u v aside responds ran = absurd responds

again_is : {D T : Type 0} (view : D → DiskView) (trade : T → TradeView) (d : D) (h : History) (a : Answer) (x : HouseView D T) (n : ℕ)
    → Responds view trade d h a (outcomes.Done x (Again n)) → (a ≡ answers.Again n) × IsAsItWas view trade d x h
again_is view trade d h (answers.Take e) x n responds = absurd responds
again_is view trade d h (answers.Refused f) x n responds = absurd responds
again_is view trade d h (answers.Again m) x n responds = (ap (λ (k : ℕ). answers.Again k) (sym responds.0), responds.1)

refused_is : {D T : Type 0} (view : D → DiskView) (trade : T → TradeView) (d : D) (h : History) (a : Answer) (x : HouseView D T) (f : Refusal)
    → Responds view trade d h a (outcomes.Refused x f) → (a ≡ answers.Refused f) × IsAsItWas view trade d x h
refused_is view trade d h (answers.Take e) x f responds = absurd responds
refused_is view trade d h (answers.Refused g) x f responds = (ap (λ (r : Refusal). answers.Refused r) (sym responds.0), responds.1)
refused_is view trade d h (answers.Again n) x f responds = absurd responds

starved_is : {D T : Type 0} (view : D → DiskView) (trade : T → TradeView) (d : D) (h : History) (a : Answer) (x : HouseView D T)
    → Responds view trade d h a (outcomes.NoMemory x) → (e : Entry) × (a ≡ answers.Take e) × IsAsItWas view trade d x h
starved_is view trade d h (answers.Take e) x responds = (e, refl, responds)
starved_is view trade d h (answers.Refused f) x responds = absurd responds
starved_is view trade d h (answers.Again n) x responds = absurd responds

halted_is : {D T : Type 0} (view : D → DiskView) (trade : T → TradeView) (d e' : D) (h : History) (a : Answer) (u v : DiskView) (aside : List ℕ)
    → Responds view trade d h a (outcomes.Halted e') → Ran u v (Leaves {D = D} {T = T} {A = Response} a (outcomes.Halted e') h aside)
    → (e : Entry) × (a ≡ answers.Take e) × Ran u v (EitherNoOutput h e aside) × Rose (view d).faults (view e').faults
halted_is view trade d e' h (answers.Take e) u v aside responds ran = (e, refl, ran, responds)
halted_is view trade d e' h (answers.Refused f) u v aside responds ran = absurd responds
halted_is view trade d e' h (answers.Again n) u v aside responds ran = absurd responds

-- ---- the reply to a request at the house time

-- A reply was sent from one house to the next, whose bench is the same.
pub record SentOn {O T : Type 0} (link : O → LinkView) (disk : O → DiskView) (y z : HouseView O T) : Type 0 where
  pub tells : TellsAside link (λ o. (disk o).aside)
  pub is_link : IsLink (link y.journal.disk)
  pub standing : IsTrue (link y.journal.disk).stands
  pub keeps : LinkKeeps (disk y.journal.disk) (disk z.journal.disk)
  pub goes : LinkGoes (link y.journal.disk) (link z.journal.disk)
  pub rests : HouseRests y z

-- a reply was sent, or a prefix of it, when what it speaks of was there
pub reply_went : {O T : Type 0} (link : O → LinkView) (disk : O → DiskView) (trade : T → TradeView) (y z : HouseView O T) (s : State) (d : Did State) → SentOn link disk y z → StandsAt disk trade y d.after
    → (link z.journal.disk).sessions ≡ (after_send d.sent (link y.journal.disk)).sessions → RefinesBy link disk trade y.journal.disk s (d ∷ []) z
reply_went link disk trade y z s d on st sent =
    went_sent link disk outside_of (StandsAt disk trade) history_of (house_leaves disk trade) on.tells y z s d on.is_link on.standing st (stands_kept disk trade y z d.after on.keeps on.rests st) on.keeps on.goes sent

-- nothing new is entered: the reply is the first one of an entry, or a refusal
pub replied_old : {O T : Type 0} (link : O → LinkView) (disk : O → DiskView) (trade : T → TradeView) (limits : Limits) (q : Asked) (after : After) (y z : HouseView O T) (s : State)
    (reply : List ℕ) (r : Result (Unit {0}) LinkFault) → SentOn link disk y z → HouseRepresents disk trade y s.history → house_time y.bench ≡ s.time
    → Gives s q (answer s.history s.time limits q) reply s
    → OnOk r (link z.journal.disk ≡ after_send reply (link y.journal.disk)) → OnErr r ((n : ℕ) × (n < length reply) × Failed (after_send (take n reply) (link y.journal.disk)) (link z.journal.disk))
    → RepliesTo link disk trade limits q after y.journal.disk s (Ok (z, turn_after r after))
replied_old {T = T} link disk trade limits q after y z s reply r on st time gives sent fault =
    let was = sent_so after reply r (link y.journal.disk) (link z.journal.disk) sent fault in
    let step : Did State = record { sent = was.0; after = s } in (
      step,
      reply,
      reply_went link disk trade y z s step on (record { house = st; time = time }) (sent_sessions after reply was.0 (turn_after r after) (link y.journal.disk) (link z.journal.disk) was.1),
      gives,
      was.1,
    )

-- the entry of the request was written and entered, and its first reply was sent
pub replied_new : {O T : Type 0} (link : O → LinkView) (disk : O → DiskView) (trade : T → TradeView) (limits : Limits) (q : Asked) (after : After) (a : O) (y z : HouseView O T) (s : State)
    (settled : SettledView) (r : Result (Unit {0}) LinkFault) → SentOn link disk y z → house_time y.bench ≡ s.time → (disk y.journal.disk).aside ≡ (disk a).aside → (disk y.journal.disk).faults ≡ (disk a).faults → link y.journal.disk ≡ link a
    → Responds disk trade a s.history (answer s.history s.time limits q) (outcomes.Done y (New settled))
    → Ran (disk a) (disk y.journal.disk) (Leaves {D = O} {T = T} {A = Response} (answer s.history s.time limits q) (outcomes.Done y (New settled)) s.history (disk a).aside)
    → OnOk r ((h : History) → HouseRepresents disk trade y h → link z.journal.disk ≡ after_send (reply_of h settled.number) (link y.journal.disk))
    → OnErr r ((h : History) → HouseRepresents disk trade y h
    → (n : ℕ) × (n < length (reply_of h settled.number)) × Failed (after_send (take n (reply_of h settled.number)) (link y.journal.disk)) (link z.journal.disk))
    → RepliesTo link disk trade limits q after a s (Ok (z, turn_after r after))
replied_new {T = T} link disk trade limits q after a y z s settled r on time quiet calm same responds ran sent fault =
    let is = done_is disk trade a s.history (answer s.history s.time limits q) y settled (disk a) (disk y.journal.disk) (disk a).aside responds ran in
    let e : Entry = is.0 in
    let t : State = entered s e in
    let st : HouseRepresents disk trade y t.history = is.2.represents in
    let reply : List ℕ = reply_of t.history settled.number in
    let was = sent_so after reply r (link y.journal.disk) (link z.journal.disk) (told_so r _ _ (λ f. f t.history st) sent) (failed_so r _ _ (λ f. f t.history st) fault) in
    let step : Did State = record { sent = was.0; after = t } in (
      step,
      reply,
      went_written link disk outside_of (StandsAt disk trade) history_of (house_leaves disk trade) on.tells a y.journal.disk s t e step [] z refl (sym (append-nil t.history)) is.3 quiet calm same
          (reply_went link disk trade y z t step on (record { house = st; time = time }) (sent_sessions after reply was.0 (turn_after r after) (link y.journal.disk) (link z.journal.disk) was.1)),
      subst (λ (b : Answer). Gives s q b reply t) (sym is.1) (inl (ap (λ (n : ℕ). reply_of t.history n) is.2.number', refl)),
      subst (λ (v : LinkView). Sent after reply (turn_after r after) was.0 v (link z.journal.disk)) same was.1,
    )

-- the request is refused
pub replied_refused : {O T : Type 0} (link : O → LinkView) (disk : O → DiskView) (trade : T → TradeView) (limits : Limits) (q : Asked) (after : After) (a : O) (y z : HouseView O T) (s : State)
    (f : Refusal) (r : Result (Unit {0}) LinkFault) → SentOn link disk y z → house_time y.bench ≡ s.time
    → Responds disk trade a s.history (answer s.history s.time limits q) (outcomes.Refused y f)
    → OnOk r ((h : History) → HouseRepresents disk trade y h → link z.journal.disk ≡ after_send (refusal_of h (house_time y.bench) q f) (link y.journal.disk))
    → OnErr r ((h : History) → HouseRepresents disk trade y h
    → (n : ℕ) × (n < length (refusal_of h (house_time y.bench) q f)) × Failed (after_send (take n (refusal_of h (house_time y.bench) q f)) (link y.journal.disk)) (link z.journal.disk))
    → RepliesTo link disk trade limits q after a s (Ok (z, turn_after r after))
replied_refused {O = O} link disk trade limits q after a y z s f r on time responds sent fault =
    let is = refused_is disk trade a s.history (answer s.history s.time limits q) y f responds in
    let reply : List ℕ = refusal_of s.history (house_time y.bench) q f in
    subst (λ (d : O). RepliesTo link disk trade limits q after d s (Ok (z, turn_after r after))) is.1.disk'
    (replied_old link disk trade limits q after y z s reply r on is.1.represents time
    (subst (λ (b : Answer). Gives s q b reply s) (sym is.0) (ap (λ (t : ℕ). refusal_of s.history t q f) time, refl))
    (told_so r _ _ (λ g. g s.history is.1.represents) sent) (failed_so r _ _ (λ g. g s.history is.1.represents) fault))

-- memory was refused for the request
pub replied_starved : {O T : Type 0} (link : O → LinkView) (disk : O → DiskView) (trade : T → TradeView) (limits : Limits) (q : Asked) (after : After) (a : O) (y z : HouseView O T) (s : State)
    (r : Result (Unit {0}) LinkFault) → SentOn link disk y z → house_time y.bench ≡ s.time
    → Responds disk trade a s.history (answer s.history s.time limits q) (outcomes.NoMemory y)
    → OnOk r ((h : History) → HouseRepresents disk trade y h → link z.journal.disk ≡ after_send (refusal_of h (house_time y.bench) q refusals.NoMemory) (link y.journal.disk))
    → OnErr r ((h : History) → HouseRepresents disk trade y h
    → (n : ℕ) × (n < length (refusal_of h (house_time y.bench) q refusals.NoMemory)) × Failed (after_send (take n (refusal_of h (house_time y.bench) q refusals.NoMemory)) (link y.journal.disk)) (link z.journal.disk))
    → RepliesTo link disk trade limits q after a s (Ok (z, turn_after r after))
replied_starved {O = O} link disk trade limits q after a y z s r on time responds sent fault =
    let is = starved_is disk trade a s.history (answer s.history s.time limits q) y responds in
    let reply : List ℕ = refusal_of s.history (house_time y.bench) q refusals.NoMemory in
    subst (λ (d : O). RepliesTo link disk trade limits q after d s (Ok (z, turn_after r after))) is.2.disk'
    (replied_old link disk trade limits q after y z s reply r on is.2.represents time
    (subst (λ (b : Answer). Gives s q b reply s) (sym is.1) (inr (ap (λ (t : ℕ). refusal_of s.history t q refusals.NoMemory) time, refl)))
    (told_so r _ _ (λ g. g s.history is.2.represents) sent) (failed_so r _ _ (λ g. g s.history is.2.represents) fault))

-- the request comes again, and gets the first reply of its entry
pub replied_again : {O T : Type 0} (link : O → LinkView) (disk : O → DiskView) (trade : T → TradeView) (limits : Limits) (q : Asked) (after : After) (a : O) (y z : HouseView O T) (s : State)
    (number : ℕ) (r : Result (Unit {0}) LinkFault) → SentOn link disk y z → house_time y.bench ≡ s.time
    → Responds disk trade a s.history (answer s.history s.time limits q) (outcomes.Done y (Again number))
    → OnOk r ((h : History) → HouseRepresents disk trade y h → link z.journal.disk ≡ after_send (reply_of h number) (link y.journal.disk))
    → OnErr r ((h : History) → HouseRepresents disk trade y h
    → (n : ℕ) × (n < length (reply_of h number)) × Failed (after_send (take n (reply_of h number)) (link y.journal.disk)) (link z.journal.disk))
    → RepliesTo link disk trade limits q after a s (Ok (z, turn_after r after))
replied_again {O = O} link disk trade limits q after a y z s number r on time responds sent fault =
    let is = again_is disk trade a s.history (answer s.history s.time limits q) y number responds in
    let reply : List ℕ = reply_of s.history number in
    subst (λ (d : O). RepliesTo link disk trade limits q after d s (Ok (z, turn_after r after))) is.1.disk'
    (replied_old link disk trade limits q after y z s reply r on is.1.represents time
    (subst (λ (b : Answer). Gives s q b reply s) (sym is.0) (refl, refl))
    (told_so r _ _ (λ g. g s.history is.1.represents) sent) (failed_so r _ _ (λ g. g s.history is.1.represents) fault))

-- the disk failed while the entry of the request was written, and it was told so
pub replied_halted : {O T : Type 0} (link : O → LinkView) (disk : O → DiskView) (trade : T → TradeView) (limits : Limits) (q : Asked) (after : After) (a b c : O) (s : State)
    (r : Result (Unit {0}) LinkFault) → TellsAside link (λ o. (disk o).aside) → IsDisk (disk b) → IsLink (link b) → IsTrue (link b).stands → (disk b).aside ≡ (disk a).aside → link b ≡ link a → LinkKeeps (disk b) (disk c) → LinkGoes (link b) (link c)
    → Responds {D = O} {T = T} disk trade a s.history (answer s.history s.time limits q) (outcomes.Halted b)
    → Ran (disk a) (disk b) (Leaves {D = O} {T = T} {A = Response} (answer s.history s.time limits q) (outcomes.Halted b) s.history (disk a).aside)
    → OnOk r ((x : History × Asked) → link c ≡ after_send (refusal_of x.0 s.time x.1 refusals.DiskFault) (link b))
    → OnErr r ((x : History × Asked) → (n : ℕ) × (n < length (refusal_of x.0 s.time x.1 refusals.DiskFault)) × Failed (after_send (take n (refusal_of x.0 s.time x.1 refusals.DiskFault)) (link b)) (link c))
    → RepliesTo {O = O} {T = T} link disk trade limits q after a s (Err c)
replied_halted link disk trade limits q after a b c s r tells is_b is_link on quiet same keeps goes responds ran sent fault =
    let taken = halted_is disk trade a b s.history (answer s.history s.time limits q) (disk a) (disk b) (disk a).aside responds ran in
    let reply : List ℕ = refusal_of s.history s.time q refusals.DiskFault in
    let was = sends_so reply r (link b) (link c) (told_so r _ _ (λ g. g (s.history, q)) sent) (failed_so r _ _ (λ g. g (s.history, q)) fault) in (
      taken.0,
      was.0,
      halts_told link disk tells a b c s.history taken.0 was.0 is_b taken.2 quiet taken.3 same is_link on keeps goes (said_sessions reply was.0 (link b) (link c) was.1),
      taken.1,
      subst (λ (v : LinkView). Sends reply was.0 v (link c)) same was.1,
    )

-- ---- an item, at a reading of the clock

-- a house that represents a history is in a state
pub stands_at : {O T : Type 0} (disk : O → DiskView) (trade : T → TradeView) (x : HouseView O T) (h : History) → HouseRepresents disk trade x h → StandsAt disk trade x (state_of h x.bench)
stands_at disk trade x h st = record { house = st; time = refl }

-- A house was raised to a reading of the clock.
pub record RaisedBy {O T : Type 0} (link : O → LinkView) (disk : O → DiskView) (trade : T → TradeView) (x y : HouseView O T) (reading : ℕ) : Type 0 where
  pub tells : TellsAside link (λ o. (disk o).aside)
  pub keeps : LinkKeeps (disk x.journal.disk) (disk y.journal.disk)
  pub goes : LinkGoes (link x.journal.disk) (link y.journal.disk)
  pub represents : (h : History) → HouseRepresents disk trade x h → HouseRepresents disk trade y h
  pub time : house_time y.bench ≡ max (house_time x.bench) reading
  pub limits : limits_of y.bench ≡ limits_of x.bench
  pub rest : link y.journal.disk ≡ with_readings (link y.journal.disk).readings (link x.journal.disk)
  pub read : AreRead OfLinks (reading ∷ []) (link x.journal.disk).readings (link y.journal.disk).readings

-- nothing was sent while it was raised
pub raised_quiet : {O T : Type 0} (link : O → LinkView) (disk : O → DiskView) (trade : T → TradeView) (x y : HouseView O T) (reading : ℕ) (h : History)
    → RaisedBy link disk trade x y reading → HouseRepresents disk trade x h → RefinesBy link disk trade x.journal.disk (state_of h y.bench) [] y
raised_quiet link disk trade x y reading h up st =
    went_quiet link disk outside_of (StandsAt disk trade) history_of (house_leaves disk trade) up.tells x y (state_of h x.bench) (state_of h y.bench) refl (stands_at disk trade x h st) up.keeps up.goes (stands_at disk trade y h (up.represents h st))
    (no_more_still (link x.journal.disk) (link y.journal.disk) (ap (λ (v : LinkView). v.sessions) up.rest))

-- a step after it, as a step from before
pub raised_went : {O T : Type 0} (link : O → LinkView) (disk : O → DiskView) (trade : T → TradeView) (x y z : HouseView O T) (reading : ℕ) (h : History) (step : Did State)
    → RaisedBy link disk trade x y reading → HouseRepresents disk trade x h → RefinesBy link disk trade y.journal.disk (state_of h y.bench) (step ∷ []) z
    → RefinesBy link disk trade x.journal.disk (state_of h x.bench) (step ∷ []) z
raised_went link disk trade x y z reading h step up st went =
    went_from link disk outside_of (StandsAt disk trade) history_of (house_leaves disk trade) up.tells x.journal.disk (state_of h x.bench) (state_of h y.bench) step [] z refl
    (went_on link disk outside_of (StandsAt disk trade) history_of (house_leaves disk trade) up.tells x.journal.disk (state_of h y.bench) [] (step ∷ []) y z (raised_quiet link disk trade x y reading h up st) went)

-- the state at the reading
pub raised_is : {O T : Type 0} (link : O → LinkView) (disk : O → DiskView) (trade : T → TradeView) (x y : HouseView O T) (reading : ℕ) (h : History) → RaisedBy link disk trade x y reading
    → state_of h y.bench ≡ raised (state_of h x.bench) reading
raised_is link disk trade x y reading h up = ap (λ (t : ℕ). record { history = h; time = t }) up.time

-- a request was answered
pub request_answered : {O T : Type 0} (link : O → LinkView) (disk : O → DiskView) (trade : T → TradeView) (q : Asked) (after : After) (x y : HouseView O T) (reading : ℕ) (h : History)
    (r : Result (HouseView O T × Turn) O) → RaisedBy link disk trade x y reading → HouseRepresents disk trade x h
    → RepliesTo link disk trade (limits_of y.bench) q after y.journal.disk (state_of h y.bench) r
    → AnswersRequest link disk trade (limits_of x.bench) q after x.journal.disk (state_of h x.bench) r
request_answered link disk trade q after x y reading h (Ok r) up st replied =
    let step : Did State = replied.0 in
    let at : State = raised (state_of h x.bench) reading in
    let here : Answer = answer h (house_time y.bench) (limits_of y.bench) q in
    let there : Answer = answer at.history at.time (limits_of x.bench) q in
    let same : here ≡ there = ap₂ (λ (t : ℕ) (l : Limits). answer h t l q) up.time up.limits in (
      step,
      raised_went link disk trade x y r.0 reading h step up st replied.2,
      λ closes. item_answered (Step (limits_of x.bench)) OfLinks (request q closes) after r.1 (state_of h x.bench) step.after (link x.journal.disk) (link y.journal.disk) (link r.0.journal.disk) reading replied.1 step.sent up.read up.rest
          (subst (λ (s : State). Gives s q there replied.1 step.after) (raised_is link disk trade x y reading h up) (subst (λ (a : Answer). Gives (state_of h y.bench) q a replied.1 step.after) same replied.3)) replied.4,
    )
request_answered link disk trade q after x y reading h (Err d) up st replied =
    let e : Entry = replied.0 in
    let said : List ℕ = replied.1 in
    let mid : LinkView = link y.journal.disk in
    let readings : (link d).readings ≡ mid.readings = said_readings (refusal_of h (house_time y.bench) q refusals.DiskFault) said mid (link d) replied.4 in (
      e,
      said,
      halts_quiet link disk up.tells x.journal.disk y.journal.disk h [] e said d up.keeps up.goes (no_more_still (link x.journal.disk) (link y.journal.disk) (ap (λ (v : LinkView). v.sessions) up.rest))
          (house_leaves disk trade x (state_of h x.bench) (stands_at disk trade x h st)) replied.2,
      record {
        reading = reading;
        read = subst (λ (o : Option (List ℕ)). AreRead OfLinks (reading ∷ []) (link x.journal.disk).readings o) (sym readings) up.read;
        takes = ap₂ (λ (t : ℕ) (l : Limits). answer h t l q) (sym up.time) (sym up.limits) ∙ replied.3;
        sent = subst (λ (t : ℕ). Sends (refusal_of h t q refusals.DiskFault) said (with_readings (link d).readings (link x.journal.disk)) (link d)) up.time
            (subst (λ (v : LinkView). Sends (refusal_of h (house_time y.bench) q refusals.DiskFault) said v (link d)) (up.rest ∙ ap (λ (o : Option (List ℕ)). with_readings o (link x.journal.disk)) (sym readings)) replied.4);
      },
    )

-- a head was refused
pub head_answered : {O T : Type 0} (link : O → LinkView) (disk : O → DiskView) (trade : T → TradeView) (f : Refusal) (after : After) (x y z : HouseView O T) (reading : ℕ) (h : History)
    (r : Result (Unit {0}) LinkFault) → RaisedBy link disk trade x y reading → SentOn link disk y z → HouseRepresents disk trade x h
    → OnOk r ((h : History) → HouseRepresents disk trade y h → link z.journal.disk ≡ after_send (head_refusal (house_time y.bench) f) (link y.journal.disk))
    → OnErr r ((h : History) → HouseRepresents disk trade y h
    → (n : ℕ) × (n < length (head_refusal (house_time y.bench) f)) × Failed (after_send (take n (head_refusal (house_time y.bench) f)) (link y.journal.disk)) (link z.journal.disk))
    → RefusesHead link disk trade (limits_of x.bench) f after x.journal.disk (state_of h x.bench) (z, turn_after r after)
head_answered {T = T} link disk trade f after x y z reading h r up on st sent fault =
    let st' : HouseRepresents disk trade y h = up.represents h st in
    let reply : List ℕ = head_refusal (house_time y.bench) f in
    let was = sent_so after reply r (link y.journal.disk) (link z.journal.disk) (told_so r _ _ (λ g. g h st') sent) (failed_so r _ _ (λ g. g h st') fault) in
    let t : State = state_of h y.bench in
    let step : Did State = record { sent = was.0; after = t } in (
      step,
      raised_went link disk trade x y z reading h step up st
          (reply_went link disk trade y z t step on (stands_at disk trade y h st') (sent_sessions after reply was.0 (turn_after r after) (link y.journal.disk) (link z.journal.disk) was.1)),
      λ closes. item_answered (Step (limits_of x.bench)) OfLinks (refused f closes) after (turn_after r after) (state_of h x.bench) t (link x.journal.disk) (link y.journal.disk) (link z.journal.disk) reading reply was.0 up.read up.rest
          (ap (λ (n : ℕ). head_refusal n f) up.time, raised_is link disk trade x y reading h up) was.1,
    )

-- ---- a turn

-- the house as a reader of heads left it
pub record ReadOn {O T : Type 0} (link : O → LinkView) (disk : O → DiskView) (x y : HouseView O T) : Type 0 where
  pub tells : TellsAside link (λ o. (disk o).aside)
  pub keeps : LinkKeeps (disk x.journal.disk) (disk y.journal.disk)
  pub goes : LinkGoes (link x.journal.disk) (link y.journal.disk)
  pub rests : HouseRests x y

pub read_quiet : {O T : Type 0} (link : O → LinkView) (disk : O → DiskView) (trade : T → TradeView) (x y : HouseView O T) (h : History) → ReadOn link disk x y → HouseRepresents disk trade x h
    → SentNoMore (link x.journal.disk) (link y.journal.disk) → RefinesBy link disk trade x.journal.disk (state_of h x.bench) [] y
read_quiet {T = T} link disk trade x y h on st same =
    let s : State = state_of h x.bench in
    let at = stands_at disk trade x h st in
    went_quiet link disk outside_of (StandsAt disk trade) history_of (house_leaves disk trade) on.tells x y s s refl at on.keeps on.goes (stands_kept disk trade x y s on.keeps on.rests at) same

pub read_stands : {O T : Type 0} (link : O → LinkView) (disk : O → DiskView) (trade : T → TradeView) (x y : HouseView O T) (h : History) → ReadOn link disk x y → HouseRepresents disk trade x h
    → HouseRepresents disk trade y h
read_stands link disk trade x y h on st = house_keeps disk trade x y h st on.keeps on.rests

-- an item that was taken was answered
item_turns : {O T : Type 0} (link : O → LinkView) (disk : O → DiskView) (trade : T → TradeView) (item : Bool → Item) (after : After) (x y z : HouseView O T) (h : History) (old new : Held) (turn : Turn) (more : List ℕ) (closing : Bool)
    → ReadOn link disk x y → HouseRepresents disk trade x h → TookItem (with_more old more).bytes old.given (item closing) after new → link y.journal.disk ≡ after_recv more (link x.journal.disk)
    → ((step : Did State) × RefinesBy link disk trade y.journal.disk (state_of h y.bench) (step ∷ []) z × ((closes : Bool) → AnsweredItem (Step (limits_of y.bench)) OfLinks (item closes) after turn step (state_of h y.bench) (link y.journal.disk) (link z.journal.disk)))
    → (steps : List (Did State)) × RefinesBy link disk trade x.journal.disk (state_of h x.bench) steps z × Turned (Step (limits_of x.bench)) OfLinks turn steps (state_of h x.bench) old (link x.journal.disk) new (link z.journal.disk)
item_turns {T = T} link disk trade item after x y z h old new turn more closing on st took came did =
    let step : Did State = did.0 in
    let from : RefinesBy link disk trade y.journal.disk (state_of h x.bench) (step ∷ []) z = subst (λ (b : BenchView T). RefinesBy link disk trade y.journal.disk (state_of h b) (step ∷ []) z) on.rests.bench did.1 in
    let answered : AnsweredItem (Step (limits_of x.bench)) OfLinks (item closing) after turn step (state_of h x.bench) (link y.journal.disk) (link z.journal.disk) =
    subst (λ (b : BenchView T). AnsweredItem (Step (limits_of b)) OfLinks (item closing) after turn step (state_of h b) (link y.journal.disk) (link z.journal.disk)) on.rests.bench (did.2 closing) in (
      step ∷ [],
      went_on link disk outside_of (StandsAt disk trade) history_of (house_leaves disk trade) on.tells x.journal.disk (state_of h x.bench) [] (step ∷ []) y z
          (read_quiet link disk trade x y h on st (no_more_heard (link x.journal.disk) (link y.journal.disk) more (ap (λ (v : LinkView). v.sessions) came))) from,
      item_turned (Step (limits_of x.bench)) OfLinks turn step (state_of h x.bench) old (link x.journal.disk) (link y.journal.disk) more (item closing) after new (link z.journal.disk) took came answered,
    )

pub head_turns : {O T : Type 0} (link : O → LinkView) (disk : O → DiskView) (trade : T → TradeView) (q : Request) (after : After) (x y : HouseView O T) (h : History) (old new : Held) (out : HeadOut)
    (r : Result (HouseView O T × Turn) O) → Took old (link x.journal.disk) out new (link y.journal.disk) → out ≡ outs.Head q after → ReadOn link disk x y → HouseRepresents disk trade x h
    → AnswersRequest link disk trade (limits_of y.bench) (asked_of q) after y.journal.disk (state_of h y.bench) r
    → TurnsHouse link disk trade (limits_of x.bench) x.journal.disk (state_of h x.bench) old new r
head_turns link disk trade q after x y h old new out (Ok r) took is on st did =
    let leads = leads_so old (link x.journal.disk) out (outs.Head q after) new (link y.journal.disk) took is in
    item_turns link disk trade (request (asked_of q)) after x y r.0 h old new r.1 took.got leads.0.0 on st leads.0.1 leads.1 did
head_turns {T = T} link disk trade q after x y h old new out (Err d) took is on st did =
    let leads = leads_so old (link x.journal.disk) out (outs.Head q after) new (link y.journal.disk) took is in
    let e : Entry = did.0 in
    let said : List ℕ = did.1 in
    let in_doubt : RequestInDoubt (limits_of x.bench) (asked_of q) (state_of h x.bench) e said (link y.journal.disk) (link d) =
    subst (λ (b : BenchView T). RequestInDoubt (limits_of b) (asked_of q) (state_of h b) e said (link y.journal.disk) (link d)) on.rests.bench did.3 in (
      e,
      said,
      halts_quiet link disk on.tells x.journal.disk y.journal.disk h [] e said d on.keeps on.goes (no_more_heard (link x.journal.disk) (link y.journal.disk) took.got (ap (λ (v : LinkView). v.sessions) leads.1))
          (house_leaves disk trade x (state_of h x.bench) (stands_at disk trade x h st)) did.2,
      record {
        more = took.got;
        q = asked_of q;
        closes = leads.0.0;
        after = after;
        new = new;
        took = leads.0.1;
        in_doubt = subst (λ (v : LinkView). RequestInDoubt (limits_of x.bench) (asked_of q) (state_of h x.bench) e said v (link d)) leads.1 in_doubt;
      },
    )

pub refused_turns : {O T : Type 0} (link : O → LinkView) (disk : O → DiskView) (trade : T → TradeView) (f : HeadRefusal) (after : After) (x y : HouseView O T) (h : History) (old new : Held) (out : HeadOut)
    (r : HouseView O T × Turn) → Took old (link x.journal.disk) out new (link y.journal.disk) → out ≡ outs.Refused f after → ReadOn link disk x y → HouseRepresents disk trade x h
    → RefusesHead link disk trade (limits_of y.bench) (as_refusal f) after y.journal.disk (state_of h y.bench) r
    → TurnsHouse link disk trade (limits_of x.bench) x.journal.disk (state_of h x.bench) old new (Ok r)
refused_turns link disk trade f after x y h old new out r took is on st did =
    let leads = leads_so old (link x.journal.disk) out (outs.Refused f after) new (link y.journal.disk) took is in
    item_turns link disk trade (refused (as_refusal f)) after x y r.0 h old new r.1 took.got leads.0.0 on st leads.0.1 leads.1 did

pub end_turns : {O T : Type 0} (link : O → LinkView) (disk : O → DiskView) (trade : T → TradeView) (x y : HouseView O T) (h : History) (old new : Held) (out : HeadOut)
    → Took old (link x.journal.disk) out new (link y.journal.disk) → out ≡ outs.End → ReadOn link disk x y → HouseRepresents disk trade x h
    → TurnsHouse link disk trade (limits_of x.bench) x.journal.disk (state_of h x.bench) old new (Ok (y, End))
end_turns link disk trade x y h old new out took is on st =
    let leads = leads_so old (link x.journal.disk) out outs.End new (link y.journal.disk) took is in
    let same : SentNoMore (link x.journal.disk) (link y.journal.disk) =
    no_more_then (link x.journal.disk) (after_recv took.got (link x.journal.disk)) (link y.journal.disk)
    (no_more_heard (link x.journal.disk) (after_recv took.got (link x.journal.disk)) took.got refl)
    (no_more_finished (after_recv took.got (link x.journal.disk)) (link y.journal.disk) (ap (λ (v : LinkView). v.sessions) leads.2)) in
    ([], read_quiet link disk trade x y h on st same, record { none_done = refl; more = took.got; none = leads.1; then' = leads.2 })

pub fault_turns : {O T : Type 0} (link : O → LinkView) (disk : O → DiskView) (trade : T → TradeView) (x y : HouseView O T) (h : History) (old new : Held) (out : HeadOut)
    → Took old (link x.journal.disk) out new (link y.journal.disk) → out ≡ outs.Fault → ReadOn link disk x y → HouseRepresents disk trade x h
    → TurnsHouse link disk trade (limits_of x.bench) x.journal.disk (state_of h x.bench) old new (Ok (y, NotReceived))
fault_turns link disk trade x y h old new out took is on st =
    let leads = leads_so old (link x.journal.disk) out outs.Fault new (link y.journal.disk) took is in
    let same : SentNoMore (link x.journal.disk) (link y.journal.disk) = no_more_heard (link x.journal.disk) (link y.journal.disk) took.got (ap (λ (v : LinkView). v.sessions) leads.2.same) in
    ([], read_quiet link disk trade x y h on st same, record { none_done = refl; more = took.got; none = leads.1; then' = leads.2 })
