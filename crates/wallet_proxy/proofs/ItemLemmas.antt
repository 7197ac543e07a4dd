-- An item, and a turn of a link.
use Rattle.std.proofs.Common.{◌≡◌, ◌∙◌, ℕ, ◌≤◌, Bool, true, false, List, [], ◌∷◌, max, refl, sym, ap, subst, Option, Result, Ok, Err}
use Rattle.mc_outside.specs.DiskView.{DiskView, LinkKeeps}
use Rattle.mc_outside.specs.LinkView.{LinkView, LinkGoes, after_recv}
use Rattle.mc_requests.specs.declared.refusal.Refusal.{Refusal}
use Rattle.mc_requests.specs.declared.refusal.Refusal.TheVariants.{NotPlain, DiskFault}
use Rattle.mc_requests.specs.declared.request.Request.{Request}
use Rattle.mc_requests.specs.Requests.{Asked, asked_of}
use Rattle.ledger_model.specs.Histories.{History}
use Rattle.millicent_http.proofs.AsideLemmas.{TellsAside, SentNoMore, no_more_still, no_more_then, no_more_heard, no_more_finished}
use Rattle.millicent_http.specs.declared.item.After.{After}
use Rattle.millicent_http.specs.declared.item.After.TheVariants as afters
use Rattle.millicent_http.specs.declared.item.HeadRefusal.{HeadRefusal}
use Rattle.millicent_http.specs.declared.item.HeadOut.{HeadOut}
use Rattle.millicent_http.specs.declared.item.HeadOut.TheVariants as outs
use Rattle.millicent_http.specs.HeadRefusals.{as_refusal}
use Rattle.millicent_http.specs.Held.{Held}
use Rattle.millicent_http.specs.Takes.{Took, TookItem, with_more}
use Rattle.millicent_http.specs.Items.{Item, request, refused}
use Rattle.millicent_http.specs.declared.clock.Clock.TheVariants.{OfLinks}
use Rattle.millicent_http.specs.Steps.{Did}
use Rattle.millicent_http.specs.Courses.{AreRead, with_readings}
use Rattle.wallet_model.specs.Requests.{kept_get}
use Rattle.wallet_model.specs.Asks.{chosen}
use Rattle.wallet_book.specs.Book.{BookView}
use Rattle.wallet_core.specs.WalletView.{WalletView}
use Rattle.wallet_core.specs.Wallet.{WalletStands}
use Rattle.wallet_core.specs.Rests.{WalletRests, wallet_keeps}
use Rattle.link_turns.specs.declared.turn.Turn.{Turn}
use Rattle.link_turns.specs.declared.turn.Turn.TheVariants.{End, NotReceived}
use Rattle.link_turns.specs.Sending.{Sends}
use Rattle.link_turns.specs.Turns.{AnsweredItem}
use Rattle.link_turns.proofs.TurnLemmas.{leads_so, item_turned}
use Rattle.link_turns.proofs.ItemLemmas.{item_answered, said_readings}
use Rattle.link_turns.proofs.OrderLemmas.{went_on, went_quiet, went_from, halts_quiet}
use Rattle.wallet_proxy.specs.Told.{Told, refusal, told_reply}
use Rattle.wallet_proxy.specs.Proxy.{ProxyState, history_of, Bounds, payment_by, payment_for, within_budget, is_plain, raised, ProxyStep, PaysBy, DoubtsBy}
use Rattle.wallet_proxy.specs.Links.{Now, now, out_of, StandsAt, state_at, Went, Answers, RequestInDoubt, AnswersRequest, RefusesHead, TurnsProxy}
use Rattle.wallet_proxy.proofs.AnswerLemmas.{state_leaves}

-- ---- line 2

pub payment_plain : (b : Bounds) (s : ProxyState) (q : Asked) → is_plain q ≡ true → payment_for b s q ≡ within_budget b.budget s.paid (payment_by (kept_get s.history b.vendor q.target) (chosen s.history s.time b.vendor b.limit))
unfolding payment_for
payment_plain b s q is = rw is refl

pub payment_not : (b : Bounds) (s : ProxyState) (q : Asked) → is_plain q ≡ false → payment_for b s q ≡ Err NotPlain
unfolding payment_for
payment_not b s q is = rw is refl

-- ---- a reading of the clock

-- A wallet was raised to a reading of the clock.
pub record RaisedBy {O : Type 0} (link : O → LinkView) (disk : O → DiskView) (x y : WalletView O) (reading : ℕ) : Type 0 where
  pub keeps : LinkKeeps (disk x.journal.disk) (disk y.journal.disk)
  pub goes : LinkGoes (link x.journal.disk) (link y.journal.disk)
  pub stands : (h : History) → WalletStands disk x h → WalletStands disk y h
  pub time' : y.book.time ≡ max x.book.time reading
  pub rest : link y.journal.disk ≡ with_readings (link y.journal.disk).readings (link x.journal.disk)
  pub read : AreRead OfLinks (reading ∷ []) (link x.journal.disk).readings (link y.journal.disk).readings

module _ {O : Type 0} (link : O → LinkView) (disk : O → DiskView) (all : TellsAside link (λ o. (disk o).aside)) (b : Bounds) where
  stood : (x : WalletView O) (h : History) (paid : ℕ) (up : LinkView) → WalletStands disk x h → paid ≤ b.budget → StandsAt disk b.budget (now x paid up) (state_at h (now x paid up))
  stood x h paid up st few = record { book = st; time' = refl; paid' = refl; up' = refl; within = few }

  module _ (x y : WalletView O) (reading : ℕ) (h : History) (paid : ℕ) (up : LinkView) (was : RaisedBy link disk x y reading) (st : WalletStands disk x h) (few : paid ≤ b.budget) where
    abbrev pub s : ProxyState
    s = state_at h (now x paid up)

    abbrev pub t : ProxyState
    t = state_at h (now y paid up)

    -- the state at the reading
    is_raised : t ≡ raised s reading
    is_raised = ap (λ (m : ℕ). record { history = h; time = m; paid = paid; up = up }) was.time'

    sessions : (link y.journal.disk).sessions ≡ (link x.journal.disk).sessions
    sessions = ap (λ (v : LinkView). v.sessions) was.rest

    -- a step after it, as a step from before
    raised_went : (z : Now O) (step : Did ProxyState) → Went link disk b.budget y.journal.disk t (step ∷ []) z → Went link disk b.budget x.journal.disk s (step ∷ []) z
    raised_went z step went =
        went_from link disk out_of (StandsAt disk b.budget) history_of (state_leaves link disk all b.budget) all x.journal.disk s t step [] z refl
        (went_on link disk out_of (StandsAt disk b.budget) history_of (state_leaves link disk all b.budget) all x.journal.disk t [] (step ∷ []) (now y paid up) z
        (went_quiet link disk out_of (StandsAt disk b.budget) history_of (state_leaves link disk all b.budget) all (now x paid up) (now y paid up) s t refl (stood x h paid up st few) was.keeps was.goes
        (stood y h paid up (was.stands h st) few) (no_more_still (link x.journal.disk) (link y.journal.disk) sessions)) went)

    -- a request was answered
    pub request_answered : (q : Asked) (after : After) (now_paid : ℕ) (now_up : LinkView) (r : Result (WalletView O × Turn) O)
        → Answers link disk b.budget (PaysBy b t q.target (payment_for b t q)) (DoubtsBy b t q.target (payment_for b t q)) after y.journal.disk t now_paid now_up r
        → AnswersRequest link disk b q after x.journal.disk s now_paid now_up r
    request_answered q after now_paid now_up (Ok r) answers =
        let step : Did ProxyState = answers.0 in
        let told : Told = answers.1 in
        let tells : PaysBy b (raised s reading) q.target (payment_for b (raised s reading) q) told step.after = subst (λ (u : ProxyState). PaysBy b u q.target (payment_for b u q) told step.after) is_raised answers.3 in (
          step,
          raised_went (now r.0 now_paid now_up) step answers.2,
          λ closes. item_answered (ProxyStep b) OfLinks (request q closes) after r.1 s step.after (link x.journal.disk) (link y.journal.disk) (link r.0.journal.disk) reading (told_reply t.time told) step.sent was.read was.rest
              (told, tells, ap (λ (u : ProxyState). told_reply u.time told) is_raised) answers.4,
        )
    request_answered q after now_paid now_up (Err d) answers =
        let reply : List ℕ = told_reply t.time (refusal DiskFault) in
        let readings : (link d).readings ≡ (link y.journal.disk).readings = said_readings reply answers.2 (link y.journal.disk) (link d) answers.5 in (
          answers.0,
          answers.1,
          answers.2,
          halts_quiet link disk all x.journal.disk y.journal.disk h answers.0 answers.1 answers.2 d was.keeps was.goes (no_more_still (link x.journal.disk) (link y.journal.disk) sessions)
              (state_leaves link disk all b.budget (now x paid up) s (stood x h paid up st few)) answers.3,
          record {
            reading = reading;
            read = subst (λ (o : Option (List ℕ)). AreRead OfLinks (reading ∷ []) (link x.journal.disk).readings o) (sym readings) was.read;
            doubts = subst (λ (u : ProxyState). DoubtsBy b u q.target (payment_for b u q) answers.0 answers.1 now_up) is_raised answers.4;
            sent = subst (λ (u : ProxyState). Sends (told_reply u.time (refusal DiskFault)) answers.2 (with_readings (link d).readings (link x.journal.disk)) (link d)) is_raised
                (subst (λ (v : LinkView). Sends reply answers.2 v (link d)) (was.rest ∙ ap (λ (o : Option (List ℕ)). with_readings o (link x.journal.disk)) (sym readings)) answers.5);
          },
        )

    -- a head was refused
    pub head_answered : (f : Refusal) (after : After) (z : WalletView O) (turn : Turn) → Answers link disk b.budget (λ told u. (told ≡ refusal f) × (u ≡ t)) (λ added e v. ⊥) after y.journal.disk t paid up (Ok (z, turn))
        → RefusesHead link disk b f after x.journal.disk s paid up (z, turn)
    head_answered f after z turn answers =
        let step : Did ProxyState = answers.0 in
        let told : Told = answers.1 in (
          step,
          raised_went (now z paid up) step answers.2,
          λ closes. item_answered (ProxyStep b) OfLinks (refused f closes) after turn s step.after (link x.journal.disk) (link y.journal.disk) (link z.journal.disk) reading (told_reply t.time told) step.sent was.read was.rest
              (told, (answers.3.0, answers.3.1 ∙ is_raised), ap (λ (u : ProxyState). told_reply u.time told) is_raised) answers.4,
        )

  -- ---- a turn

  -- the wallet as a reader of heads left it
  module _ (x y : WalletView O) (h : History) (paid : ℕ) (up : LinkView) (keeps : LinkKeeps (disk x.journal.disk) (disk y.journal.disk)) (goes : LinkGoes (link x.journal.disk) (link y.journal.disk)) (rests : WalletRests x y) (st : WalletStands disk x h) (few : paid ≤ b.budget) where
    abbrev pub before : ProxyState
    before = state_at h (now x paid up)

    same_state : state_at h (now y paid up) ≡ before
    same_state = ap (λ (k : BookView). record { history = h; time = k.time; paid = paid; up = up }) rests.book

    read_quiet : SentNoMore (link x.journal.disk) (link y.journal.disk) → Went link disk b.budget x.journal.disk before [] (now y paid up)
    read_quiet quiet =
        went_quiet link disk out_of (StandsAt disk b.budget) history_of (state_leaves link disk all b.budget) all (now x paid up) (now y paid up) before before refl (stood x h paid up st few) keeps goes
        (record { book = wallet_keeps disk x y h st keeps rests; time' = ap (λ (k : BookView). k.time) rests.book; paid' = refl; up' = refl; within = few }) quiet

    item_turns : (item : Bool → Item) (after : After) (old new : Held) (turn : Turn) (more : List ℕ) (closing : Bool) (z : WalletView O) (now_paid : ℕ) (now_up : LinkView) → TookItem (with_more old more).bytes old.given (item closing) after new
        → link y.journal.disk ≡ after_recv more (link x.journal.disk)
        → (step : Did ProxyState) × Went link disk b.budget y.journal.disk (state_at h (now y paid up)) (step ∷ []) (now z now_paid now_up) × ((closes : Bool) → AnsweredItem (ProxyStep b) OfLinks (item closes) after turn step (state_at h (now y paid up)) (link y.journal.disk) (link z.journal.disk))
        → TurnsProxy link disk b x.journal.disk before now_paid now_up old new (Ok (z, turn))
    item_turns item after old new turn more closing z now_paid now_up took came did =
        let step : Did ProxyState = did.0 in
        let from : Went link disk b.budget y.journal.disk before (step ∷ []) (now z now_paid now_up) = subst (λ (u : ProxyState). Went link disk b.budget y.journal.disk u (step ∷ []) (now z now_paid now_up)) same_state did.1 in
        let answered : AnsweredItem (ProxyStep b) OfLinks (item closing) after turn step before (link y.journal.disk) (link z.journal.disk) =
        subst (λ (u : ProxyState). AnsweredItem (ProxyStep b) OfLinks (item closing) after turn step u (link y.journal.disk) (link z.journal.disk)) same_state (did.2 closing) in (
          step ∷ [],
          went_on link disk out_of (StandsAt disk b.budget) history_of (state_leaves link disk all b.budget) all x.journal.disk before [] (step ∷ []) (now y paid up) (now z now_paid now_up)
              (read_quiet (no_more_heard (link x.journal.disk) (link y.journal.disk) more (ap (λ (v : LinkView). v.sessions) came))) from,
          item_turned (ProxyStep b) OfLinks turn step before old (link x.journal.disk) (link y.journal.disk) more (item closing) after new (link z.journal.disk) took came answered,
        )

    pub head_turns : (q : Request) (after : After) (old new : Held) (out : HeadOut) (now_paid : ℕ) (now_up : LinkView) (r : Result (WalletView O × Turn) O) → Took old (link x.journal.disk) out new (link y.journal.disk) → out ≡ outs.Head q after
        → AnswersRequest link disk b (asked_of q) after y.journal.disk (state_at h (now y paid up)) now_paid now_up r → TurnsProxy link disk b x.journal.disk before now_paid now_up old new r
    head_turns q after old new out now_paid now_up (Ok r) took is did =
        let leads = leads_so old (link x.journal.disk) out (outs.Head q after) new (link y.journal.disk) took is in
        item_turns (request (asked_of q)) after old new r.1 took.got leads.0.0 r.0 now_paid now_up leads.0.1 leads.1 did
    head_turns q after old new out now_paid now_up (Err d) took is did =
        let leads = leads_so old (link x.journal.disk) out (outs.Head q after) new (link y.journal.disk) took is in
        let in_doubt : RequestInDoubt b (asked_of q) before did.0 did.1 now_up did.2 (link y.journal.disk) (link d) = subst (λ (u : ProxyState). RequestInDoubt b (asked_of q) u did.0 did.1 now_up did.2 (link y.journal.disk) (link d)) same_state did.4 in (
          did.0,
          did.1,
          did.2,
          halts_quiet link disk all x.journal.disk y.journal.disk h did.0 did.1 did.2 d keeps goes (no_more_heard (link x.journal.disk) (link y.journal.disk) took.got (ap (λ (v : LinkView). v.sessions) leads.1))
              (state_leaves link disk all b.budget (now x paid up) before (stood x h paid up st few)) did.3,
          record {
            more = took.got;
            q = asked_of q;
            closes = leads.0.0;
            after = after;
            new = new;
            took = leads.0.1;
            in_doubt = subst (λ (v : LinkView). RequestInDoubt b (asked_of q) before did.0 did.1 now_up did.2 v (link d)) leads.1 in_doubt;
          },
        )

    pub refused_turns : (f : HeadRefusal) (after : After) (old new : Held) (out : HeadOut) (r : WalletView O × Turn) → Took old (link x.journal.disk) out new (link y.journal.disk) → out ≡ outs.Refused f after
        → RefusesHead link disk b (as_refusal f) after y.journal.disk (state_at h (now y paid up)) paid up r → TurnsProxy link disk b x.journal.disk before paid up old new (Ok r)
    refused_turns f after old new out r took is did =
        let leads = leads_so old (link x.journal.disk) out (outs.Refused f after) new (link y.journal.disk) took is in
        item_turns (refused (as_refusal f)) after old new r.1 took.got leads.0.0 r.0 paid up leads.0.1 leads.1 did

    pub end_turns : (old new : Held) (out : HeadOut) → Took old (link x.journal.disk) out new (link y.journal.disk) → out ≡ outs.End → TurnsProxy link disk b x.journal.disk before paid up old new (Ok (y, End))
    end_turns old new out took is =
        let leads = leads_so old (link x.journal.disk) out outs.End new (link y.journal.disk) took is in
        let same : SentNoMore (link x.journal.disk) (link y.journal.disk) =
        no_more_then (link x.journal.disk) (after_recv took.got (link x.journal.disk)) (link y.journal.disk)
        (no_more_heard (link x.journal.disk) (after_recv took.got (link x.journal.disk)) took.got refl)
        (no_more_finished (after_recv took.got (link x.journal.disk)) (link y.journal.disk) (ap (λ (v : LinkView). v.sessions) leads.2)) in
        ([], read_quiet same, record { none_done = refl; more = took.got; none = leads.1; then' = leads.2 })

    pub fault_turns : (old new : Held) (out : HeadOut) → Took old (link x.journal.disk) out new (link y.journal.disk) → out ≡ outs.Fault → TurnsProxy link disk b x.journal.disk before paid up old new (Ok (y, NotReceived))
    fault_turns old new out took is =
        let leads = leads_so old (link x.journal.disk) out outs.Fault new (link y.journal.disk) took is in
        let same : SentNoMore (link x.journal.disk) (link y.journal.disk) = no_more_heard (link x.journal.disk) (link y.journal.disk) took.got (ap (λ (v : LinkView). v.sessions) leads.2.same) in
        ([], read_quiet same, record { none_done = refl; more = took.got; none = leads.1; then' = leads.2 })
