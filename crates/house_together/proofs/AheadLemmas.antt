-- An item that is answered in memory.
use Rattle.std.specs.Prelude.{Bool}
use Rattle.std.proofs.Common.{◌≡◌, inl, inr, ℕ, List, [], ◌∷◌, ◌++◌, Option, Some, None, Result, Ok, Err, refl, sym, ap, ap₂, ◌∙◌, subst}
use Rattle.mc_outside.specs.DiskView.{DiskView, LinkKeeps}
use Rattle.mc_outside.specs.LinkView.{LinkView}
use Rattle.mc_requests.specs.declared.limits.Limits.{Limits}
use Rattle.mc_requests.specs.declared.refusal.Refusal.{Refusal}
use Rattle.mc_requests.specs.Requests.{Asked}
use Rattle.ledger_model.specs.Histories.{History}
use Rattle.ledger_model.specs.Answer as answers
use Rattle.ledger_model.specs.Answer.{Answer, answer}
use Rattle.ledger_model.specs.Replies.{reply_of, refusal_of, head_refusal}
use Rattle.scrip_journal.specs.Batches.{InBatch, BatchRests, batch_keeps}
use Rattle.millicent_http.specs.declared.clock.Clock.TheVariants.{OfLinks}
use Rattle.millicent_http.specs.Items.{Item, request, refused}
use Rattle.millicent_http.specs.Courses.{AreRead, with_readings}
use Rattle.house_state.specs.Trade.{TradeView}
use Rattle.house_core.specs.BenchView.{BenchView}
use Rattle.house_core.specs.Bench.{IsHouse, Refines, house_time, state_of}
use Rattle.house_core.specs.Session.{State, Gives, Says, Step, said_reply, raised}
use Rattle.house_core.specs.Gathering.{IsAhead, ReachesAhead}
use Rattle.house_together.specs.Ahead.{AnsweredAhead, IsWritten, TakesAhead, taken_of}
use Rattle.mc_outside.specs.LinkView.{after_recv}
use Rattle.mc_requests.specs.declared.request.Request.{Request}
use Rattle.mc_requests.specs.Requests.{asked_of}
use Rattle.millicent_http.specs.declared.item.After.{After}
use Rattle.millicent_http.specs.declared.item.HeadRefusal.{HeadRefusal}
use Rattle.millicent_http.specs.declared.item.HeadOut.{HeadOut}
use Rattle.millicent_http.specs.declared.item.HeadOut.TheVariants as outs
use Rattle.millicent_http.specs.HeadRefusals.{as_refusal}
use Rattle.millicent_http.specs.Held.{Held}
use Rattle.millicent_http.specs.Takes.{Took, TookItem}
use Rattle.link_turns.proofs.TurnLemmas.{leads_so}

-- what is said to a request is its reply
says_gives : (s t : State) (q : Asked) (a : Answer) (said : Result ℕ Refusal) → Says a said s t → Gives s q a (said_reply t q said) t
says_gives s t q (answers.Take e) (Ok number) is = inl (ap₂ (λ (u : State) (n : ℕ). reply_of u.history n) is.1 is.0, is.1)
says_gives s t q (answers.Take e) (Err f) is = inr (ap₂ (λ (u : State) (g : Refusal). refusal_of u.history u.time q g) is.1 is.0, is.1)
says_gives s t q (answers.Again m) (Ok number) is = (ap₂ (λ (u : State) (n : ℕ). reply_of u.history n) is.1 is.0, is.1)
says_gives s t q (answers.Again m) (Err f) is = absurd is
says_gives s t q (answers.Refused g) (Ok number) is = absurd is
says_gives s t q (answers.Refused g) (Err f) is = (ap₂ (λ (u : State) (x : Refusal). refusal_of u.history u.time q x) is.1 is.0, is.1)

-- the clock was read, and a house is ahead as it was
pub ahead_kept : {O T : Type 0} (disk : O → DiskView) (trade : T → TradeView) (b : BenchView T) (x y : InBatch O) (h es : History) → LinkKeeps (disk x.disk) (disk y.disk) → BatchRests x y → IsAhead disk trade b x h es → IsAhead disk trade b y h es
ahead_kept disk trade b x y h es keeps rests ahead = record { house = ahead.house; batch' = batch_keeps disk x y h es ahead.batch' keeps rests }

-- a request was answered, and its reply was written
pub request_ahead : {O T : Type 0} (link : O → LinkView) (disk : O → DiskView) (trade : T → TradeView) (limits : Limits) (q : Asked) (v : LinkView) (mid : O) (s : State) (h : History) (at : ℕ) (old new : List ℕ) (b : BenchView T) (batch : InBatch O) (reading : ℕ) (said : Result ℕ Refusal) (made : List ℕ) (result : Option ℕ)
    → batch.disk ≡ mid → AreRead OfLinks (reading ∷ []) v.readings (link mid).readings → link mid ≡ with_readings (link mid).readings v
    → ReachesAhead disk trade (Says (answer (raised s reading).history (raised s reading).time limits q) said (raised s reading)) b batch h
    → ((k : History) → IsHouse trade b k → made ≡ said_reply (state_of k b) q said) → IsWritten at made old new result
    → AnsweredAhead link disk trade limits (λ item. (closes : Bool) × (item ≡ request q closes)) v s h at old b batch new result
request_ahead {O = O} link disk trade limits q v mid s h at old new b batch reading said made result same read rest came reply written =
    let t : State = state_of (h ++ came.gathered) b in
    let told : List ℕ = said_reply t q said in
    record {
      reading = reading;
      read = subst (λ (d : O). AreRead OfLinks (reading ∷ []) v.readings (link d).readings) (sym same) read;
      rest = subst (λ (d : O). link d ≡ with_readings (link d).readings v) (sym same) rest;
      reply = told;
      reaches = record {
        gathered = came.gathered;
        ahead = came.ahead;
        related = λ item is. subst (λ (i : Item). Step limits s reading i told t) (sym is.1) (says_gives (raised s reading) t q (answer (raised s reading).history (raised s reading).time limits q) said came.related);
      };
      written = subst (λ (l : List ℕ). IsWritten at l old new result) (reply (h ++ came.gathered) came.ahead.house) written;
    }

-- a head was refused, and its reply was written
pub refused_ahead : {O T : Type 0} (link : O → LinkView) (disk : O → DiskView) (trade : T → TradeView) (limits : Limits) (f : Refusal) (v : LinkView) (h es : History) (at : ℕ) (old new : List ℕ) (first b : BenchView T) (batch : InBatch O) (reading : ℕ) (made : List ℕ) (result : Option ℕ)
    → AreRead OfLinks (reading ∷ []) v.readings (link batch.disk).readings → link batch.disk ≡ with_readings (link batch.disk).readings v
    → IsAhead disk trade first batch h es → Refines trade (λ s t. t ≡ raised s reading) first b → made ≡ head_refusal (house_time b) f → IsWritten at made old new result
    → AnsweredAhead link disk trade limits (λ item. (closes : Bool) × (item ≡ refused f closes)) v (state_of (h ++ es) first) h at old b batch new result
refused_ahead {T = T} link disk trade limits f v h es at old new first b batch reading made result read rest ahead went reply written =
    let s : State = state_of (h ++ es) first in
    let came = went (h ++ es) ahead.house in
    let same : came.history ≡ h ++ es = ap (λ (t : State). t.history) came.related in
    let house : IsHouse trade b (h ++ es) = subst (λ (k : History). IsHouse trade b k) same came.house in
    let stays : state_of (h ++ es) b ≡ raised s reading = ap (λ (k : History). state_of k b) (sym same) ∙ came.related in
    let time : house_time b ≡ (raised s reading).time = ap (λ (t : State). t.time) came.related in
    let told : made ≡ head_refusal (raised s reading).time f = reply ∙ ap (λ (t : ℕ). head_refusal t f) time in
    record {
      reading = reading;
      read = read;
      rest = rest;
      reply = made;
      reaches = record {
        gathered = es;
        ahead = record { house = house; batch' = ahead.batch' };
        related = λ item is. subst (λ (i : Item). Step limits s reading i made (state_of (h ++ es) b)) (sym is.1) (told, stays);
      };
      written = written;
    }

-- ---- an item that was taken

-- from what was asked of any item of a kind, to the one that was taken
pub answered_item : {O T : Type 0} (link : O → LinkView) (disk : O → DiskView) (trade : T → TradeView) (limits : Limits) (Is : Item → Type 0) (item : Item) (v w : LinkView) (s : State) (h : History) (at : ℕ) (old new : List ℕ) (b : BenchView T) (batch : InBatch O) (result : Option ℕ)
    → v ≡ w → Is item → AnsweredAhead link disk trade limits Is v s h at old b batch new result → AnsweredAhead link disk trade limits (λ i. i ≡ item) w s h at old b batch new result
answered_item link disk trade limits Is item v w s h at old new b batch result same is a = record {
  reading = a.reading;
  read = subst (λ (x : LinkView). AreRead OfLinks (a.reading ∷ []) x.readings (link batch.disk).readings) same a.read;
  rest = subst (λ (x : LinkView). link batch.disk ≡ with_readings (link batch.disk).readings x) same a.rest;
  reply = a.reply;
  reaches = record {
    gathered = a.reaches.gathered;
    ahead = a.reaches.ahead;
    related = λ i one. a.reaches.related i (subst Is (sym one) is);
  };
  written = a.written;
}

taken : {O T : Type 0} (link : O → LinkView) (disk : O → DiskView) (trade : T → TradeView) (limits : Limits) (after : After) (v : LinkView) (s : State) (h es : History) (at : ℕ) (old new : List ℕ) (held now : Held) (b : BenchView T) (batch : InBatch O) (result : Option ℕ) (more : List ℕ) (item : Item)
    → TookItem (held.bytes ++ more) held.given item after now → AnsweredAhead link disk trade limits (λ i. i ≡ item) (after_recv more v) s h at old b batch new result
    → TakesAhead link disk trade limits v s h es at old held b batch new now (taken_of result after)
taken link disk trade limits after v s h es at old new held now b batch (Some to) more item took answered = (more, item, took, answered)
taken link disk trade limits after v s h es at old new held now b batch None more item took answered = (more, item, took, answered)

-- a request was taken
pub head_ahead : {O T : Type 0} (link : O → LinkView) (disk : O → DiskView) (trade : T → TradeView) (limits : Limits) (q : Request) (after : After) (v w : LinkView) (s : State) (h es : History) (at : ℕ) (old new : List ℕ) (held now : Held) (b : BenchView T) (batch : InBatch O) (result : Option ℕ) (out : HeadOut)
    → Took held v out now w → out ≡ outs.Head q after → AnsweredAhead link disk trade limits (λ item. (closes : Bool) × (item ≡ request (asked_of q) closes)) w s h at old b batch new result
    → TakesAhead link disk trade limits v s h es at old held b batch new now (taken_of result after)
head_ahead {O = O} {T = T} link disk trade limits q after v w s h es at old new held now b batch result out took is answered =
    let leads = leads_so held v out (outs.Head q after) now w took is in
    let item : Item = request (asked_of q) leads.0.0 in
    taken link disk trade limits after v s h es at old new held now b batch result took.got item leads.0.1
    (answered_item link disk trade limits _ item w (after_recv took.got v) s h at old new b batch result leads.1 (leads.0.0, refl) answered)

pub refused_taken : {O T : Type 0} (link : O → LinkView) (disk : O → DiskView) (trade : T → TradeView) (limits : Limits) (f : HeadRefusal) (after : After) (v w : LinkView) (s : State) (h es : History) (at : ℕ) (old new : List ℕ) (held now : Held) (b : BenchView T) (batch : InBatch O) (result : Option ℕ) (out : HeadOut)
    → Took held v out now w → out ≡ outs.Refused f after → AnsweredAhead link disk trade limits (λ item. (closes : Bool) × (item ≡ refused (as_refusal f) closes)) w s h at old b batch new result
    → TakesAhead link disk trade limits v s h es at old held b batch new now (taken_of result after)
refused_taken {O = O} {T = T} link disk trade limits f after v w s h es at old new held now b batch result out took is answered =
    let leads = leads_so held v out (outs.Refused f after) now w took is in
    let item : Item = refused (as_refusal f) leads.0.0 in
    taken link disk trade limits after v s h es at old new held now b batch result took.got item leads.0.1
    (answered_item link disk trade limits _ item w (after_recv took.got v) s h at old new b batch result leads.1 (leads.0.0, refl) answered)
