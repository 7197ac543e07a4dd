-- One repeat of a kept request settles it, where the first reply of its entry is read back and passes the check.
use Rattle.std.proofs.Common.{◌≡◌, ◌⊎◌, inl, inr, ℕ, zero, suc, ◌+◌, ◌<◌, ◌≤◌, Bool, true, false, List, [], ◌∷◌, ◌++◌, length, take, Option, Some, None, Result, Ok, Err, refl, sym, ap, subst, ◌∙◌, arith, append-nil, slice_get, ltb}
use Rattle.std.specs.Prelude.{max, slice_set}
use Rattle.hex.specs.Hex.{encode_lower}
use Rattle.mc_requests.specs.declared.limits.Limits.{Limits}
use Rattle.mc_requests.specs.declared.refusal.Refusal.{Refusal}
use Rattle.mc_requests.specs.declared.refusal.Refusal.TheVariants.{JournalFull}
use Rattle.mc_records.specs.Entry.{Entry, Site, Accept, Draw, Pend, payload, moment_of}
use Rattle.mc_requests.specs.Requests.{Asked}
use Rattle.mc_records.specs.Sizes.{size, tail}
use Rattle.ledger_model.specs.Histories.{History, time}
use Rattle.ledger_model.specs.Houses.{keeping}
use Rattle.ledger_model.specs.Lines.{Stop, Refuse, ◌>>=◌, refused_if}
use Rattle.ledger_model.specs.Answer as answers
use Rattle.ledger_model.specs.Answer.{Answer, answer, fitted}
use Rattle.ledger_model.specs.Lawful.{unbounded, draw_request, IsAllowed, IsLawful}
use Rattle.ledger_model.specs.Replies.{reply_of}
use Rattle.ledger_model.proofs.TableLaws.{TakenBy, by_scrip, by_draw, taken_by, through}
use Rattle.ledger_model.proofs.ReplyLaws.{again}
use Rattle.millicent_http.specs.Items.{Item, request, Heads}
use Rattle.millicent_http.specs.Steps.{Did, sent_of, state_after}
use Rattle.millicent_http.specs.declared.reader.TheConstants.{MAX_ITEMS}
use Rattle.millicent_http.proofs.ItemLemmas.{items_unique}
use Rattle.house_core.specs.Session.{State, raised}
use Rattle.millicent_http.specs.Received.{Received}
use Rattle.reply_reader.specs.Replies.{IsReply}
use Rattle.reply_reader.proofs.ReplyLemmas.{one_reply}
use Rattle.wallet_model.specs.Requests.{Pending, pending_of, pending_in, is_kept, oldest_kept}
use Rattle.wallet_model.specs.Follows.{is_wallet, asks_rightly, wallet_allows, WalletFollows, IsWalletBook}
use Rattle.wallet_model.specs.Asks.{asked_by, request_bytes, signature_of}
use Rattle.wallet_model.specs.Settling.{check_of, settlement}
use Rattle.wallet_model.proofs.BookLaws.{walked, all_of_book}
use Rattle.wallet_model.proofs.KeptLaws.{both_right}
use Rattle.wallet_requests.proofs.SentLemmas.{request_is_item, history_asks}
use Rattle.world_model.specs.Worlds.{World, Message, Again, Deliver, Return, clamped, wallet_time, with_wallet, with_message, Meets, Returns, Happens}
use Rattle.world_model.specs.Signings.{Signing}
use Rattle.world_model.specs.Deliveries.{reply_to, did_all}
use Rattle.world_model.specs.Agreement.{IsSetup, IsHeldBy, MayRepeat, IsEntered, IsDone, RepliesSettle, RepeatSettles}
use Rattle.world_model.proofs.Lists.{got_is, get_last, set_here, two_back}
use Rattle.world_model.proofs.Tied.{HouseTied, Tied}
use Rattle.world_model.proofs.Oldest.{oldest_is}
use Rattle.world_model.proofs.Steps.{wallet_now}
use Rattle.world_model.proofs.Accepted.{may_at, genuine_ok}
use Rattle.world_model.proofs.DoneLaws.{house_lawful}

-- ---- an entry in a history

pub record PartedAt (h : History) (at : ℕ) (e : Entry) : Type 0 where
  pub more : History
  pub is : h ≡ take at h ++ e ∷ more
  pub long : length (take at h) ≡ at

pub parted_at : (h : History) (at : ℕ) (e : Entry) → slice_get h at ≡ Some e → PartedAt h at e
parted_at [] at e is = absurd cc
parted_at (x ∷ xs) zero e is = record { more = xs; is = ap (λ (y : Entry). y ∷ xs) (got_is x e (Some x) refl is); long = refl }
parted_at (x ∷ xs) (suc at) e is =
    let r = parted_at xs at e is in
    record { more = r.more; is = ap (λ (es : History). x ∷ es) r.is; long = ap (λ (n : ℕ). suc n) r.long }

pub in_time : (h : History) (at : ℕ) (e : Entry) → slice_get h at ≡ Some e → moment_of e ≤ time h
in_time [] at e is = absurd cc
in_time (x ∷ xs) zero e is = let same : moment_of x ≡ moment_of e = ap moment_of (got_is x e (Some x) refl is) in omega (arith, same)
in_time (x ∷ xs) (suc at) e is = let ih = in_time xs at e is in omega (arith, ih)

keeping_front : (h : History) (n : ℕ) → (take n h ≡ [] → ⊥) → keeping (take n h) ≡ keeping h
keeping_front [] zero some = refl
keeping_front [] (suc n) some = refl
keeping_front (x ∷ xs) zero some = absurd (some refl)
keeping_front (Site m kind name house ∷ xs) (suc n) some = refl
keeping_front (x ∷ xs) (suc n) some = refl

pub nothing_taken : (t : ℕ) (limits : Limits) (q : Asked) (e : Entry) → answer [] t limits q ≡ answers.Take e → ⊥
nothing_taken t limits q e takes = go (taken_by [] t limits q e takes)
  where
    go : TakenBy [] t limits q e → ⊥
    go (by_scrip none ran) = let x = through [] t limits q e ran in (genuine_ok [] x.scrip x.secret x.is_genuine).some refl
    go (by_draw o asks ran) = absurd cc

-- ---- a draw pays with nothing

abbrev pub NoneWhereDraw : ℕ → Option (List ℕ) → Type 0
NoneWhereDraw (suc (suc ask)) scrip = scrip ≡ None
NoneWhereDraw _ scrip = Unit {0}

asks_none : (h : History) (ask : ℕ) (peer target : List ℕ) (scrip : Option (List ℕ)) → asks_rightly h ask peer target scrip ≡ true → NoneWhereDraw ask scrip
asks_none h zero peer target scrip rightly = tt
asks_none h (suc zero) peer target scrip rightly = tt
asks_none h (suc (suc ask)) peer target None rightly = refl
asks_none h (suc (suc ask)) peer target (Some text) rightly = absurd cc

pending_more : (h : History) (e : Entry) (n : ℕ) → (pending_in (h ++ e ∷ []) n ≡ pending_in h n) ⊎ (pending_in (h ++ e ∷ []) n ≡ pending_of e)
pending_more [] e zero = inr refl
pending_more [] e (suc n) = inl refl
pending_more (x ∷ xs) e zero = inl refl
pending_more (x ∷ xs) e (suc n) = pending_more xs e n

HaveNone : History → Type 0
HaveNone h = (n : ℕ) (p : Pending) → pending_in h n ≡ Some p → NoneWhereDraw p.ask p.scrip

entry_none : (h : History) (e : Entry) (p : Pending) → wallet_allows h e ≡ true → pending_of e ≡ Some p → NoneWhereDraw p.ask p.scrip
entry_none h (Pend m ask peer target scrip secret) p allowed is =
    let asked : Pending = record { ask = ask; peer = peer; target = target; scrip = scrip; secret = secret } in
    let same : asked ≡ p = cc in
    subst (λ (q : Pending). NoneWhereDraw q.ask q.scrip) same (asks_none h ask peer target scrip (both_right (is_wallet h) _ allowed))
entry_none h e p allowed is = absurd cc

none_step : (h : History) (e : Entry) → HaveNone h → WalletFollows h e → HaveNone (h ++ e ∷ [])
unfolding HaveNone
none_step h e before follows n p is = elim (pending_more h e n) [
  | inl old ↦ before n p (sym old ∙ is)
  | inr new ↦ entry_none h e p follows.allowed (sym new ∙ is)
]

none_first : HaveNone []
unfolding HaveNone
none_first n p is = absurd cc

pub draws_pay_none : (h : History) (n : ℕ) (p : Pending) → IsWalletBook h → pending_in h n ≡ Some p → NoneWhereDraw p.ask p.scrip
unfolding HaveNone
draws_pay_none h n p book is = walked HaveNone none_step [] h none_first (all_of_book h book) n p is

-- ---- the answer

asked_with : List ℕ → Option (List ℕ) → List ℕ → Asked
asked_with target scrip sign = record { target = target; scrip = scrip; sign = Some (encode_lower sign) }

-- the entry that holds a request was taken for it
taken_for : (limits : Limits) (before : History) (ask : ℕ) (p : Pending) (e : Entry) → NoneWhereDraw ask p.scrip → IsAllowed limits before e → IsHeldBy before ask p e
    → answer before (moment_of e) (unbounded limits) (asked_by p) ≡ answers.Take e
unfolding asked_with
taken_for limits before zero p (Accept m text target sign price change deed) none allowed holds =
    ap (λ (q : Asked). answer before m (unbounded limits) q) holds.0 ∙ allowed
taken_for limits before (suc zero) p (Accept m text target sign price change deed) none allowed holds =
    ap (λ (q : Asked). answer before m (unbounded limits) q) holds.0 ∙ allowed
taken_for limits before (suc (suc ask)) p (Draw m target sign drawn) none allowed holds =
    let same : asked_by p ≡ draw_request target sign =
    ap (λ (o : Option (List ℕ)). asked_with p.target o (signature_of p)) none ∙ ap (λ (t : List ℕ). asked_with t None (signature_of p)) holds.0 ∙ ap (asked_with target None) holds.1 in
    ap (λ (q : Asked). answer before m (unbounded limits) q) same ∙ allowed
taken_for limits before zero p e none allowed holds = absurd holds
taken_for limits before (suc zero) p e none allowed holds = absurd holds
taken_for limits before (suc (suc ask)) p e none allowed holds = absurd holds

pub answers_again : (limits : Limits) (h : History) (at : ℕ) (e : Entry) (p : Pending) (later : ℕ) → IsLawful limits h → slice_get h at ≡ Some e → NoneWhereDraw p.ask p.scrip → IsHeldBy (take at h) p.ask p e
    → moment_of e ≤ later → later < moment_of e + keeping h → answer h later limits (asked_by p) ≡ answers.Again at
answers_again limits h at e p later lawful is none holds le lt =
    let may = may_at limits h at e lawful is in
    let takes = taken_for limits (take at h) p.ask p e none may.allowed holds in
    let some : take at h ≡ [] → ⊥ = λ empty. nothing_taken (moment_of e) (unbounded limits) (asked_by p) e (ap (λ (g : History). answer g (moment_of e) (unbounded limits) (asked_by p)) (sym empty) ∙ takes) in
    let keeps = keeping_front h at some in
    let parts = parted_at h at e is in
    let there = again (take at h) parts.more (moment_of e) later (unbounded limits) limits (asked_by p) e takes le (omega (arith, keeps, lt)) in
    ap (λ (g : History). answer g later limits (asked_by p)) parts.is ∙ there ∙ ap number parts.long
  where
    number : ℕ → Answer
    number n = answers.Again n

-- ---- room

fitted_cases : (h : History) (limits : Limits) (e : Entry) → (fitted h limits e ≡ Ok e) ⊎ ((f : Refusal) × (fitted h limits e ≡ Err (Refuse f)))
fitted_cases h limits e = go (ltb limits.journal (size h + (length (payload e) + length (tail h e) + 5)))
  where
    is_ok : Entry → Result Entry Stop
    is_ok y = Ok y

    go : (b : Bool) → ((refused_if b (JournalFull (size h) (length (payload e))) >>= λ _. is_ok e) ≡ Ok e) ⊎ ((f : Refusal) × ((refused_if b (JournalFull (size h) (length (payload e))) >>= λ _. is_ok e) ≡ Err (Refuse f)))
    go true = inr (JournalFull (size h) (length (payload e)), refl)
    go false = inl refl

-- ---- the three events

module _ (limits : Limits) (v : World) (j i n at : ℕ) (h : History) (s : State) (p : Pending) (e : Entry) (may : MayRepeat v j i n h s p e at) (reading later : ℕ) where
  message : Message
  message = record { bytes = request_bytes p; sender = Some j }

  sent : World
  sent = with_message v (request_bytes p) (Some j)

  again_is : (x : World) → Happens limits v (Again j p.peer) x → x ≡ sent
  unfolding sent
  again_is x happens = elim happens [
    | inl a ↦
        let same : a.h ≡ h = got_is a.h h (slice_get v.wallets j) a.wallet may.wallet in
        let found : oldest_kept h p.peer ≡ Some (a.number, a.p) = ap (λ (g : History). oldest_kept g p.peer) (sym same) ∙ a.oldest in
        let one : (a.number, a.p) ≡ (n, p) = got_is (a.number, a.p) (n, p) (oldest_kept h p.peer) found may.oldest in
        a.after ∙ ap (λ (q : ℕ × Pending). with_message v (request_bytes q.1) (Some j)) one
    | inr none ↦ absurd (none.none sent (record { h = h; number = n; p = p; wallet = may.wallet; oldest = may.oldest; after = refl }))
  ]

  again_goes : Happens limits v (Again j p.peer) sent
  unfolding sent
  again_goes = inl (record { h = h; number = n; p = p; wallet = may.wallet; oldest = may.oldest; after = refl })

  delivered_by : State → List Item → World
  delivered_by t items = record sent { houses = slice_set sent.houses i (state_after t (did_all limits t (clamped reading) items)); replies = sent.replies ++ sent_of (did_all limits t (clamped reading) items) ∷ [] }

  asked_item : List Item
  asked_item = request (asked_by p) true ∷ []

  deliver_is : (x : World) → Heads (request_bytes p) asked_item → Happens limits sent (Deliver (length v.messages) i reading) x → x ≡ delivered_by s asked_item
  unfolding sent delivered_by message
  deliver_is x heads happens = elim happens [
    | inl a ↦
        let it : a.message ≡ message = got_is a.message message (slice_get sent.messages (length v.messages)) a.sent (get_last v.messages message) in
        let house : a.s ≡ s = got_is a.s s (slice_get v.houses i) a.house may.house in
        let items : a.items ≡ asked_item = items_unique MAX_ITEMS (request_bytes p) a.items asked_item (subst (λ (m : Message). Heads m.bytes a.items) it a.heads) heads in
        a.after ∙ ap (λ (t : State). delivered_by t a.items) house ∙ ap (delivered_by s) items
    | inr none ↦ absurd (none.none (delivered_by s asked_item) (record {
      message = message;
      s = s;
      items = asked_item;
      sent = get_last v.messages message;
      house = may.house;
      heads = heads;
      after = refl;
    }))
  ]

  deliver_goes : Heads (request_bytes p) asked_item → Happens limits sent (Deliver (length v.messages) i reading) (delivered_by s asked_item)
  unfolding sent delivered_by message
  deliver_goes heads = inl (record {
    message = message;
    s = s;
    items = asked_item;
    sent = get_last v.messages message;
    house = may.house;
    heads = heads;
    after = refl;
  })

  replied : List ℕ
  replied = reply_of s.history at ++ []

  delivered_reply : answer s.history (raised s (clamped reading)).time limits (asked_by p) ≡ answers.Again at → slice_get (delivered_by s asked_item).replies (length v.replies) ≡ Some replied
  unfolding sent delivered_by asked_item replied
  delivered_reply again_at =
      let u : State = raised s (clamped reading) in
      let all : List (Did State) = did_all limits s (clamped reading) (request (asked_by p) true ∷ []) in
      let told : sent_of all ≡ reply_of s.history at ++ [] = ap (λ (a : Answer). reply_to u (asked_by p) a ++ []) again_at in
      get_last v.replies (sent_of all) ∙ ap some told
    where
      some : List ℕ → Option (List ℕ)
      some b = Some b

  delivered_wallets : (delivered_by s asked_item).wallets ≡ v.wallets
  unfolding sent delivered_by
  delivered_wallets = refl

  heads_as : Heads (request_bytes p) (request (asked_by p) true ∷ []) → Heads (request_bytes p) asked_item
  unfolding asked_item
  heads_as h = h

  reads_as : (r : Received) → IsReply (reply_of s.history at ++ []) r → IsReply replied r
  unfolding replied
  reads_as r reads = reads

-- ---- the return

-- the settlement of a request by the reply that is there, which a Return enters where it fits
module _ (limits : Limits) (v : World) (k j n later : ℕ) (h : History) (p : Pending) (r : Received) (bytes : List ℕ) (wallet : slice_get v.wallets j ≡ Some h) (reply : slice_get v.replies k ≡ Some bytes) (reads : IsReply bytes r) (kept : is_kept h n ≡ true) (asked : pending_in h n ≡ Some p) (checked : check_of p r ≡ None) where
  made : Entry
  made = settlement h (wallet_time h later) n p r

  entered_world : World
  entered_world = with_wallet v j (h ++ made ∷ [])

  meets : Meets v k j n h p r
  meets = record { bytes = bytes; reply = reply; reads = reads; wallet = wallet; kept = kept; request = asked }

  does_return : fitted h limits made ≡ Ok made → Returns limits v k j n later entered_world
  unfolding made entered_world
  does_return room = record { h = h; p = p; r = r; meets = meets; checked = checked; room = room; after = refl }

  -- what an event that returns it finds is this
  record Found (x : World) : Type 0 where
    room : fitted h limits made ≡ Ok made
    after : x ≡ entered_world

  found : (x : World) → Returns limits v k j n later x → Found x
  unfolding made entered_world
  found x a =
      let same : a.h ≡ h = got_is a.h h (slice_get v.wallets j) a.meets.wallet wallet in
      let whose : a.p ≡ p = got_is a.p p (pending_in h n) (ap (λ (g : History). pending_in g n) (sym same) ∙ a.meets.request) asked in
      let text : a.meets.bytes ≡ bytes = got_is a.meets.bytes bytes (slice_get v.replies k) a.meets.reply reply in
      let what : a.r ≡ r = one_reply bytes a.r r (subst (λ (b : List ℕ). IsReply b a.r) text a.meets.reads) reads in
      let after_of : History → Pending → Received → World = λ (g : History) (q : Pending) (y : Received). with_wallet v j (g ++ settlement g (wallet_time g later) n q y ∷ []) in
      record {
        room = subst (λ (y : Received). fitted h limits (settlement h (wallet_time h later) n p y) ≡ Ok (settlement h (wallet_time h later) n p y)) what
            (subst (λ (q : Pending). fitted h limits (settlement h (wallet_time h later) n q a.r) ≡ Ok (settlement h (wallet_time h later) n q a.r)) whose
            (subst (λ (g : History). fitted g limits (settlement g (wallet_time g later) n a.p a.r) ≡ Ok (settlement g (wallet_time g later) n a.p a.r)) same a.room));
        after = a.after ∙ ap (λ (g : History). after_of g a.p a.r) same ∙ ap (λ (q : Pending). after_of h q a.r) whose ∙ ap (after_of h p) what;
      }

  return_is : (x : World) → Happens limits v (Return k j n later) x → IsEntered limits x j h (settlement h (wallet_time h later) n p r)
  unfolding made entered_world
  return_is x happens = elim happens [
    | inl a ↦ inl (ap (λ (u : World). slice_get u.wallets j) (found x a).after ∙ set_here v.wallets j h (h ++ made ∷ []) wallet)
    | inr none ↦ elim (fitted_cases h limits made) [
      | inl room ↦ absurd (none.none entered_world (does_return room))
      | inr full ↦ inr (ap (λ (u : World). slice_get u.wallets j) none.same ∙ wallet, full)
    ]
  ]

  return_goes : (x : World) × Happens limits v (Return k j n later) x
  return_goes = elim (fitted_cases h limits made) [
    | inl room ↦ (entered_world, inl (does_return room))
    | inr full ↦ (v, inr (record { none = λ x a. let both : Err (Refuse full.0) ≡ Ok made = sym full.1 ∙ (found x a).room in absurd (cc both); same = refl }))
  ]

-- ---- the law

pub repeats : (limits : Limits) (w : World) (Made : Signing → Type 0) (v : World) → IsSetup limits w → Tied limits w Made v → RepliesSettle v → RepeatSettles limits v
repeats limits w Made v setup tied settles j i n at h s p e may reading later lt =
    let now = wallet_now limits w Made v j h setup tied may.wallet in
    let old = oldest_is h p.peer n p may.oldest in
    let lawful = house_lawful limits w Made v i s setup tied may.house in
    let b = two_back (HouseTied limits v.messages) w.houses v.houses i s tied.houses may.house in
    let passed = b.related.in_time in
    let early = in_time s.history at e may.entry in
    let still = may.in_time in
    let settle = settles j i n at h s p e may in
    let heads : Heads (request_bytes p) (request (asked_by p) true ∷ []) =
    subst (λ (bytes : List ℕ). Heads bytes (request (asked_by p) true ∷ [])) (append-nil (request_bytes p)) (request_is_item p [] (history_asks h n p now.fits old.request)) in
    let again_at = answers_again limits s.history at e p (max s.time (clamped reading)) lawful may.entry (draws_pay_none h n p now.lawful old.request) may.holds (omega (arith, passed, early)) (omega (arith, still, lt)) in
    let asked_world = sent limits v j i n at h s p e may reading later in
    let then_world = delivered_by limits v j i n at h s p e may reading later s (asked_item limits v j i n at h s p e may reading later) in
    let item = heads_as limits v j i n at h s p e may reading later heads in
    let there : slice_get then_world.wallets j ≡ Some h = ap (λ (hs : List History). slice_get hs j) (delivered_wallets limits v j i n at h s p e may reading later) ∙ may.wallet in
    let reply = delivered_reply limits v j i n at h s p e may reading later again_at in
    let reads = reads_as limits v j i n at h s p e may reading later settle.r settle.reads in
    let told : List ℕ = replied limits v j i n at h s p e may reading later in
    let last = return_goes limits then_world (length v.replies) j n later h p settle.r told there reply reads old.kept old.request settle.checked in (
      (
        last.0,
        (asked_world, again_goes limits v j i n at h s p e may reading later, (then_world, deliver_goes limits v j i n at h s p e may reading later item, (last.0, last.1, refl))),
      ),
      λ x plays.
          let first = again_is limits v j i n at h s p e may reading later plays.0 plays.1 in
          let second = deliver_is limits v j i n at h s p e may reading later plays.2.0 item
          (subst (λ (y : World). Happens limits y (Deliver (length v.messages) i reading) plays.2.0) first plays.2.1) in
          let third : Happens limits then_world (Return (length v.replies) j n later) plays.2.2.0 = subst (λ (y : World). Happens limits y (Return (length v.replies) j n later) plays.2.2.0) second plays.2.2.1 in
          let done = return_is limits then_world (length v.replies) j n later h p settle.r told there reply reads old.kept old.request settle.checked plays.2.2.0 third in
          subst (λ (y : World). IsDone limits y j n later h s at p) (sym plays.2.2.2) (settle, done),
    )
