-- What a wallet's commands send, and what they make of its book, is a schedule.
use Rattle.std.proofs.Common.{◌≡◌, ◌⊎◌, inl, inr, ℕ, ◌+◌, ◌<◌, ◌≤◌, ◌^◌, Bool, true, false, List, [], ◌∷◌, ◌++◌, length, Option, Some, None, Result, Ok, Err, refl, sym, ap, subst, ◌∙◌, arith, slice_get}
use Rattle.std.specs.Prelude.{max, if◌then◌else◌}
use Rattle.std.proofs.lemmas.Bool.{le-ltb}
use Rattle.mc_outside.specs.DiskView.{DiskView}
use Rattle.mc_outside.specs.LinkView.{LinkView, Session, next_taken, after_recv, after_send}
use Rattle.mc_requests.specs.declared.limits.TheConstants.Limits.{FULL, MOST_JOURNAL}
use Rattle.mc_requests.specs.declared.refusal.Refusal.{Refusal}
use Rattle.mc_requests.specs.declared.refusal.Refusal.TheVariants.{JournalFull}
use Rattle.mc_requests.specs.declared.refusal.Refusal.TheVariants as refusals
use Rattle.mc_records.specs.Entry.{Entry, Pend, moment_of, payload}
use Rattle.mc_requests.specs.Errands as errands
use Rattle.mc_requests.specs.Errands.{errand_text}
use Rattle.mc_records.specs.Sizes.{size, entry_size}
use Rattle.ledger_model.specs.Histories.{History, time}
use Rattle.ledger_model.specs.Lines.{Refuse, ◌>>=◌, refused_if}
use Rattle.ledger_model.specs.Answer.{fitted}
use Rattle.ledger_model.proofs.FollowLaws.{size_snoc}
use Rattle.command_status.specs.declared.status.Status.{Status}
use Rattle.command_status.specs.declared.status.Status.TheVariants as ends
use Rattle.millicent_http.specs.Received.{Received}
use Rattle.reply_reader.specs.Replies.{IsReply}
use Rattle.reply_reader.proofs.ReplyLemmas.{one_reply, reply_not_bad, reply_not_short}
use Rattle.wallet_model.specs.Follows.{IsWalletBook}
use Rattle.wallet_model.proofs.BookLaws.{book_prefix}
use Rattle.wallet_model.specs.Requests.{Pending, pending_of, pending_in, is_kept, oldest_kept}
use Rattle.wallet_model.specs.Asks.{Asking, get, buy, draw, Offered, chosen, paid_with, pend_entry, request_bytes}
use Rattle.wallet_model.specs.Settling.{check_of, settlement}
use Rattle.wallet_book.specs.Kept.{kept_in}
use Rattle.wallet_core.specs.OnDisk.{EncodesWallet}
use Rattle.wallet_core.specs.Answers.{MayCheck}
use Rattle.wallet_core.proofs.CallLaws.{checks_so}
use Rattle.wallet_commands.specs.Payments.{Learned, Settles, Stays, Breaks, StaysKept, LinkBreaks, Learns}
use Rattle.wallet_commands.specs.Paying.{ended_by, SettlesBy, EndsBy, UsesLink, PaysBy, RetriesBy}
use Rattle.wallet_commands.specs.Saying.{contents_said, IsSaid}
use Rattle.wallet_commands.proofs.KeptLemmas.{entered_is_kept, oldest_is_kept}
use Rattle.wallet_commands.proofs.PayLemmas.{asks}
use Rattle.world_model.specs.Worlds.{World, CanBeAsked, clamped, wallet_time, with_wallet, with_reply}
use Rattle.world_model.proofs.HouseSteps.{time_snoc}
use Rattle.world_model.proofs.Lists.{get_last}
use Rattle.world_laws.specs.Requests.{TellsKept, EndsSettled, IsReturn, UsedAs, IsAsked, PaidAs, PayingIsPlayed, TriedAs, TryingIsPlayed}

-- ---- room

passed : (e : Entry) (full : Bool) (n m : ℕ) → full ≡ false → (refused_if full (JournalFull n m) >>= λ u. Ok e) ≡ Ok e
passed e true n m is = absurd cc
passed e false n m is = refl

-- an entry that a journal has fits under the greatest limits
fits_full : (h : History) (e : Entry) → size (h ++ e ∷ []) ≤ MOST_JOURNAL → fitted h FULL e ≡ Ok e
fits_full h e most = passed e _ (size h) (length (payload e)) (le-ltb MOST_JOURNAL (size h + entry_size h e) (omega (arith, most, size_snoc h e)))

-- ---- times

clamped_is : (moment : ℕ) → moment < 2 ^ 35 → clamped moment ≡ moment
clamped_is moment lt = omega (arith, lt)

moment_is : (h : History) (moment : ℕ) → moment < 2 ^ 35 → wallet_time h moment ≡ max (time h) moment
moment_is h moment lt = ap (λ (m : ℕ). max (time h) m) (clamped_is moment lt)

at_with : (t ask : ℕ) (peer target : List ℕ) (o : Result Offered Refusal) (e : Entry) → paid_with t ask peer target o ≡ Ok e → moment_of e ≡ t
at_with t ask peer target (Ok o) e is = sym (ap moment_of (let same : Pend t ask peer target (Some o.holding.text) o.holding.secret ≡ e = cc in same))
at_with t ask peer target (Err f) e is = absurd (cc is)

pends_at : (h : History) (t : ℕ) (asking : Asking) (e : Entry) → pend_entry h t asking ≡ Ok e → moment_of e ≡ t
pends_at h t (get vendor target limit) e is = at_with t 0 vendor target (chosen h t vendor limit) e is
pends_at h t (buy broker vendor amount limit) e is = at_with t 1 broker (errand_text (errands.buy vendor amount)) (chosen h t broker limit) e is
pends_at h t (draw broker account key order amount) e is = sym (ap moment_of (let same : Pend t 2 broker (errand_text (errands.draw account order amount)) None key ≡ e = cc in same))

-- the time of a wallet that has just asked is that of its entry
asked_time : (h : History) (moment : ℕ) (asking : Asking) (e : Entry) → moment < 2 ^ 35 → pend_entry h (max (time h) moment) asking ≡ Ok e → max (time h) moment ≡ wallet_time (h ++ e ∷ []) moment
asked_time h moment asking e lt is = let at = pends_at h (max (time h) moment) asking e is in let next = time_snoc h e in let same = clamped_is moment lt in omega (arith, same, at, next)

-- ---- what is kept

record IsKept (h : History) (n : ℕ) (p : Pending) : Type 0 where
  kept : is_kept h n ≡ true
  request : pending_in h n ≡ Some p

kept_is : (h : History) (n : ℕ) (p : Pending) → kept_in h n ≡ Some p → IsKept h n p
kept_is h n p is = by (is_kept h n) refl is
  where
    by : (b : Bool) → is_kept h n ≡ b → (if b then pending_in h n else None) ≡ Some p → IsKept h n p
    by true kept is = record { kept = kept; request = is }
    by false kept is = absurd cc

-- ---- one link

returned : (w : World) (j : ℕ) (h : History) (moment n : ℕ) (p : Pending) (r : Received) (bytes : List ℕ) → slice_get w.wallets j ≡ Some h → IsKept h n p → IsReply bytes r → check_of p r ≡ None
    → IsReturn w j h moment n bytes (settlement h (wallet_time h moment) n p r)
returned w j h moment n p r bytes at kept reads checked most = (
  with_reply w bytes,
  inl refl,
  (
    with_wallet (with_reply w bytes) j (h ++ settlement h (wallet_time h moment) n p r ∷ []),
    inl (record {
      h = h;
      p = p;
      r = r;
      meets = record { bytes = bytes; reply = get_last w.replies bytes; reads = reads; wallet = at; kept = kept.kept; request = kept.request };
      checked = checked;
      room = fits_full h (settlement h (wallet_time h moment) n p r) most;
      after = refl;
    }),
    refl,
  ),
)

abbrev sessions_of : LinkView → Option (List Session)
sessions_of v = v.sessions

abbrev refused_with : Refusal → Status
refused_with f = ends.Refused f

-- it was added, or had no room
abbrev IsAddedOr : History → Pending → Received → Entry → Status → DiskView → Type 0
IsAddedOr h p r e status d = ((status ≡ ended_by p r) × EncodesWallet d (h ++ e ∷ [])) ⊎ ((f : Refusal) × (status ≡ ends.Refused f) × (fitted h FULL e ≡ Err (Refuse f)) × EncodesWallet d h)

-- What is left of a settlement, by how the command ended. What it said is no matter of the links.
left_settled : (h : History) (t n : ℕ) (p : Pending) (r : Received) (before after : LinkView) (status : Status) (d : DiskView) → SettlesBy h t n p r before status d after
    → EndsSettled h p r (settlement h t n p r) status d × (after.sessions ≡ before.sessions)
left_settled h t n p r before after status d by = go status by
  where
    last : (status : Status) → IsSaid (contents_said p r) before after × IsAddedOr h p r (settlement h t n p r) status d → IsAddedOr h p r (settlement h t n p r) status d × (after.sessions ≡ before.sessions)
    last status x = (x.1, ap sessions_of x.0)

    go : (status : Status) → SettlesBy h t n p r before status d after → EndsSettled h p r (settlement h t n p r) status d × (after.sessions ≡ before.sessions)
    go ends.LinkFault by = (by.0, ap sessions_of by.1.same)
    go ends.NoMemory by = (by.0, ap sessions_of by.1)
    go ends.DiskFault by = (by.0.leaves, ap sessions_of by.1)
    go ends.Done by = last ends.Done by
    go (ends.Served k) by = last (ends.Served k) by
    go (ends.Founded name) by = last (ends.Founded name) by
    go (ends.Proxied links paid) by = last (ends.Proxied links paid) by
    go (ends.Did line) by = last (ends.Did line) by
    go ends.BadWords by = last ends.BadWords by
    go ends.NotJournal by = last ends.NotJournal by
    go (ends.BadEntry place) by = last (ends.BadEntry place) by
    go (ends.BadChain place) by = last (ends.BadChain place) by
    go (ends.UnlawfulEntry place) by = last (ends.UnlawfulEntry place) by
    go (ends.Refused f) by = last (ends.Refused f) by
    go (ends.Stranger name id) by = last (ends.Stranger name id) by

-- a check that refuses a reply is told as such
tells_check : (f : Refusal) → MayCheck f → TellsKept (ends.Refused f)
tells_check refusals.BadReply may = tt
tells_check refusals.Unproved may = tt
tells_check f may = absurd may

-- a reply stands at the front of the bytes, and its check refuses it: so it is of each that stands there
none_passes : (p : Pending) (got : List ℕ) (r q : Received) (f : Refusal) → IsReply got r → check_of p r ≡ Some f → IsReply got q → check_of p q ≡ None → ⊥
none_passes p got r q f reads refused other passes =
    let same : check_of p q ≡ check_of p r = ap (check_of p) (one_reply got q r other reads) in
    never (sym passes ∙ same ∙ refused)
  where
    never : None ≡ Some f → ⊥
    never is = cc is

module _ (j : ℕ) (h : History) (moment n : ℕ) (p : Pending) (before middle after : LinkView) (status : Status) (d : DiskView) where
  -- what was learned on the link kept the request
  stays_kept : (f : Refusal) → StaysKept p f before middle → (status ≡ ends.Refused f) × EncodesWallet d h × (after ≡ middle) → UsedAs j h moment n p before after status d
  stays_kept f (inl none) by = inl (inl (record { same = ap sessions_of by.2 ∙ ap sessions_of none.1; told = inl (by.0 ∙ ap refused_with none.0) }), by.1)
  stays_kept f (inr (inl none)) by =
      inr (
        none.1.got,
        inr (ap sessions_of by.2 ∙ ap sessions_of none.1.ends.1),
        inl (record { none = λ r is passes. reply_not_short none.1.got r is none.1.ends.0; told = subst TellsKept (sym (by.0 ∙ ap refused_with none.0)) tt }, by.1),
      )
  stays_kept f (inr (inr (inl bad))) by =
      inr (
        bad.1.got,
        inl (ap sessions_of by.2 ∙ ap sessions_of bad.1.ends.1),
        inl (record { none = λ r is passes. reply_not_bad bad.1.got r is bad.1.ends.0; told = subst TellsKept (sym (by.0 ∙ ap refused_with bad.0)) tt }, by.1),
      )
  stays_kept f (inr (inr (inr (r, read, refused)))) by =
      inr (
        read.got,
        inl (ap sessions_of by.2 ∙ ap sessions_of read.ends.1),
        inl (record { none = λ q is passes. none_passes p read.got r q f read.ends.0 refused is passes; told = subst TellsKept (sym by.0) (tells_check f (checks_so p r f refused)) }, by.1),
      )

  -- the link failed
  breaks_kept : LinkBreaks p before middle → (status ≡ ends.LinkFault) × EncodesWallet d h × (after ≡ middle) → UsedAs j h moment n p before after status d
  breaks_kept (inl none) by = inl (inl (record { same = ap sessions_of by.2 ∙ ap sessions_of none.same; told = inr by.0 }), by.1)
  breaks_kept (inr (inl some)) by = inl (inr (record { n = some.n; part = some.part; sent = ap sessions_of by.2 ∙ ap sessions_of some.fault.same; told = by.0 }), by.1)
  breaks_kept (inr (inr read)) by =
      inr (
        read.got,
        inl (ap sessions_of by.2 ∙ ap sessions_of read.ends.1.same),
        inl (record { none = λ r is passes. reply_not_short read.got r is read.ends.0; told = subst TellsKept (sym by.0) tt }, by.1),
      )

  -- the reply settles it
  settles_kept : (t : ℕ) (r : Received) → t ≡ wallet_time h moment → IsKept h n p → Learns p (Settles r) before middle → SettlesBy h t n p r middle status d after → UsedAs j h moment n p before after status d
  settles_kept t r time' kept learns by =
      let got : List ℕ = learns.0.got in
      let left : EndsSettled h p r (settlement h (wallet_time h moment) n p r) status d × (after.sessions ≡ middle.sessions) =
      left_settled h (wallet_time h moment) n p r middle after status d (subst (λ (u : ℕ). SettlesBy h u n p r middle status d after) time' by) in
      inr (
        got,
        inl (left.1 ∙ ap sessions_of learns.0.ends.1),
        inr (record { r = r; reads = learns.0.ends.0; checked = learns.1; returns = λ w at. returned w j h moment n p r got at kept learns.0.ends.0 learns.1; ends' = left.0 }),
      )

used : {O : Type 0} (link : O → LinkView) (disk : O → DiskView) (j : ℕ) (h : History) (t moment n : ℕ) (p : Pending) (a : O) (clocked : LinkView) (status : Status) (b : O) → t ≡ wallet_time h moment → link a ≡ clocked → IsKept h n p
    → UsesLink link disk h t n p a status b → UsedAs j h moment n p clocked (link b) status (disk b)
used link disk j h t moment n p a clocked status b time' linked kept uses =
    subst (λ (v : LinkView). UsedAs j h moment n p v (link b) status (disk b)) linked (by uses.learned uses.learns uses.ends')
  where
    by : (learned : Learned) → Learns p learned (link a) uses.middle → EndsBy h t n p learned uses.middle status (disk b) (link b) → UsedAs j h moment n p (link a) (link b) status (disk b)
    by (Stays f) learns e = stays_kept j h moment n p (link a) uses.middle (link b) status (disk b) f learns e
    by Breaks learns e = breaks_kept j h moment n p (link a) uses.middle (link b) status (disk b) learns e
    by (Settles r) learns e = settles_kept j h moment n p (link a) uses.middle (link b) status (disk b) t r time' kept learns e

-- ---- get, buy, draw

-- a book that ends with a request is a wallet's without it
book_before : (h : History) (e : Entry) (p : Pending) → IsWalletBook (h ++ e ∷ []) → pending_of e ≡ Some p → IsWalletBook h
book_before [] e p book is = first e book is
  where
    first : (e : Entry) → IsWalletBook (e ∷ []) → pending_of e ≡ Some p → IsWalletBook []
    first (Pend m ask peer target scrip secret) book is = let no = book.0.allowed in absurd (cc no)
    first e book is = absurd (cc is)
book_before (x ∷ xs) e p book is = book_prefix x xs (e ∷ []) book

asked : (w : World) (j : ℕ) (h : History) (asking : Asking) (moment : ℕ) (e : Entry) (p : Pending) → slice_get w.wallets j ≡ Some h → CanBeAsked asking → moment < 2 ^ 35
    → pend_entry h (max (time h) moment) asking ≡ Ok e → pending_of e ≡ Some p → IsAsked w j h asking moment e p
asked w j h asking moment e p at can lt pends request =
    let now : pend_entry h (wallet_time h moment) asking ≡ Ok e = subst (λ (t : ℕ). pend_entry h t asking ≡ Ok e) (sym (moment_is h moment lt)) pends in
    record {
      pends = now;
      asks = λ most. record { h = h; e = e; p = p; wallet = at; can = can; pends = now; room = fits_full h e most; asked = request; after = refl };
    }

pub paying_is_played : {O : Type 0} (link : O → LinkView) (disk : O → DiskView) → PayingIsPlayed link disk
paying_is_played link disk w j h asking moment a clocked status b at can lt pays = by (pend_entry h (max (time h) moment) asking) refl pays
  where
    at_time : (todo : Result Entry Refusal) → pend_entry h (max (time h) moment) asking ≡ todo → pend_entry h (wallet_time h moment) asking ≡ todo
    at_time todo is = subst (λ (t : ℕ). pend_entry h t asking ≡ todo) (sym (moment_is h moment lt)) is

    by : (todo : Result Entry Refusal) → pend_entry h (max (time h) moment) asking ≡ todo → PaysBy link disk h (max (time h) moment) todo a clocked status b → PaidAs w j h asking moment clocked (link b) status (disk b)
    by (Err f) is (told, stays) = inl (inr (f, told, inl (at_time (Err f) is)), stays.link', stays.left)
    by (Ok e) is (inl (inl starved, stays)) = inl (inl starved.0, stays.link', stays.left)
    by (Ok e) is (inl (inr (f, told, full), stays)) = inl (inr (f, told, inr (e, at_time (Ok e) is, full)), stays.link', stays.left)
    by (Ok e) is (inr (inl x)) =
        let p = asks h (max (time h) moment) asking e is in
        inr (e, p.0, asked w j h asking moment e p.0 at can lt is p.1, inl (x.0, x.1.link', x.1.left.leaves))
    by (Ok e) is (inr (inr x)) =
        let kept = kept_is (h ++ e ∷ []) (length h) x.p (entered_is_kept h e x.p (book_before h e x.p x.stands.lawful x.request) x.request) in
        inr (
          e,
          x.p,
          asked w j h asking moment e x.p at can lt is x.request,
          inr (x.stands.stands.most, used link disk j (h ++ e ∷ []) (max (time h) moment) moment (length h) x.p x.entered clocked status b (asked_time h moment asking e lt is) x.link' kept x.since),
        )

-- ---- trying again

pub trying_is_played : {O : Type 0} (link : O → LinkView) (disk : O → DiskView) → TryingIsPlayed link disk
trying_is_played link disk w j h peer moment a clocked status b at lt tries = by (oldest_kept h peer) refl tries
  where
    by : (o : Option (ℕ × Pending)) → oldest_kept h peer ≡ o → RetriesBy link disk h (max (time h) moment) o a clocked status b → TriedAs w j h peer moment clocked (link b) status (disk b)
    by None is x = inl (is, x.0, x.1.link', x.1.left)
    by (Some k) is x =
        inr (
          k.0,
          k.1,
          is,
          record { h = h; number = k.0; p = k.1; wallet = at; oldest = is; after = refl },
          used link disk j h (max (time h) moment) moment k.0 k.1 x.kept clocked status b (sym (moment_is h moment lt)) x.link' (kept_is h k.0 k.1 (oldest_is_kept h peer k is)) x.since,
        )
