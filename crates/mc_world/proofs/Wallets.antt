-- Opening a wallet by its history, entry by entry, and what its calls come to.
use Rattle.std.proofs.Common.{◌≡◌, ℕ, ◌+◌, ◌-◌, ◌^◌, ◌≤◌, Bool, true, false, List, [], ◌∷◌, ◌++◌, length, take, Option, Some, None, Result, Ok, Err, inl, inr, refl, sym, ap, subst, ◌∙◌, arith, slice_get, is_some}
use Rattle.std.specs.Prelude.{min, max, nat_le, IsTrue, ◌↔◌, if◌then◌else◌}
use Rattle.std.proofs.lemmas.Option.{same_Some}
use Rattle.std.proofs.lemmas.Bool.{eqb-true, leb-true, le-leb}
use Rattle.mc_requests.specs.declared.limits.Limits.{Limits}
use Rattle.mc_requests.specs.declared.limits.TheConstants.Limits.{MOST_JOURNAL}
use Rattle.mc_records.specs.Chains.{TellsChain}
use Rattle.mc_requests.specs.declared.refusal.Refusal.{Refusal}
use Rattle.mc_records.specs.Entry.{Entry, Site, moment_of}
use Rattle.mc_records.specs.Sizes.{size, entry_size}
use Rattle.ledger_model.specs.Histories.{History, time}
use Rattle.ledger_model.proofs.FollowLaws.{size_snoc}
use Rattle.wallet_model.specs.Follows.{wallet_allows, WalletFollows, IsWalletBook}
use Rattle.wallet_model.proofs.BookLaws.{all_of_book}
use Rattle.wallet_book.specs.Book.{BookView, WalletRepresents, FoundsWallet, Learns}
use Rattle.wallet_book.proofs.BookLaws.{time_more}
use Rattle.wallet_book.specs.Kept.{kept_in, Retries}
use Rattle.wallet_core.specs.First.{tells_chain}
use Rattle.millicent_http.specs.Received.{Received}
use Rattle.reply_reader.specs.Replies.{IsReply, IsBad, Needs}
use Rattle.reply_reader.proofs.ReplyLemmas.{one_reply, reply_not_bad, reply_not_short}
use Rattle.ledger_model.specs.Answer.{fitted}
use Rattle.wallet_model.specs.Requests.{Pending, pending_of, pending_in, is_kept, oldest_kept}
use Rattle.mc_base.specs.declared.amount.TheConstants.Amount.{MOST}
use Rattle.scrip_form.specs.Texts.{IsName}
use Rattle.wallet_model.specs.Asks.{Asking, draw, pend_entry, request_bytes}
use Rattle.wallet_model.specs.Settling.{check_of, settlement}
use Rattle.wallet_core.specs.declared.request.WalletRequest.{WalletRequest}
use Rattle.wallet_core.specs.Asks.{Answers}
use Rattle.wallet_core.specs.Requests.{pending_view, pend_of}
use Rattle.world_model.specs.Worlds.{CanBeAsked, wallet_time}
use Rattle.world_model.specs.Agreement.{IsBookOfWallet}
use Rattle.world_model.proofs.Lists.{followed_at}
use Rattle.world_model.proofs.Oldest.{oldest_is}
use Rattle.mc_world.specs.Wallets.{IsOpened, AsksFor, SendsAgainFor, SettlesBy}
use Rattle.mc_world.proofs.Fronts.{take_snoc, size_front}

-- ---- opening

abbrev pub IsOpening : Limits → History → ℕ → BookView → Type 0
IsOpening limits h n b = IsOpened limits (take n h) b

pub follows_at : (h : History) (n : ℕ) (e : Entry) → IsWalletBook h → slice_get h n ≡ Some e → WalletFollows (take n h) e
follows_at h n e book is = elim (followed_at WalletFollows [] h n e (all_of_book h book) is) [
  | inl none ↦ absurd (let never : None ≡ Some e = none in cc)
  | inr there ↦ there.1
]

site_is : (e : Entry) → wallet_allows [] e ≡ true → FoundsWallet e
site_is (Site m kind name house) allowed = eqb-true kind 2 allowed
site_is e allowed = absurd cc

pub founds : (h : History) (e : Entry) → IsWalletBook h → slice_get h 0 ≡ Some e → FoundsWallet e
founds h e book is = site_is e (follows_at h 0 e book is).allowed

pub opened_first : (limits : Limits) (h : History) (e : Entry) (b : BookView) → slice_get h 0 ≡ Some e → WalletRepresents b (e ∷ []) → b.time ≡ moment_of e → b.limits ≡ limits → IsOpening limits h 1 b
opened_first limits h e b is represents at bounds =
    let one : take 1 h ≡ e ∷ [] = take_snoc h 0 e is in
    let moment : time (e ∷ []) ≡ moment_of e = (let is = time_more [] e in omega (arith, is)) in
    record {
      represents = subst (WalletRepresents b) (sym one) represents;
      time' = at ∙ sym moment ∙ sym (ap time one);
      bounds = bounds;
    }

learned : (b : BookView) (h : History) (e : Entry) (told : Bool) → told ≡ true → Learns b h e told → WalletRepresents b (h ++ e ∷ [])
learned b h e true is learns = learns.1
learned b h e false is learns = absurd cc

pub opened_more : (limits : Limits) (h : History) (n : ℕ) (e : Entry) (a b c : BookView) (told : Bool) → IsBookOfWallet h → slice_get h n ≡ Some e → IsOpening limits h n a
    → b.time ≡ a.time → b.limits ≡ a.limits → ((g : History) → WalletRepresents a g → WalletRepresents b g) → told ≡ true → (told ≡ true → c.time ≡ max b.time (moment_of e)) → c.limits ≡ b.limits
    → ((g : History) → WalletRepresents b g → TellsChain g e → size g + entry_size g e ≤ MOST_JOURNAL → Learns c g e told) → IsOpening limits h (n + 1) c
opened_more limits h n e a b c told book is so time_kept bounds_kept same right at bounds exact =
    let next = take_snoc h n e is in
    let long = size_snoc (take n h) e in
    let here = ap size next in
    let front = size_front [] h (n + 1) in
    let most = book.most in
    let learns = exact (take n h) (same (take n h) so.represents) (tells_chain (take n h) e (follows_at h n e book.lawful is)) (omega (arith, most, long, here, front)) in
    record {
      represents = subst (WalletRepresents c) (sym next) (learned c (take n h) e told right learns);
      time' = at right ∙ ap (λ (t : ℕ). max t (moment_of e)) (time_kept ∙ so.time') ∙ sym (time_more (take n h) e) ∙ sym (ap time next);
      bounds = bounds ∙ bounds_kept ∙ so.bounds;
    }

-- ---- at a reading of the clock

-- its book at a reading
pub record IsAt (limits : Limits) (h : History) (reading : ℕ) (b : BookView) : Type 0 where
  pub represents : WalletRepresents b h
  pub time' : b.time ≡ wallet_time h reading
  pub bounds : b.limits ≡ limits

pub raised_at : (limits : Limits) (h : History) (reading moment : ℕ) (b c : BookView) → IsOpened limits h b → moment ≡ min reading (2 ^ 35 - 1) → c.time ≡ max b.time moment → c.limits ≡ b.limits
    → ((g : History) → WalletRepresents b g → WalletRepresents c g) → IsAt limits h reading c
raised_at limits h reading moment b c opened clock time_is bounds same = record {
  represents = same h opened.represents;
  time' = time_is ∙ ap (λ (t : ℕ). max t moment) opened.time' ∙ ap (λ (m : ℕ). max (time h) m) clock;
  bounds = bounds ∙ opened.bounds;
}

abbrev pub ok_entry : Entry → Result Entry Refusal
ok_entry e = Ok e

-- ---- asking

pub draw_can : (asking : Asking) (broker account key : List ℕ) (order amount units : ℕ) (right : Bool) → asking ≡ draw broker account key order amount → IsName broker → IsName account → length key ≡ 16
    → IsTrue right ↔ (1 ≤ order) × (order ≤ MOST) → right ≡ true → units ≡ amount → amount ≤ MOST → IsTrue (nat_le 1 units) ↔ CanBeAsked asking
draw_can asking broker account key order amount units right is names own long iff so same small = (
  (λ some. let both = iff.0 so in let one = leb-true 1 units some in subst CanBeAsked (sym is) (names, long, (own, record { some = both.0; within = both.1 }, record { some = omega (arith, one, same); within = small }))),
  (λ can. let all : CanBeAsked (draw broker account key order amount) = subst CanBeAsked is can in let some = all.2.2.some in le-leb 1 units (omega (arith, some, same))),
)

pub cannot_ask : (limits : Limits) (h : History) (asking : Asking) (reading : ℕ) (can : Bool) → IsTrue can ↔ CanBeAsked asking → can ≡ false → AsksFor limits h asking reading h None
cannot_ask limits h asking reading can iff wrong = ((λ e p may. never can (iff.1 may.can) wrong), refl)
  where
    never : (can : Bool) → IsTrue can → can ≡ false → ⊥
    never true right wrong = absurd cc
    never false right wrong = absurd cc

pub no_answer : (limits : Limits) (h : History) (asking : Asking) (reading : ℕ) (b : BookView) (f : Refusal) → IsAt limits h reading b → ((g : History) → WalletRepresents b g → Answers b.time (pend_entry g b.time asking) (Err f))
    → AsksFor limits h asking reading h None
no_answer limits h asking reading b f at answers = ((λ e p may. never (pend_entry h b.time asking) e (answers h at.represents) (ap (λ (t : ℕ). pend_entry h t asking) at.time' ∙ may.pends)), refl)
  where
    never : (todo : Result Entry Refusal) (e : Entry) → Answers b.time todo (Err f) → todo ≡ Ok e → ⊥
    never (Ok x) e a is = a
    never (Err g) e a is = absurd cc

answered : (limits : Limits) (h : History) (asking : Asking) (reading : ℕ) (b : BookView) (q : WalletRequest) → IsAt limits h reading b → ((g : History) → WalletRepresents b g → Answers b.time (pend_entry g b.time asking) (Ok q))
    → pend_entry h (wallet_time h reading) asking ≡ Ok (pend_of b.time (pending_view q))
answered limits h asking reading b q at answers = ap (λ (t : ℕ). pend_entry h t asking) (sym at.time') ∙ so (pend_entry h b.time asking) (answers h at.represents)
  where
    so : (todo : Result Entry Refusal) → Answers b.time todo (Ok q) → todo ≡ Ok (pend_of b.time (pending_view q))
    so (Ok e) a = ap ok_entry a
    so (Err g) a = absurd a

pub no_room_to_ask : (limits : Limits) (h : History) (asking : Asking) (reading : ℕ) (b : BookView) (q : WalletRequest) (e : Entry) → IsAt limits h reading b
    → ((g : History) → WalletRepresents b g → Answers b.time (pend_entry g b.time asking) (Ok q)) → e ≡ pend_of b.time (pending_view q) → (fitted h b.limits e ≡ Ok e → ⊥) → AsksFor limits h asking reading h None
no_room_to_ask limits h asking reading b q e at answers is full = (
  (λ d p may.
      let both : ok_entry d ≡ ok_entry (pend_of b.time (pending_view q)) = sym may.pends ∙ answered limits h asking reading b q at answers in
      let one : d ≡ e = same_Ok d (pend_of b.time (pending_view q)) both ∙ sym is in
      full (subst (λ (l : Limits). fitted h l e ≡ Ok e) (sym at.bounds) (subst (λ (x : Entry). fitted h limits x ≡ Ok x) one may.room))),
  refl,
)
  where
    same_Ok : (x y : Entry) → ok_entry x ≡ ok_entry y → x ≡ y
    same_Ok x y is = (let same : Ok x ≡ Ok y = is in cc)

pub has_asked : (limits : Limits) (h : History) (asking : Asking) (reading : ℕ) (b : BookView) (q : WalletRequest) (e : Entry) (g : History) (bytes : List ℕ) → IsAt limits h reading b → CanBeAsked asking
    → ((g : History) → WalletRepresents b g → Answers b.time (pend_entry g b.time asking) (Ok q)) → e ≡ pend_of b.time (pending_view q) → fitted h b.limits e ≡ Ok e → g ≡ h ++ e ∷ [] → bytes ≡ request_bytes (pending_view q)
    → AsksFor limits h asking reading g (Some bytes)
has_asked limits h asking reading b q e g bytes at can answers is room after sent = record {
  e = e;
  p = pending_view q;
  may = record {
    can = can;
    pends = answered limits h asking reading b q at answers ∙ ap ok_entry (sym is);
    room = subst (λ (l : Limits). fitted h l e ≡ Ok e) at.bounds room;
    asked = ap pending_of is;
  };
  after = after;
  sent = sent;
}

-- ---- asking again

kept_some : (h : History) (n : ℕ) (p : Pending) → is_kept h n ≡ true → pending_in h n ≡ Some p → kept_in h n ≡ Some p
kept_some h n p kept request = ap (λ (b : Bool). if b then pending_in h n else None) kept ∙ request

pub nothing_kept : (h : History) (peer : List ℕ) (f : Refusal) → Retries (oldest_kept h peer) (Err f) → SendsAgainFor h peer None
nothing_kept h peer f retries = by (oldest_kept h peer) retries
  where
    by : (o : Option (ℕ × Pending)) → Retries o (Err f) → o ≡ None
    by None r = refl
    by (Some x) r = absurd cc

pub sent_again : (h : History) (peer : List ℕ) (n : ℕ) (q : WalletRequest) (bytes : List ℕ) → Retries (oldest_kept h peer) (Ok n) → Some (pending_view q) ≡ kept_in h n → bytes ≡ request_bytes (pending_view q)
    → SendsAgainFor h peer (Some bytes)
sent_again h peer n q bytes retries kept sent = by (oldest_kept h peer) refl retries
  where
    by : (o : Option (ℕ × Pending)) → oldest_kept h peer ≡ o → Retries o (Ok n) → SendsAgainFor h peer (Some bytes)
    by None is r = absurd cc
    by (Some k) is r =
        let same : n ≡ k.0 = cc in
        let at = oldest_is h peer k.0 k.1 is in
        let one : pending_view q ≡ k.1 = same_Some (pending_view q) k.1 (kept ∙ ap (kept_in h) same ∙ kept_some h k.0 k.1 at.kept at.request) in
        record { n = k.0; p = k.1; oldest = is; sent = sent ∙ ap request_bytes one }

-- ---- replies

pub not_read : (limits : Limits) (h : History) (bytes : List ℕ) (n reading : ℕ) → ((r : Received) → IsReply bytes r → ⊥) → SettlesBy limits h bytes n reading h false
not_read limits h bytes n reading none = ((λ p r may. none r may.reads), refl)

pub bad_reply : (limits : Limits) (h : History) (bytes : List ℕ) (n reading : ℕ) → IsBad bytes → SettlesBy limits h bytes n reading h false
bad_reply limits h bytes n reading bad = not_read limits h bytes n reading (λ r is. reply_not_bad bytes r is bad)

pub short_reply : (limits : Limits) (h : History) (bytes : List ℕ) (n reading needed : ℕ) → Needs bytes needed → SettlesBy limits h bytes n reading h false
short_reply limits h bytes n reading needed needs = not_read limits h bytes n reading (λ r is. reply_not_short bytes r is (needed, needs))

pub not_kept : (limits : Limits) (h : History) (bytes : List ℕ) (n reading : ℕ) → None ≡ kept_in h n → SettlesBy limits h bytes n reading h false
not_kept limits h bytes n reading none = ((λ p r may. never p (none ∙ kept_some h n p may.kept may.request)), refl)
  where
    never : (p : Pending) → None ≡ Some p → ⊥
    never p is = absurd cc

-- a reply that may settle the kept request is the one that was read
one_request : (h : History) (n : ℕ) (p : Pending) (q : WalletRequest) → Some (pending_view q) ≡ kept_in h n → is_kept h n ≡ true → pending_in h n ≡ Some p → p ≡ pending_view q
one_request h n p q is kept request = sym (same_Some (pending_view q) p (is ∙ kept_some h n p kept request))

pub not_checked : (limits : Limits) (h : History) (bytes : List ℕ) (n reading : ℕ) (q : WalletRequest) (r : Received) (f : Option Refusal) → Some (pending_view q) ≡ kept_in h n → IsReply bytes r
    → f ≡ check_of (pending_view q) r → is_some f ≡ true → SettlesBy limits h bytes n reading h false
not_checked limits h bytes n reading q r f kept reads is some = (
  (λ p s may.
      let one = one_request h n p q kept may.kept may.request in
      let two = one_reply bytes s r may.reads reads in
      never f (is ∙ ap (λ (x : Pending). check_of x r) (sym one) ∙ ap (check_of p) (sym two) ∙ may.checked) some),
  refl,
)
  where
    never : (f : Option Refusal) → f ≡ None → is_some f ≡ true → ⊥
    never None none some = absurd cc
    never (Some x) none some = absurd cc

pub no_room_to_settle : (limits : Limits) (h : History) (bytes : List ℕ) (n reading : ℕ) (b : BookView) (q : WalletRequest) (r : Received) (e : Entry) → IsAt limits h reading b → Some (pending_view q) ≡ kept_in h n → IsReply bytes r
    → e ≡ settlement h b.time n (pending_view q) r → (fitted h b.limits e ≡ Ok e → ⊥) → SettlesBy limits h bytes n reading h false
no_room_to_settle limits h bytes n reading b q r e at kept reads is full = (
  (λ p s may.
      let one = one_request h n p q kept may.kept may.request in
      let two = one_reply bytes s r may.reads reads in
      let same : settlement h (wallet_time h reading) n p s ≡ e =
      ap (λ (t : ℕ). settlement h t n p s) (sym at.time') ∙ ap (λ (x : Pending). settlement h b.time n x s) one ∙ ap (λ (x : Received). settlement h b.time n (pending_view q) x) two ∙ sym is in
      full (subst (λ (l : Limits). fitted h l e ≡ Ok e) (sym at.bounds) (subst (λ (x : Entry). fitted h limits x ≡ Ok x) same may.room))),
  refl,
)

pub has_settled : (limits : Limits) (h : History) (bytes : List ℕ) (n reading : ℕ) (b : BookView) (q : WalletRequest) (r : Received) (e : Entry) (g : History) → IsAt limits h reading b → Some (pending_view q) ≡ kept_in h n
    → IsReply bytes r → check_of (pending_view q) r ≡ None → e ≡ settlement h b.time n (pending_view q) r → fitted h b.limits e ≡ Ok e → g ≡ h ++ e ∷ [] → SettlesBy limits h bytes n reading g true
has_settled limits h bytes n reading b q r e g at kept reads checked is room after =
    let own = kept_from h n (pending_view q) (sym kept) in
    let same : e ≡ settlement h (wallet_time h reading) n (pending_view q) r = is ∙ ap (λ (t : ℕ). settlement h t n (pending_view q) r) at.time' in
    record {
      p = pending_view q;
      r = r;
      may = record {
        reads = reads;
        kept = own.0;
        request = own.1;
        checked = checked;
        room = subst (λ (x : Entry). fitted h limits x ≡ Ok x) same (subst (λ (l : Limits). fitted h l e ≡ Ok e) at.bounds room);
      };
      after = after ∙ ap (λ (x : Entry). h ++ x ∷ []) same;
    }
  where
    kept_from : (h : History) (n : ℕ) (p : Pending) → kept_in h n ≡ Some p → (is_kept h n ≡ true) × (pending_in h n ≡ Some p)
    kept_from h n p is = by (is_kept h n) refl is
      where
        by : (b : Bool) → is_kept h n ≡ b → (if b then pending_in h n else None) ≡ Some p → (is_kept h n ≡ true) × (pending_in h n ≡ Some p)
        by true kept is = (kept, is)
        by false kept is = absurd cc

pub is_none : (f : Option Refusal) → is_some f ≡ false → f ≡ None
is_none None none = refl
is_none (Some x) none = absurd cc
