-- Over a run the book stays lawful, the budget holds, and nothing else goes to the vendor.
use Rattle.std.proofs.Common.{◌≡◌, ◌⊎◌, ◌∙◌, inl, inr, ℕ, zero, suc, ◌+◌, ◌≤◌, Bool, true, false, cond, List, [], ◌∷◌, ◌++◌, length, refl, sym, ap, subst, append_assoc, append-nil, arith, Option, Some, None, Result, Ok, Err}
use Rattle.std.proofs.lemmas.List.{length-append}
use Rattle.std.specs.Prelude.{◌==◌}
use Rattle.std.specs.List.{AllByRecursion}
use Rattle.mc_outside.specs.LinkView.{LinkView}
use Rattle.mc_requests.specs.declared.limits.Limits.{Limits}
use Rattle.mc_requests.specs.declared.refusal.Refusal.{Refusal}
use Rattle.mc_requests.specs.Requests.{Asked}
use Rattle.mc_records.specs.Entry.{Entry, moment_of}
use Rattle.ledger_model.specs.Histories.{History, time}
use Rattle.ledger_model.proofs.ListLaws.{sum_snoc}
use Rattle.millicent_http.specs.declared.clock.Clock.TheVariants.{OfLinks}
use Rattle.millicent_http.specs.Items.{Item, request, refused}
use Rattle.millicent_http.specs.Steps.{Did, Run, state_after}
use Rattle.millicent_http.specs.Courses.{IsServed, BrokeReceiving, BrokeSending, HadLink, HadLinks, ServedAll}
use Rattle.millicent_http.specs.Received.{Received}
use Rattle.millicent_http.proofs.StepLemmas.{state_after-append}
use Rattle.wallet_model.specs.Requests.{Pending, pending_in, is_kept}
use Rattle.wallet_model.specs.Asks.{Offered, get, paid_with, pend_entry, request_bytes}
use Rattle.wallet_model.specs.Settling.{check_of, settlement}
use Rattle.wallet_model.specs.Follows.{WalletFollows, IsWalletBook}
use Rattle.wallet_model.proofs.BookLaws.{book_grows}
use Rattle.wallet_model.proofs.WrittenLaws.{settlement_follows, pend_follows}
use Rattle.wallet_book.specs.Kept.{kept_in}
use Rattle.wallet_book.proofs.BookLaws.{time_more}
use Rattle.wallet_proxy.specs.Told.{Told}
use Rattle.wallet_proxy.specs.Upstream.{Fetches}
use Rattle.wallet_proxy.specs.Proxy.{ProxyState, Bounds, Payment, again, anew, raised, payment_for, get_entry, get_with, with_entry, with_up, Tries, TriesInDoubt, CameOf, SettlesBy, PaysBy, DoubtsBy, Tells, ProxyStep}
use Rattle.wallet_proxy.specs.Links.{RequestInDoubt, InDoubtLinks}
use Rattle.wallet_proxy.specs.Laws.{IsGetOf, Grows, price_told, spent, IsSound, Use, AreUsed, IsOfBook, AsksNoMore, stopped_at}
use Rattle.wallet_proxy.proofs.KeptLemmas.{entered_is_kept, get_is_kept}
use Rattle.wallet_proxy.proofs.StepLaws.{came_up, payment_so, kept_so, anew_so, item_within, item_grows}
use Rattle.wallet_proxy.proofs.DoubtLaws.{doubt_within}
use Rattle.wallet_proxy.proofs.TargetLaws.{kept_of}

-- ---- uses of the vendor's links

used_then : (us vs : List Use) (a b c : LinkView) → AreUsed us a b → AreUsed vs b c → AreUsed (us ++ vs) a c
used_then [] vs a b c first second = subst (λ (v : LinkView). AreUsed vs v c) first second
used_then (u ∷ us) vs a b c first second = (first.0, first.1, used_then us vs first.0 b c first.2 second)

still_of : (b : Bounds) (h more : History) (us : List Use) → AllByRecursion (IsOfBook b h) us → AllByRecursion (IsOfBook b (h ++ more)) us
still_of b h more [] all = tt
still_of b h more (u ∷ us) all = (
  record {
    get = all.0.get;
    peer' = all.0.peer';
    before = all.0.before;
    rest = all.0.rest ++ more;
    book = ap (λ (k : History). k ++ more) all.0.book ∙ append_assoc all.0.before all.0.rest more;
    kept = all.0.kept;
  },
  still_of b h more us all.1,
)

all_then : (P : Use → Type 0) (us vs : List Use) → AllByRecursion P us → AllByRecursion P vs → AllByRecursion P (us ++ vs)
all_then P [] vs first second = second
all_then P (u ∷ us) vs first second = (first.0, all_then P us vs first.1 second)

-- none
asks_none : (b : Bounds) (most : ℕ) (s t : ProxyState) → t.up ≡ s.up → AsksNoMore b most s t
asks_none b most s t same = record { uses = []; used = same; few = omega arith; entries = tt }

-- one, for a request that was kept in the book
asks_one : (b : Bounds) (s t : ProxyState) (h rest : History) (n : ℕ) (p : Pending) (came : Result Received Refusal) → p.ask ≡ 0 → p.peer ≡ b.vendor → kept_in h n ≡ Some p → t.history ≡ h ++ rest
    → Fetches (request_bytes p) came s.up t.up → AsksNoMore b 1 s t
asks_one b s t h rest n p came asks peer kept book fetches = record {
  uses = record { n = n; request = p; came = came } ∷ [];
  used = (t.up, fetches, refl);
  few = omega arith;
  entries = (record { get = asks; peer' = peer; before = h; rest = rest; book = book; kept = kept }, tt);
}

asks_then : (b : Bounds) (n m : ℕ) (s t u : ProxyState) (more : History) → u.history ≡ t.history ++ more → AsksNoMore b n s t → AsksNoMore b m t u → AsksNoMore b (n + m) s u
asks_then b n m s t u more grown first second = record {
  uses = first.uses ++ second.uses;
  used = used_then first.uses second.uses s.up t.up u.up first.used second.used;
  few = omega (arith, first.few, second.few, length-append first.uses second.uses);
  entries = all_then (IsOfBook b u.history) first.uses second.uses
      (subst (λ (h : History). AllByRecursion (IsOfBook b h) first.uses) (sym grown) (still_of b t.history more first.uses first.entries)) second.entries;
}

-- ---- the book, at its time

record InTime (h : History) (t : ℕ) : Type 0 where
  lawful : IsWalletBook h
  in_time : time h ≤ t

-- with an entry of that time that may follow
goes_on : (h : History) (t : ℕ) (e : Entry) → InTime h t → moment_of e ≡ t → WalletFollows h e → InTime (h ++ e ∷ []) t
goes_on h t e at moment follows = record { lawful = book_grows h e at.lawful follows; in_time = omega (arith, at.in_time, moment, time_more h e) }

-- a settlement is made at its time
settled_moment : (h : History) (t n : ℕ) (p : Pending) (r : Received) → moment_of (settlement h t n p r) ≡ t
unfolding settlement
settled_moment h t n p r = go (r.status == 200) _ _ refl refl
  where
    go : (b : Bool) (x y : Entry) → moment_of x ≡ t → moment_of y ≡ t → moment_of (cond b x y) ≡ t
    go true x y a c = a
    go false x y a c = c

kept_true : (h : History) (n : ℕ) (p : Pending) → kept_in h n ≡ Some p → is_kept h n ≡ true
kept_true h n p is = go (is_kept h n) is
  where
    go : (b : Bool) → cond b (pending_in h n) None ≡ Some p → b ≡ true
    go true e = refl
    go false e = absurd cc

settlement_in_time : (h : History) (t n : ℕ) (p q : Pending) (r : Received) → InTime h t → kept_in h n ≡ Some p → InTime (h ++ settlement h t n q r ∷ []) t
settlement_in_time h t n p q r at kept = goes_on h t (settlement h t n q r) at (settled_moment h t n q r) (settlement_follows h t n q r at.lawful at.in_time (kept_true h n p kept))

same_time : (s t : ProxyState) → t ≡ s → InTime s.history s.time → InTime t.history t.time
same_time s t same at = subst (λ (u : ProxyState). InTime u.history u.time) (sym same) at

settles_in_time : (limits : Limits) (s : ProxyState) (n : ℕ) (p : Pending) (r : Received) (o : Option Refusal) (told : Told) (t : ProxyState) → InTime s.history s.time → kept_in s.history n ≡ Some p
    → SettlesBy limits s n p r o told t → InTime t.history t.time
settles_in_time limits s n p r (Some f) told t at kept by = same_time s t by.1 at
settles_in_time limits s n p r None told t at kept (inl by) =
    subst (λ (u : ProxyState). InTime u.history u.time) (sym by.2) (settlement_in_time s.history s.time n p p r at kept)
settles_in_time limits s n p r None told t at kept (inr by) = same_time s t by.1 at

came_in_time : (limits : Limits) (s : ProxyState) (n : ℕ) (p : Pending) (came : Result Received Refusal) (told : Told) (t : ProxyState) → InTime s.history s.time → kept_in s.history n ≡ Some p
    → CameOf limits s n p came told t → InTime t.history t.time
came_in_time limits s n p (Ok r) told t at kept by = settles_in_time limits s n p r (check_of p r) told t at kept by
came_in_time limits s n p (Err f) told t at kept by = same_time s t by.1 at

-- the entry of a new get
get_in_time : (b : Bounds) (s : ProxyState) (q : Asked) (o : Offered) → InTime s.history s.time → payment_for b s q ≡ Ok (anew o) → InTime (s.history ++ get_entry b s.time q.target o ∷ []) s.time
get_in_time b s q o at is =
    let choice = anew_so _ _ o (payment_so b s q (anew o) is).0 in
    let entry : pend_entry s.history s.time (get b.vendor q.target b.limit) ≡ Ok (get_entry b s.time q.target o) = ap (paid_with s.time 0 b.vendor q.target) choice in
    goes_on s.history s.time (get_entry b s.time q.target o) at refl (pend_follows s.history s.time (get b.vendor q.target b.limit) (get_entry b s.time q.target o) at.lawful at.in_time tt entry)

-- ---- an item

-- From one state to another: the book is lawful at its time, and nothing else went to the vendor.
record Passes (b : Bounds) (s t : ProxyState) : Type 0 where
  at : InTime t.history t.time
  asks : AsksNoMore b 1 s t

passes_same : (b : Bounds) (s t : ProxyState) → InTime s.history s.time → t ≡ s → Passes b s t
passes_same b s t at same = record { at = same_time s t same at; asks = asks_none b 1 s t (ap (λ (u : ProxyState). u.up) same) }

-- how a book goes on that was tried
came_more : (limits : Limits) (s : ProxyState) (n : ℕ) (p : Pending) (r : Received) (o : Option Refusal) (told : Told) (t : ProxyState) → SettlesBy limits s n p r o told t → (more : History) × (t.history ≡ s.history ++ more)
came_more limits s n p r (Some f) told t by = ([], ap (λ (u : ProxyState). u.history) by.1 ∙ sym (append-nil s.history))
came_more limits s n p r None told t (inl by) = (settlement s.history s.time n p r ∷ [], ap (λ (u : ProxyState). u.history) by.2)
came_more limits s n p r None told t (inr by) = ([], ap (λ (u : ProxyState). u.history) by.1 ∙ sym (append-nil s.history))

more_of : (limits : Limits) (s : ProxyState) (n : ℕ) (p : Pending) (came : Result Received Refusal) (told : Told) (t : ProxyState) → CameOf limits s n p came told t → (more : History) × (t.history ≡ s.history ++ more)
more_of limits s n p (Ok r) told t by = came_more limits s n p r (check_of p r) told t by
more_of limits s n p (Err f) told t by = ([], ap (λ (u : ProxyState). u.history) by.1 ∙ sym (append-nil s.history))

passes_tried : (b : Bounds) (s u t : ProxyState) (n : ℕ) (p : Pending) (told : Told) → u.up ≡ s.up → InTime u.history u.time → kept_in u.history n ≡ Some p → p.ask ≡ 0 → p.peer ≡ b.vendor → Tries b.limits u n p told t → Passes b s t
passes_tried b s u t n p told same at kept asks peer by =
    let more = more_of b.limits (with_up u by.up) n p by.came told t by.then' in
    let up : t.up ≡ by.up = came_up b.limits (with_up u by.up) n p by.came told t by.then' in
    let fetches : Fetches (request_bytes p) by.came s.up t.up =
    subst (λ (v : LinkView). Fetches (request_bytes p) by.came v t.up) same (subst (λ (v : LinkView). Fetches (request_bytes p) by.came u.up v) (sym up) by.fetches) in
    record {
      at = came_in_time b.limits (with_up u by.up) n p by.came told t at kept by.then';
      asks = asks_one b s t u.history more.0 n p by.came asks peer kept more.1 fetches;
    }

pays_passes : (b : Bounds) (s : ProxyState) (q : Asked) (o : Result Payment Refusal) (told : Told) (t : ProxyState) → InTime s.history s.time → payment_for b s q ≡ o → PaysBy b s q.target o told t → Passes b s t
pays_passes b s q (Err f) told t at is by = passes_same b s t at by.1
pays_passes b s q (Ok (again n p)) told t at is by =
    let kept = kept_so _ _ n p (payment_so b s q (again n p) is).0 in
    let of : IsGetOf b q.target p = kept_of b s.history q.target (n, p) kept in
    passes_tried b s s t n p told refl at (get_is_kept s.history b.vendor q.target (n, p) kept).0 of.get of.peer' by
pays_passes b s q (Ok (anew o)) told t at is (inl by) =
    let e : Entry = get_entry b s.time q.target o in
    passes_tried b s (with_entry s e) t (length s.history) (get_with b q.target o) told refl (get_in_time b s q o at is) (entered_is_kept s.history e (get_with b q.target o) at.lawful refl) refl refl by.1
pays_passes b s q (Ok (anew o)) told t at is (inr by) = passes_same b s t at by.1

item_passes : (b : Bounds) (s : ProxyState) (item : Item) (told : Told) (t : ProxyState) → InTime s.history s.time → Tells b s item told t → Passes b s t
item_passes b s (request q closes) told t at by = pays_passes b s q (payment_for b s q) told t at refl by
item_passes b s (refused f closes) told t at by = passes_same b s t at by.1

-- ---- runs

-- After so many steps: the state is sound, the book went on, and nothing else went to the vendor.
pub record Goes (b : Bounds) (count : ℕ) (s t : ProxyState) : Type 0 where
  pub sound : IsSound b t
  pub asks : AsksNoMore b count s t
  pub more : History
  pub grown : t.history ≡ s.history ++ more

goes_none : (b : Bounds) (s : ProxyState) → IsSound b s → Goes b 0 s s
goes_none b s sound = record { sound = sound; asks = asks_none b 0 s s refl; more = []; grown = sym (append-nil s.history) }

goes_then : (b : Bounds) (n m : ℕ) (s t u : ProxyState) → Goes b n s t → Goes b m t u → Goes b (n + m) s u
goes_then b n m s t u first second = record {
  sound = second.sound;
  asks = asks_then b n m s t u second.more second.grown first.asks second.asks;
  more = first.more ++ second.more;
  grown = second.grown ∙ ap (λ (h : History). h ++ second.more) first.grown ∙ append_assoc s.history first.more second.more;
}

sound_later : (b : Bounds) (s : ProxyState) (reading : ℕ) → IsSound b s → IsSound b (raised s reading)
sound_later b s reading sound = record { lawful = sound.lawful; in_time = omega (arith, sound.in_time); within = sound.within }

step_goes : (b : Bounds) (s : ProxyState) (reading : ℕ) (item : Item) (reply : List ℕ) (t : ProxyState) → IsSound b s → ProxyStep b s reading item reply t → Goes b 1 s t
step_goes b s reading item reply t sound step =
    let later = sound_later b s reading sound in
    let passes : Passes b (raised s reading) t = item_passes b (raised s reading) item step.0 t (record { lawful = later.lawful; in_time = later.in_time }) step.1 in
    let grows : Grows (raised s reading) t = item_grows b (raised s reading) item step.0 t step.1 in
    record {
      sound = record { lawful = passes.at.lawful; in_time = passes.at.in_time; within = item_within b (raised s reading) item step.0 t later.lawful step.1 later.within };
      asks = record { uses = passes.asks.uses; used = passes.asks.used; few = passes.asks.few; entries = passes.asks.entries };
      more = grows.added;
      grown = grows.grown;
    }

pub run_goes : (b : Bounds) (s : ProxyState) (items : List Item) (readings : List ℕ) (steps : List (Did ProxyState)) → IsSound b s → Run (ProxyStep b) s items readings steps → Goes b (length steps) s (state_after s steps)
run_goes b s [] [] [] sound ran = goes_none b s sound
run_goes b s [] [] (d ∷ ds) sound ran = absurd ran
run_goes b s [] (reading ∷ readings) steps sound ran = absurd ran
run_goes b s (item ∷ items) [] steps sound ran = absurd ran
run_goes b s (item ∷ items) (reading ∷ readings) [] sound ran = absurd ran
run_goes b s (item ∷ items) (reading ∷ readings) (d ∷ ds) sound ran =
    let first : Goes b 1 s d.after = step_goes b s reading item d.sent d.after sound ran.0 in
    let rest : Goes b (length ds) d.after (state_after d.after ds) = run_goes b d.after items readings ds first.sound ran.1 in
    subst (λ (n : ℕ). Goes b n s (state_after d.after ds)) (omega arith) (goes_then b 1 (length ds) s d.after (state_after d.after ds) first rest)

-- ---- links

-- steps after others
goes_append : (b : Bounds) (s : ProxyState) (xs ys : List (Did ProxyState)) → Goes b (length xs) s (state_after s xs) → Goes b (length ys) (state_after s xs) (state_after (state_after s xs) ys) → Goes b (length (xs ++ ys)) s (state_after s (xs ++ ys))
goes_append b s xs ys first second =
    subst (λ (t : ProxyState). Goes b (length (xs ++ ys)) s t) (sym (state_after-append s xs ys))
    (subst (λ (n : ℕ). Goes b n s (state_after (state_after s xs) ys)) (sym (length-append xs ys)) (goes_then b (length xs) (length ys) s (state_after s xs) (state_after (state_after s xs) ys) first second))

link_goes : (b : Bounds) (steps : List (Did ProxyState)) (s : ProxyState) (before after : LinkView) → IsSound b s → HadLink (ProxyStep b) OfLinks steps s before after → Goes b (length steps) s (state_after s steps)
link_goes b steps s before after sound had = go had.course
  where
    go : IsServed (ProxyStep b) OfLinks steps s before had.served ⊎ (BrokeReceiving (ProxyStep b) OfLinks steps s before had.served ⊎ BrokeSending (ProxyStep b) OfLinks steps s before had.served) → Goes b (length steps) s (state_after s steps)
    go (inl x) = run_goes b s x.items x.replied.readings steps sound x.replied.ran
    go (inr (inl x)) = run_goes b s x.items x.replied.readings steps sound x.replied.ran
    go (inr (inr x)) =
        let first : Goes b (length x.done) s (state_after s x.done) = run_goes b s x.front x.replied.readings x.done sound x.replied.ran in
        let last : Goes b 1 (state_after s x.done) x.step.after =
        run_goes b (state_after s x.done) (x.last ∷ []) x.replied_last.readings (record { sent = x.reply; after = x.step.after } ∷ []) first.sound x.replied_last.ran in
        subst (λ (ds : List (Did ProxyState)). Goes b (length ds) s (state_after s ds)) (sym x.steps_are) (goes_append b s x.done (x.step ∷ []) first last)

pub links_goes : (b : Bounds) (n : ℕ) (steps : List (Did ProxyState)) (s : ProxyState) (before after : LinkView) → IsSound b s → HadLinks (ProxyStep b) OfLinks n steps s before after → Goes b (length steps) s (state_after s steps)
links_goes b zero steps s before after sound had = subst (λ (ds : List (Did ProxyState)). Goes b (length ds) s (state_after s ds)) (sym had.0) (goes_none b s sound)
links_goes b (suc n) steps s before after sound had =
    let first : Goes b (length had.0) s (state_after s had.0) = links_goes b n had.0 s before had.2 sound had.4 in
    let last : Goes b (length had.1) (state_after s had.0) (state_after (state_after s had.0) had.1) = link_goes b had.1 (state_after s had.0) _ after first.sound had.5 in
    subst (λ (ds : List (Did ProxyState)). Goes b (length ds) s (state_after s ds)) (sym had.3) (goes_append b s had.0 had.1 first last)

pub all_goes : (b : Bounds) (links n : ℕ) (steps : List (Did ProxyState)) (s : ProxyState) (before after : LinkView) → IsSound b s → ServedAll (ProxyStep b) OfLinks links n steps s before after → Goes b (length steps) s (state_after s steps)
all_goes b links n steps s before after sound (inl x) = links_goes b n steps s before after sound x.1
all_goes b links n steps s before after sound (inr x) = links_goes b n steps s before x.1.0 sound x.1.1

-- ---- where the disk fails

-- What is so of an entry in doubt, behind those that its item added.
pub record Doubted (b : Bounds) (most : ℕ) (s t : ProxyState) (added : History) (e : Entry) (up : LinkView) : Type 0 where
  pub lawful : IsWalletBook (t.history ++ (added ++ e ∷ []))
  pub within : t.paid + spent (added ++ e ∷ []) ≤ b.budget
  pub asks : AsksNoMore b most s (stopped_at t added up)

spent_one : (e : Entry) → spent (e ∷ []) ≡ price_told e
spent_one e = let is = sum_snoc price_told [] e in omega (arith, is)

-- what an item added before it costs nothing
spent_doubt : (s : ProxyState) (b : Bounds) (added : History) (e : Entry) → (added ≡ []) ⊎ ((f : Entry) × (added ≡ f ∷ []) × (price_told f ≡ 0)) → s.paid + price_told e ≤ b.budget → s.paid + spent (added ++ e ∷ []) ≤ b.budget
spent_doubt s b added e (inl none) few = let is = ap (λ (l : History). spent (l ++ e ∷ [])) none in omega (arith, is, spent_one e, few)
spent_doubt s b added e (inr one) few =
    let is = ap (λ (l : History). spent (l ++ e ∷ [])) one.1 in
    omega (arith, is, sum_snoc price_told (one.0 ∷ []) e, spent_one one.0, one.2, few)

lawful_doubt : (s : ProxyState) (added : History) (e : Entry) → IsWalletBook ((s.history ++ added) ++ e ∷ []) → IsWalletBook (s.history ++ (added ++ e ∷ []))
lawful_doubt s added e lawful = subst IsWalletBook (append_assoc s.history added (e ∷ [])) lawful

-- a settlement, behind the entries of a state that the item came to
tried_doubt : (b : Bounds) (s u : ProxyState) (added : History) (n : ℕ) (p : Pending) (e : Entry) (up : LinkView) → u.history ≡ s.history ++ added → u.up ≡ s.up → InTime u.history u.time → kept_in u.history n ≡ Some p → p.ask ≡ 0 → p.peer ≡ b.vendor
    → TriesInDoubt u n p e up → IsWalletBook (s.history ++ (added ++ e ∷ [])) × AsksNoMore b 1 s (stopped_at s added up)
tried_doubt b s u added n p e up grown same at kept asks peer d =
    let lawful : IsWalletBook (u.history ++ e ∷ []) = subst (λ (f : Entry). IsWalletBook (u.history ++ f ∷ [])) (sym d.entry) (settlement_in_time u.history u.time n p p d.r at kept).lawful in (
      lawful_doubt s added e (subst (λ (h : History). IsWalletBook (h ++ e ∷ [])) grown lawful),
      asks_one b s (stopped_at s added up) u.history [] n p (Ok d.r) asks peer kept (sym grown ∙ sym (append-nil u.history)) (subst (λ (v : LinkView). Fetches (request_bytes p) (Ok d.r) v up) same d.fetches),
    )

pub item_doubt : (b : Bounds) (s : ProxyState) (q : Asked) (added : History) (e : Entry) (up : LinkView) → IsSound b s → DoubtsBy b s q.target (payment_for b s q) added e up → Doubted b 1 s s added e up
item_doubt b s q added e up sound doubt = go (payment_for b s q) refl doubt
  where
    at : InTime s.history s.time
    at = record { lawful = sound.lawful; in_time = sound.in_time }

    few : s.paid + price_told e ≤ b.budget
    few = doubt_within b s q added e up sound.lawful doubt sound.within

    go : (x : Result Payment Refusal) → payment_for b s q ≡ x → DoubtsBy b s q.target x added e up → Doubted b 1 s s added e up
    go (Err f) is d = absurd d
    go (Ok (again n p)) is d =
        let kept = kept_so _ _ n p (payment_so b s q (again n p) is).0 in
        let of : IsGetOf b q.target p = kept_of b s.history q.target (n, p) kept in
        let book : s.history ≡ s.history ++ added = sym (ap (λ (l : History). s.history ++ l) d.0 ∙ append-nil s.history) in
        let tried = tried_doubt b s s added n p e up book refl at (get_is_kept s.history b.vendor q.target (n, p) kept).0 of.get of.peer' d.1 in
        record { lawful = tried.0; within = spent_doubt s b added e (inl d.0) few; asks = tried.1 }
    go (Ok (anew o)) is (inl d) =
        let book : s.history ≡ s.history ++ added = sym (ap (λ (l : History). s.history ++ l) d.0 ∙ append-nil s.history) in
        let lawful : IsWalletBook (s.history ++ e ∷ []) = subst (λ (f : Entry). IsWalletBook (s.history ++ f ∷ [])) (sym d.1) (get_in_time b s q o at is).lawful in
        record {
          lawful = lawful_doubt s added e (subst (λ (h : History). IsWalletBook (h ++ e ∷ [])) book lawful);
          within = spent_doubt s b added e (inl d.0) few;
          asks = asks_none b 1 s (stopped_at s added up) d.2;
        }
    go (Ok (anew o)) is (inr d) =
        let f : Entry = get_entry b s.time q.target o in
        let book : s.history ++ f ∷ [] ≡ s.history ++ added = ap (λ (l : History). s.history ++ l) (sym d.0) in
        let tried = tried_doubt b s (with_entry s f) added (length s.history) (get_with b q.target o) e up book refl (get_in_time b s q o at is) (entered_is_kept s.history f (get_with b q.target o) sound.lawful refl) refl refl d.2 in
        record { lawful = tried.0; within = spent_doubt s b added e (inr (f, d.0, refl)) few; asks = tried.1 }

-- after some steps
doubted_then : (b : Bounds) (n : ℕ) (s t : ProxyState) (added : History) (e : Entry) (up : LinkView) → Goes b n s t → Doubted b 1 t t added e up → Doubted b (n + 1) s t added e up
doubted_then b n s t added e up goes doubt = record {
  lawful = doubt.lawful;
  within = doubt.within;
  asks = asks_then b n 1 s t (stopped_at t added up) added refl goes.asks doubt.asks;
}

request_doubt : (b : Bounds) (q : Asked) (t : ProxyState) (added : History) (e : Entry) (up : LinkView) (said : List ℕ) (before after : LinkView) → IsSound b t → RequestInDoubt b q t added e up said before after → Doubted b 1 t t added e up
request_doubt b q t added e up said before after sound doubt =
    let later = item_doubt b (raised t doubt.reading) q added e up (sound_later b t doubt.reading sound) doubt.doubts in
    record {
      lawful = later.lawful;
      within = later.within;
      asks = record { uses = later.asks.uses; used = later.asks.used; few = later.asks.few; entries = later.asks.entries };
    }

pub links_doubt : (b : Bounds) (links : ℕ) (steps : List (Did ProxyState)) (s : ProxyState) (before : LinkView) (added : History) (e : Entry) (up : LinkView) (said : List ℕ) (after : LinkView) → IsSound b s
    → InDoubtLinks b links steps s before added e up said after → Doubted b (length steps + 1) s (state_after s steps) added e up
links_doubt b links steps s before added e up said after sound doubt =
    let first : Goes b (length doubt.front) s (state_after s doubt.front) = links_goes b doubt.n doubt.front s before doubt.between sound doubt.links_had in
    let link = doubt.last_link in
    let last : Goes b (length doubt.last) (state_after s doubt.front) (state_after (state_after s doubt.front) doubt.last) =
    run_goes b (state_after s doubt.front) link.front link.replied.readings doubt.last first.sound link.replied.ran in
    let both : Goes b (length steps) s (state_after s steps) =
    subst (λ (ds : List (Did ProxyState)). Goes b (length ds) s (state_after s ds)) (sym doubt.steps_are) (goes_append b s doubt.front doubt.last first last) in
    let same : state_after s steps ≡ state_after (state_after s doubt.front) doubt.last = ap (state_after s) doubt.steps_are ∙ state_after-append s doubt.front doubt.last in
    let there : Doubted b 1 (state_after (state_after s doubt.front) doubt.last) (state_after (state_after s doubt.front) doubt.last) added e up =
    request_doubt b link.q (state_after (state_after s doubt.front) doubt.last) added e up said _ _ last.sound link.in_doubt in
    doubted_then b (length steps) s (state_after s steps) added e up both (subst (λ (t : ProxyState). Doubted b 1 t t added e up) (sym same) there)
