-- What the steps of a proxy promise.
use Rattle.std.proofs.Common.{◌≡◌, ◌⊎◌, inl, inr, ℕ, ◌+◌, ◌≤◌, Bool, true, false, cond, List, [], ◌∷◌, ◌++◌, length, refl, sym, ap, ◌∙◌, append_assoc, append-nil, subst, arith, Option, Some, None, option_map, unwrap_or, Result, Ok, Err}
use Rattle.std.specs.Prelude.{◌==◌, ◌&&◌, ◌||◌, not, nat_le, nat_lt, IsTrue, is_some, option_and_then, bytes_eq, codes}
use Rattle.std.proofs.lemmas.Bool.{eqb-true, leb-true, ltb-true, and_parts}
use Rattle.scrip_form.specs.Scrip.{Scrip}
use Rattle.mc_requests.specs.declared.limits.Limits.{Limits}
use Rattle.mc_requests.specs.declared.refusal.Refusal.{Refusal}
use Rattle.mc_requests.specs.declared.refusal.Refusal.TheVariants.{BadReply, Unproved, SiteRefused, NotPlain, OverBudget}
use Rattle.mc_records.specs.Entry.{Entry}
use Rattle.mc_requests.specs.Requests.{Asked}
use Rattle.ledger_model.specs.Histories.{History}
use Rattle.ledger_model.specs.Pieces.{piece_of}
use Rattle.mc_outside.specs.LinkView.{LinkView}
use Rattle.millicent_http.specs.Items.{Item, request, refused}
use Rattle.millicent_http.specs.Received.{Received}
use Rattle.wallet_model.specs.Requests.{Pending, pending_in, pending_of, kept_get}
use Rattle.wallet_model.specs.Asks.{Offered, chosen, request_bytes}
use Rattle.wallet_model.specs.Settling.{check_of, settlement, price_of, fits_request, fits_at, is_paid_by, is_change, is_proved, brings_asked, refusal_number}
use Rattle.wallet_model.specs.Follows.{IsWalletBook}
use Rattle.wallet_book.proofs.HoldingLaws.{get_last}
use Rattle.wallet_proxy.specs.Told.{Told, refusal, contents}
use Rattle.wallet_proxy.specs.Upstream.{Fetches}
use Rattle.wallet_proxy.specs.Proxy.{ProxyState, Bounds, Payment, again, anew, scrip_value, payment_value, payment_by, within_budget, payment_for, is_plain, get_with, get_entry, paid_by, settled_told, with_entry, with_up, Misses, SettlesBy, CameOf, Tries, PaysBy, Tells}
use Rattle.wallet_proxy.proofs.ChoiceLaws.{chosen_has, chosen_value, get_is, get_pays, pending_before}
use Rattle.wallet_proxy.specs.Laws.{is_request, is_settling, Grows, IsPaidFor, MovesUp}

-- ---- a settlement

pub settles : (h : History) (t n : ℕ) (p : Pending) (r : Received) → IsTrue (is_settling (settlement h t n p r))
unfolding settlement
settles h t n p r = go (r.status == 200) _ _ refl refl
  where
    go : (b : Bool) (x y : Entry) → IsTrue (is_settling x) → IsTrue (is_settling y) → IsTrue (is_settling (cond b x y))
    go true x y a c = a
    go false x y a c = c

-- ---- the price of a reply that settles a request

-- what is told of it
fits_of : (p : Pending) (r : Received) → check_of p r ≡ None → (r.status == 200) ≡ true → fits_request p r ≡ true
unfolding check_of
fits_of p r passes ok = go (r.status == 200) (fits_request p r) (is_proved p r) ok refl passes
  where
    go : (a f v : Bool) → a ≡ true → f ≡ fits_request p r → cond (a && not f) (Some BadReply) (cond (not v) (Some Unproved) None) ≡ None → fits_request p r ≡ true
    go true true v is same e = sym same
    go true false v is same e = absurd cc
    go false f v is same e = absurd cc

pub has_price : (p : Pending) (r : Received) → check_of p r ≡ None → (r.status == 200) ≡ true → (price : ℕ) × (price_of r ≡ Some price) × (is_paid_by (option_and_then piece_of p.scrip) price r.change ≡ true)
has_price p r passes ok = go (price_of r) refl (fits_of p r passes ok)
  where
    left : (a b : Bool) → (a && b) ≡ true → a ≡ true
    left true b e = refl
    left false b e = absurd cc

    go : (o : Option ℕ) → price_of r ≡ o → fits_at p r o ≡ true → (price : ℕ) × (price_of r ≡ Some price) × (is_paid_by (option_and_then piece_of p.scrip) price r.change ≡ true)
    go None is fits = absurd cc
    go (Some price) is fits = (price, is, left _ (brings_asked p p.ask price r) fits)

-- it is at most what the piece is worth
pub price_within : (q : Scrip) (price : ℕ) (change : List ℕ) → is_paid_by (Some q) price change ≡ true → price ≤ q.value
price_within q price change = go (price == q.value) refl
  where
    go : (b : Bool) → (price == q.value) ≡ b → cond b (bytes_eq change (codes "-")) (nat_lt price q.value && is_change q price (piece_of change)) ≡ true → price ≤ q.value
    go true same e = omega (arith, eqb-true price q.value same)
    go false other e = omega (arith, ltb-true price q.value (and_parts (nat_lt price q.value) _ e).0)

-- the same of the piece of a request, if it has one
paid_within : (scrip : Option (List ℕ)) (price : ℕ) (change : List ℕ) → is_some (option_and_then piece_of scrip) ≡ true → is_paid_by (option_and_then piece_of scrip) price change ≡ true → price ≤ scrip_value scrip
paid_within None price change has paid = absurd cc
paid_within (Some text) price change has paid = go (piece_of text) refl has paid
  where
    go : (o : Option Scrip) → piece_of text ≡ o → is_some o ≡ true → is_paid_by o price change ≡ true → price ≤ unwrap_or (option_map (λ p. p.value) (piece_of text)) 0
    go None is none e = absurd cc
    go (Some q) is some e = rw is (price_within q price change e)

-- ---- what is paid

pub paid_few : (p : Pending) (r : Received) → is_some (option_and_then piece_of p.scrip) ≡ true → check_of p r ≡ None → paid_by r ≤ scrip_value p.scrip
paid_few p r has passes = go (r.status == 200) refl
  where
    go : (b : Bool) → (r.status == 200) ≡ b → cond b (unwrap_or (price_of r) 0) 0 ≤ scrip_value p.scrip
    go true ok =
        let price = has_price p r passes ok in
        rw price.1 (paid_within p.scrip price.0 r.change has price.2)
    go false other = omega arith

-- ---- within the budget

settles_within : (limits : Limits) (s : ProxyState) (n : ℕ) (p : Pending) (r : Received) (o : Option Refusal) (told : Told) (t : ProxyState) (budget : ℕ) → check_of p r ≡ o → is_some (option_and_then piece_of p.scrip) ≡ true
    → s.paid + scrip_value p.scrip ≤ budget → SettlesBy limits s n p r o told t → t.paid ≤ budget
settles_within limits s n p r (Some f) told t budget is has few by = omega (arith, few, ap (λ (u : ProxyState). u.paid) by.1)
settles_within limits s n p r None told t budget is has few (inl by) = omega (arith, few, paid_few p r has is, ap (λ (u : ProxyState). u.paid) by.2)
settles_within limits s n p r None told t budget is has few (inr by) = omega (arith, few, ap (λ (u : ProxyState). u.paid) by.1)

came_within : (limits : Limits) (s : ProxyState) (n : ℕ) (p : Pending) (came : Result Received Refusal) (told : Told) (t : ProxyState) (budget : ℕ) → is_some (option_and_then piece_of p.scrip) ≡ true
    → s.paid + scrip_value p.scrip ≤ budget → CameOf limits s n p came told t → t.paid ≤ budget
came_within limits s n p (Ok r) told t budget has few by = settles_within limits s n p r (check_of p r) told t budget refl has few by
came_within limits s n p (Err f) told t budget has few by = omega (arith, few, ap (λ (u : ProxyState). u.paid) by.1)

-- ---- what an item adds

settles_grows : (limits : Limits) (s : ProxyState) (n : ℕ) (p : Pending) (r : Received) (o : Option Refusal) (told : Told) (t : ProxyState) → SettlesBy limits s n p r o told t
    → (t.history ≡ s.history) ⊎ ((e : Entry) × IsTrue (is_settling e) × (t.history ≡ s.history ++ e ∷ []))
settles_grows limits s n p r (Some f) told t by = inl (ap (λ (u : ProxyState). u.history) by.1)
settles_grows limits s n p r None told t (inl by) = inr (settlement s.history s.time n p r, settles s.history s.time n p r, ap (λ (u : ProxyState). u.history) by.2)
settles_grows limits s n p r None told t (inr by) = inl (ap (λ (u : ProxyState). u.history) by.1)

pub came_grows : (limits : Limits) (s : ProxyState) (n : ℕ) (p : Pending) (came : Result Received Refusal) (told : Told) (t : ProxyState) → CameOf limits s n p came told t
    → (t.history ≡ s.history) ⊎ ((e : Entry) × IsTrue (is_settling e) × (t.history ≡ s.history ++ e ∷ []))
came_grows limits s n p (Ok r) told t by = settles_grows limits s n p r (check_of p r) told t by
came_grows limits s n p (Err f) told t by = inl (ap (λ (u : ProxyState). u.history) by.1)

-- nothing was added
grows_not : (s t : ProxyState) → t.history ≡ s.history → Grows s t
grows_not s t same = record { added = []; grown = same ∙ sym (append-nil s.history); one = tt }

pub one_settling : (e : Entry) → IsTrue (is_settling e) → IsTrue (is_request e || is_settling e)
one_settling e is = go (is_request e) is
  where
    go : (b : Bool) → IsTrue (is_settling e) → IsTrue (b || is_settling e)
    go true is' = refl
    go false is' = is'

pub settling_alone : (s t : ProxyState) → (t.history ≡ s.history) ⊎ ((e : Entry) × IsTrue (is_settling e) × (t.history ≡ s.history ++ e ∷ [])) → Grows s t
settling_alone s t (inl same) = grows_not s t same
settling_alone s t (inr (e, is, grown)) = record { added = e ∷ []; grown = grown; one = one_settling e is }

pub settling_after : (s t : ProxyState) (h : History) (f : Entry) → IsTrue (is_request f) → h ≡ s.history ++ f ∷ [] → (t.history ≡ h) ⊎ ((e : Entry) × IsTrue (is_settling e) × (t.history ≡ h ++ e ∷ [])) → Grows s t
settling_after s t h f is at (inl same) = record { added = f ∷ []; grown = same ∙ at; one = go (is_request f) is }
  where
    go : (b : Bool) → IsTrue b → IsTrue (b || is_settling f)
    go true x = refl
    go false x = absurd cc
settling_after s t h f is at (inr (e, settling, grown)) = record {
  added = f ∷ e ∷ [];
  grown = grown ∙ ap (λ (k : History). k ++ e ∷ []) at ∙ append_assoc s.history (f ∷ []) (e ∷ []);
  one = (is, settling);
}

pays_grows : (b : Bounds) (s : ProxyState) (target : List ℕ) (o : Result Payment Refusal) (told : Told) (t : ProxyState) → PaysBy b s target o told t → Grows s t
pays_grows b s target (Err f) told t by = grows_not s t (ap (λ (u : ProxyState). u.history) by.1)
pays_grows b s target (Ok (again n p)) told t by = settling_alone s t (came_grows b.limits (with_up s by.up) n p by.came told t by.then')
pays_grows b s target (Ok (anew o)) told t (inl by) =
    settling_after s t (s.history ++ get_entry b s.time target o ∷ []) (get_entry b s.time target o) refl refl
    (came_grows b.limits (with_up (with_entry s (get_entry b s.time target o)) by.1.up) (length s.history) (get_with b target o) by.1.came told t by.1.then')
pays_grows b s target (Ok (anew o)) told t (inr by) = grows_not s t (ap (λ (u : ProxyState). u.history) by.1)

pub item_grows : (b : Bounds) (s : ProxyState) (item : Item) (told : Told) (t : ProxyState) → Tells b s item told t → Grows s t
item_grows b s (request q closes) told t by = pays_grows b s q.target (payment_for b s q) told t by
item_grows b s (refused f closes) told t by = grows_not s t (ap (λ (u : ProxyState). u.history) by.1)

-- ---- what is told as paid for

pub settled_is : (r : Received) (price : ℕ) (bytes : List ℕ) → contents price bytes ≡ settled_told r → ((r.status == 200) ≡ true) × ((unwrap_or (price_of r) 0 ≡ price) × (r.contents ≡ bytes))
settled_is r price bytes is = go (r.status == 200) refl is
  where
    go : (b : Bool) → (r.status == 200) ≡ b → contents price bytes ≡ cond b (contents (unwrap_or (price_of r) 0) r.contents) (refusal (SiteRefused (refusal_number r.refusal))) → ((r.status == 200) ≡ true) × ((unwrap_or (price_of r) 0 ≡ price) × (r.contents ≡ bytes))
    go true ok e = let one : price ≡ unwrap_or (price_of r) 0 = cc in let two : bytes ≡ r.contents = cc in (ok, (sym one, sym two))
    go false other e = absurd cc

-- an entry that was not made pays for nothing
missed : (limits : Limits) (s : ProxyState) (e : Entry) (price : ℕ) (bytes : List ℕ) (t : ProxyState) → Misses limits s e (contents price bytes) t → IsPaidFor price bytes t
missed limits s e price bytes t (inl x, same) = absurd (let told = x.2 in cc)
missed limits s e price bytes t (inr wants, same) = absurd (let told = wants.1 in cc)

settles_paid : (limits : Limits) (s : ProxyState) (n : ℕ) (p : Pending) (r : Received) (o : Option Refusal) (price : ℕ) (bytes : List ℕ) (t : ProxyState) → check_of p r ≡ o → SettlesBy limits s n p r o (contents price bytes) t → IsPaidFor price bytes t
settles_paid limits s n p r (Some f) price bytes t is by = absurd cc
settles_paid limits s n p r None price bytes t is (inl by) =
    let told = settled_is r price bytes by.1 in
    let has = has_price p r is told.0 in
    let same : has.0 ≡ price = sym (ap (λ (o : Option ℕ). unwrap_or o 0) has.1) ∙ told.1.0 in
    record {
      before = s.history;
      n = n;
      p = p;
      r = r;
      passes = is;
      status = told.0;
      price' = has.1 ∙ ap (λ (k : ℕ). Some k) same;
      contents' = told.1.1;
      done = subst (λ (u : ProxyState). u.history ≡ s.history ++ settlement s.history u.time n p r ∷ []) (sym by.2) refl;
    }
settles_paid limits s n p r None price bytes t is (inr by) = missed limits s (settlement s.history s.time n p r) price bytes t by

came_paid : (limits : Limits) (s : ProxyState) (n : ℕ) (p : Pending) (came : Result Received Refusal) (price : ℕ) (bytes : List ℕ) (t : ProxyState) → CameOf limits s n p came (contents price bytes) t → IsPaidFor price bytes t
came_paid limits s n p (Ok r) price bytes t by = settles_paid limits s n p r (check_of p r) price bytes t refl by
came_paid limits s n p (Err f) price bytes t by = absurd (let e = by.0 in cc)

pays_paid : (b : Bounds) (s : ProxyState) (target : List ℕ) (o : Result Payment Refusal) (price : ℕ) (bytes : List ℕ) (t : ProxyState) → PaysBy b s target o (contents price bytes) t → IsPaidFor price bytes t
pays_paid b s target (Err f) price bytes t by = absurd (let e = by.0 in cc)
pays_paid b s target (Ok (again n p)) price bytes t by = came_paid b.limits (with_up s by.up) n p by.came price bytes t by.then'
pays_paid b s target (Ok (anew o)) price bytes t (inl by) = came_paid b.limits (with_up (with_entry s (get_entry b s.time target o)) by.1.up) (length s.history) (get_with b target o) by.1.came price bytes t by.1.then'
pays_paid b s target (Ok (anew o)) price bytes t (inr by) = missed b.limits s (get_entry b s.time target o) price bytes t by

pub item_paid : (b : Bounds) (s : ProxyState) (item : Item) (price : ℕ) (bytes : List ℕ) (t : ProxyState) → Tells b s item (contents price bytes) t → IsPaidFor price bytes t
item_paid b s (request q closes) price bytes t by = pays_paid b s q.target (payment_for b s q) price bytes t by
item_paid b s (refused f closes) price bytes t by = absurd (let e = by.0 in cc)

-- ---- what is paid in all

pub within_so : (budget paid : ℕ) (o : Result Payment Refusal) (p : Payment) → within_budget budget paid o ≡ Ok p → (o ≡ Ok p) × (paid + payment_value p ≤ budget)
within_so budget paid (Ok q) p is = go (nat_le (paid + payment_value q) budget) refl is
  where
    go : (b : Bool) → nat_le (paid + payment_value q) budget ≡ b → ◌≡◌ {A = Result Payment Refusal} (cond b (Ok q) (Err (OverBudget paid))) (Ok p) → (◌≡◌ {A = Result Payment Refusal} (Ok q) (Ok p)) × (paid + payment_value p ≤ budget)
    go true few e = let same : q ≡ p = cc in (e, subst (λ (x : Payment). paid + payment_value x ≤ budget) same (leb-true (paid + payment_value q) budget few))
    go false other e = absurd cc
within_so budget paid (Err f) p is = absurd cc

-- what pays, where something does
pub payment_so : (b : Bounds) (s : ProxyState) (q : Asked) (p : Payment) → payment_for b s q ≡ Ok p → (payment_by (kept_get s.history b.vendor q.target) (chosen s.history s.time b.vendor b.limit) ≡ Ok p) × (s.paid + payment_value p ≤ b.budget)
unfolding payment_for
payment_so b s q p is = go (is_plain q) is
  where
    go : (plain : Bool) → cond plain (within_budget b.budget s.paid (payment_by (kept_get s.history b.vendor q.target) (chosen s.history s.time b.vendor b.limit))) (Err NotPlain) ≡ Ok p
        → (payment_by (kept_get s.history b.vendor q.target) (chosen s.history s.time b.vendor b.limit) ≡ Ok p) × (s.paid + payment_value p ≤ b.budget)
    go true e = within_so b.budget s.paid (payment_by (kept_get s.history b.vendor q.target) (chosen s.history s.time b.vendor b.limit)) p e
    go false e = absurd cc

pub kept_so : (o : Option (ℕ × Pending)) (r : Result Offered Refusal) (n : ℕ) (p : Pending) → payment_by o r ≡ Ok (again n p) → o ≡ Some (n, p)
kept_so (Some (a, k)) r n p is = let one : a ≡ n = cc in let two : k ≡ p = cc in cc
kept_so None (Ok o) n p is = absurd cc
kept_so None (Err f) n p is = absurd cc

pub anew_so : (o : Option (ℕ × Pending)) (r : Result Offered Refusal) (x : Offered) → payment_by o r ≡ Ok (anew x) → r ≡ Ok x
anew_so (Some y) r x is = absurd cc
anew_so None (Ok o) x is = let same : o ≡ x = cc in ap (λ (z : Offered). Ok z) same
anew_so None (Err f) x is = absurd cc

pays_within : (b : Bounds) (s : ProxyState) (q : Asked) (o : Result Payment Refusal) (told : Told) (t : ProxyState) → IsWalletBook s.history → payment_for b s q ≡ o → s.paid ≤ b.budget → PaysBy b s q.target o told t → t.paid ≤ b.budget
pays_within b s q (Err f) told t book is few by = omega (arith, few, ap (λ (u : ProxyState). u.paid) by.1)
pays_within b s q (Ok (again n p)) told t book is few by =
    let so = payment_so b s q (again n p) is in
    came_within b.limits (with_up s by.up) n p by.came told t b.budget (get_pays s.history b.vendor q.target (n, p) book (kept_so _ _ n p so.0)) so.1 by.then'
pays_within b s q (Ok (anew o)) told t book is few (inl by) =
    let so = payment_so b s q (anew o) is in
    let choice = anew_so _ _ o so.0 in
    let piece = chosen_has s.history s.time b.vendor b.limit o choice in
    let value = chosen_value s.history s.time b.vendor b.limit o choice in
    came_within b.limits (with_up (with_entry s (get_entry b s.time q.target o)) by.1.up) (length s.history) (get_with b q.target o) by.1.came told t b.budget (ap (λ (x : Option Scrip). is_some x) piece)
    (omega (arith, so.1, value)) by.1.then'
pays_within b s q (Ok (anew o)) told t book is few (inr by) = omega (arith, few, ap (λ (u : ProxyState). u.paid) by.1)

pub item_within : (b : Bounds) (s : ProxyState) (item : Item) (told : Told) (t : ProxyState) → IsWalletBook s.history → Tells b s item told t → s.paid ≤ b.budget → t.paid ≤ b.budget
item_within b s (request q closes) told t book by few = pays_within b s q (payment_for b s q) told t book refl few by
item_within b s (refused f closes) told t book by few = omega (arith, few, ap (λ (u : ProxyState). u.paid) by.1)

-- ---- what is sent to the vendor

settles_up : (limits : Limits) (s : ProxyState) (n : ℕ) (p : Pending) (r : Received) (o : Option Refusal) (told : Told) (t : ProxyState) → SettlesBy limits s n p r o told t → t.up ≡ s.up
settles_up limits s n p r (Some f) told t by = ap (λ (u : ProxyState). u.up) by.1
settles_up limits s n p r None told t (inl by) = ap (λ (u : ProxyState). u.up) by.2
settles_up limits s n p r None told t (inr by) = ap (λ (u : ProxyState). u.up) by.1

pub came_up : (limits : Limits) (s : ProxyState) (n : ℕ) (p : Pending) (came : Result Received Refusal) (told : Told) (t : ProxyState) → CameOf limits s n p came told t → t.up ≡ s.up
came_up limits s n p (Ok r) told t by = settles_up limits s n p r (check_of p r) told t by
came_up limits s n p (Err f) told t by = ap (λ (u : ProxyState). u.up) by.1

-- the request stands where its Pend entry stood before the item, or is the first that it added
tried_up : (limits : Limits) (s u t : ProxyState) (n : ℕ) (p : Pending) (told : Told) → u.up ≡ s.up → pending_in u.history n ≡ Some p → (by : Tries limits u n p told t) → MovesUp s t
tried_up limits s u t n p told same kept by = inr (record {
  n = n;
  p = p;
  came = by.came;
  fetches = subst (λ (v : LinkView). Fetches (request_bytes p) by.came v t.up) same (subst (λ (v : LinkView). Fetches (request_bytes p) by.came u.up v) (sym (came_up limits (with_up u by.up) n p by.came told t by.then')) by.fetches);
  stands = go (came_grows limits (with_up u by.up) n p by.came told t by.then');
})
  where
    go : (t.history ≡ u.history) ⊎ ((e : Entry) × IsTrue (is_settling e) × (t.history ≡ u.history ++ e ∷ [])) → pending_in t.history n ≡ Some p
    go (inl e) = ap (λ (h : History). pending_in h n) e ∙ kept
    go (inr e) = ap (λ (h : History). pending_in h n) e.2 ∙ pending_before u.history (e.0 ∷ []) n p kept

pays_up : (b : Bounds) (s : ProxyState) (q : Asked) (o : Result Payment Refusal) (told : Told) (t : ProxyState) → payment_for b s q ≡ o → PaysBy b s q.target o told t → MovesUp s t
pays_up b s q (Err f) told t is by = inl (ap (λ (u : ProxyState). u.up) by.1)
pays_up b s q (Ok (again n p)) told t is by =
    tried_up b.limits s s t n p told refl (get_is s.history b.vendor q.target (n, p) (kept_so _ _ n p (payment_so b s q (again n p) is).0)).0 by
pays_up b s q (Ok (anew o)) told t is (inl by) =
    let e : Entry = get_entry b s.time q.target o in
    tried_up b.limits s (with_entry s e) t (length s.history) (get_with b q.target o) told refl (ap (option_and_then pending_of) (get_last s.history e)) by.1
pays_up b s q (Ok (anew o)) told t is (inr by) = inl (ap (λ (u : ProxyState). u.up) by.1)

pub item_up : (b : Bounds) (s : ProxyState) (item : Item) (told : Told) (t : ProxyState) → Tells b s item told t → MovesUp s t
item_up b s (request q closes) told t by = pays_up b s q (payment_for b s q) told t refl by
item_up b s (refused f closes) told t by = inl (ap (λ (u : ProxyState). u.up) by.1)
