-- What is sent to the vendor and told to the browser is asked for by the item.
use Rattle.std.proofs.Common.{◌≡◌, ◌⊎◌, inl, inr, ℕ, Bool, List, [], ◌∷◌, ◌++◌, length, refl, sym, ap, ◌∙◌, subst, Option, Some, None, unwrap_or, Result, Ok, Err}
use Rattle.std.specs.Prelude.{◌==◌, ◌&&◌, IsTrue, bytes_eq, option_and_then}
use Rattle.std.proofs.lemmas.Bool.{eqb-true, and_parts}
use Rattle.std.proofs.lemmas.Slice.Eq.{bytes_eq-Decides}
use Rattle.mc_outside.specs.LinkView.{LinkView}
use Rattle.mc_requests.specs.declared.limits.Limits.{Limits}
use Rattle.mc_requests.specs.declared.refusal.Refusal.{Refusal}
use Rattle.mc_requests.specs.Requests.{Asked}
use Rattle.mc_records.specs.Entry.{Entry}
use Rattle.ledger_model.specs.Histories.{History}
use Rattle.ledger_model.proofs.ListLaws.{found_passes}
use Rattle.millicent_http.specs.Received.{Received}
use Rattle.millicent_http.specs.Items.{request}
use Rattle.wallet_model.specs.Requests.{Pending, pending_in, pending_of, kept_requests, kept_get}
use Rattle.wallet_model.specs.Asks.{request_bytes}
use Rattle.wallet_model.specs.Settling.{check_of, settlement}
use Rattle.wallet_book.proofs.HoldingLaws.{get_last}
use Rattle.wallet_proxy.specs.Told.{Told, contents}
use Rattle.wallet_proxy.specs.Upstream.{Fetches}
use Rattle.wallet_proxy.specs.Proxy.{ProxyState, Bounds, Payment, again, anew, payment_for, get_entry, get_with, with_entry, with_up, Tries, CameOf, SettlesBy, PaysBy, Tells, Misses}
use Rattle.wallet_proxy.specs.Laws.{is_settling, IsGetOf, AsksOnlyFor, IsBroughtFor}
use Rattle.wallet_proxy.proofs.ChoiceLaws.{get_is, pending_before}
use Rattle.wallet_proxy.proofs.StepLaws.{came_grows, came_up, payment_so, kept_so, settled_is, has_price}

-- a kept get of a target is one
pub kept_of : (b : Bounds) (h : History) (target : List ℕ) (x : ℕ × Pending) → kept_get h b.vendor target ≡ Some x → IsGetOf b target x.1
kept_of b h target x is =
    let passes = found_passes (λ (y : ℕ × Pending). y.1.ask == 0 && (bytes_eq y.1.peer b.vendor && bytes_eq y.1.target target)) (kept_requests h) x is in
    let rest = and_parts (x.1.ask == 0) _ passes in
    let names = and_parts (bytes_eq x.1.peer b.vendor) _ rest.1 in
    record {
      get = eqb-true x.1.ask 0 rest.0;
      peer' = (bytes_eq-Decides x.1.peer b.vendor).0 names.0;
      target' = (bytes_eq-Decides x.1.target target).0 names.1;
    }

-- it stands behind the item
still_stands : (limits : Limits) (u t : ProxyState) (n : ℕ) (p : Pending) (told : Told) → pending_in u.history n ≡ Some p → (by : Tries limits u n p told t) → pending_in t.history n ≡ Some p
still_stands limits u t n p told kept by = go (came_grows limits (with_up u by.up) n p by.came told t by.then')
  where
    go : (t.history ≡ u.history) ⊎ ((e : Entry) × IsTrue (is_settling e) × (t.history ≡ u.history ++ e ∷ [])) → pending_in t.history n ≡ Some p
    go (inl e) = ap (λ (h : History). pending_in h n) e ∙ kept
    go (inr e) = ap (λ (h : History). pending_in h n) e.2 ∙ pending_before u.history (e.0 ∷ []) n p kept

fetched : (limits : Limits) (s u t : ProxyState) (n : ℕ) (p : Pending) (told : Told) → u.up ≡ s.up → (by : Tries limits u n p told t) → Fetches (request_bytes p) by.came s.up t.up
fetched limits s u t n p told same by =
    subst (λ (v : LinkView). Fetches (request_bytes p) by.came v t.up) same (subst (λ (v : LinkView). Fetches (request_bytes p) by.came u.up v) (sym (came_up limits (with_up u by.up) n p by.came told t by.then')) by.fetches)

asks_for : (b : Bounds) (limits : Limits) (target : List ℕ) (s u t : ProxyState) (n : ℕ) (p : Pending) (told : Told) → u.up ≡ s.up → pending_in u.history n ≡ Some p → IsGetOf b target p → Tries limits u n p told t → AsksOnlyFor b target s t
asks_for b limits target s u t n p told same kept of by =
    record { n = n; p = p; of = of; stands = still_stands limits u t n p told kept by; came = by.came; fetches = fetched limits s u t n p told same by }

pays_for : (b : Bounds) (s : ProxyState) (q : Asked) (o : Result Payment Refusal) (told : Told) (t : ProxyState) → payment_for b s q ≡ o → PaysBy b s q.target o told t → (t.up ≡ s.up) ⊎ AsksOnlyFor b q.target s t
pays_for b s q (Err f) told t is by = inl (ap (λ (u : ProxyState). u.up) by.1)
pays_for b s q (Ok (again n p)) told t is by =
    let kept = kept_so _ _ n p (payment_so b s q (again n p) is).0 in
    inr (asks_for b b.limits q.target s s t n p told refl (get_is s.history b.vendor q.target (n, p) kept).0 (kept_of b s.history q.target (n, p) kept) by)
pays_for b s q (Ok (anew o)) told t is (inl by) =
    let e : Entry = get_entry b s.time q.target o in
    inr (asks_for b b.limits q.target s (with_entry s e) t (length s.history) (get_with b q.target o) told refl (ap (option_and_then pending_of) (get_last s.history e)) (record { get = refl; peer' = refl; target' = refl }) by.1)
pays_for b s q (Ok (anew o)) told t is (inr by) = inl (ap (λ (u : ProxyState). u.up) by.1)

pub item_asks_for : (b : Bounds) (s : ProxyState) (q : Asked) (closes : Bool) (told : Told) (t : ProxyState) → Tells b s (request q closes) told t → (t.up ≡ s.up) ⊎ AsksOnlyFor b q.target s t
item_asks_for b s q closes told t by = pays_for b s q (payment_for b s q) told t refl by

-- ---- what is told as paid for

missed_none : {A : Type 0} (limits : Limits) (s : ProxyState) (e : Entry) (price : ℕ) (bytes : List ℕ) (t : ProxyState) → Misses limits s e (contents price bytes) t → A
missed_none limits s e price bytes t (inl x, same) = absurd (let told = x.2 in cc)
missed_none limits s e price bytes t (inr wants, same) = absurd (let told = wants.1 in cc)

brought : (b : Bounds) (limits : Limits) (target : List ℕ) (s u t : ProxyState) (n : ℕ) (p : Pending) (price : ℕ) (bytes : List ℕ) → u.up ≡ s.up → pending_in u.history n ≡ Some p → IsGetOf b target p
    → Tries limits u n p (contents price bytes) t → IsBroughtFor b target price bytes s t
brought b limits target s u t n p price bytes same kept of by =
    go by.came (fetched limits s u t n p (contents price bytes) same by) by.then'
  where
    stands : pending_in t.history n ≡ Some p
    stands = still_stands limits u t n p (contents price bytes) kept by

    settled : (r : Received) (o : Option Refusal) → Fetches (request_bytes p) (Ok r) s.up t.up → check_of p r ≡ o → SettlesBy limits (with_up u by.up) n p r o (contents price bytes) t → IsBroughtFor b target price bytes s t
    settled r (Some f) fetches is then' = absurd cc
    settled r None fetches is (inl then') =
        let told = settled_is r price bytes then'.1 in
        let has = has_price p r is told.0 in
        let one : has.0 ≡ price = sym (ap (λ (o : Option ℕ). unwrap_or o 0) has.1) ∙ told.1.0 in
        record { n = n; p = p; of = of; stands = stands; r = r; fetches = fetches; passes = is; status = told.0; price' = has.1 ∙ ap (λ (k : ℕ). Some k) one; contents' = told.1.1 }
    settled r None fetches is (inr then') = missed_none limits (with_up u by.up) (settlement u.history u.time n p r) price bytes t then'

    go : (came : Result Received Refusal) → Fetches (request_bytes p) came s.up t.up → CameOf limits (with_up u by.up) n p came (contents price bytes) t → IsBroughtFor b target price bytes s t
    go (Ok r) fetches then' = settled r (check_of p r) fetches refl then'
    go (Err f) fetches then' = absurd (let e = then'.0 in cc)

pays_brought : (b : Bounds) (s : ProxyState) (q : Asked) (o : Result Payment Refusal) (price : ℕ) (bytes : List ℕ) (t : ProxyState) → payment_for b s q ≡ o → PaysBy b s q.target o (contents price bytes) t → IsBroughtFor b q.target price bytes s t
pays_brought b s q (Err f) price bytes t is by = absurd (let e = by.0 in cc)
pays_brought b s q (Ok (again n p)) price bytes t is by =
    let kept = kept_so _ _ n p (payment_so b s q (again n p) is).0 in
    brought b b.limits q.target s s t n p price bytes refl (get_is s.history b.vendor q.target (n, p) kept).0 (kept_of b s.history q.target (n, p) kept) by
pays_brought b s q (Ok (anew o)) price bytes t is (inl by) =
    let e : Entry = get_entry b s.time q.target o in
    brought b b.limits q.target s (with_entry s e) t (length s.history) (get_with b q.target o) price bytes refl (ap (option_and_then pending_of) (get_last s.history e)) (record { get = refl; peer' = refl; target' = refl }) by.1
pays_brought b s q (Ok (anew o)) price bytes t is (inr by) = missed_none b.limits s (get_entry b s.time q.target o) price bytes t by

pub item_brought : (b : Bounds) (s : ProxyState) (q : Asked) (closes : Bool) (price : ℕ) (bytes : List ℕ) (t : ProxyState) → Tells b s (request q closes) (contents price bytes) t → IsBroughtFor b q.target price bytes s t
item_brought b s q closes price bytes t by = pays_brought b s q (payment_for b s q) price bytes t refl by
