-- A target that is asked for again.
use Rattle.std.proofs.Common.{◌≡◌, ◌⊎◌, inl, inr, ℕ, ◌+◌, Bool, true, false, cond, List, [], ◌∷◌, ◌++◌, length, refl, sym, ap, subst, ◌∙◌, Option, Some, None, unwrap_or, Result, Ok, Err, find}
use Rattle.std.specs.Prelude.{◌==◌, ◌&&◌, nat_le, IsTrue, bytes_eq}
use Rattle.std.proofs.lemmas.Slice.Eq.{bytes_eq-Decides}
use Rattle.mc_requests.specs.declared.limits.Limits.{Limits}
use Rattle.mc_requests.specs.declared.refusal.Refusal.{Refusal}
use Rattle.mc_requests.specs.declared.refusal.Refusal.TheVariants.{NotPlain, OverBudget, NoFunds, NoMemory, SiteRefused, JournalFull}
use Rattle.mc_records.specs.Entry.{Entry}
use Rattle.mc_requests.specs.Requests.{Asked}
use Rattle.ledger_model.specs.Histories.{History}
use Rattle.ledger_model.specs.Lines.{Refuse, refused_if, ◌>>=◌}
use Rattle.millicent_http.specs.Items.{request}
use Rattle.millicent_http.specs.Received.{Received}
use Rattle.wallet_model.specs.Requests.{Pending, kept_get, kept_requests}
use Rattle.wallet_model.specs.Asks.{Offered, fit_for, chosen, chosen_of, greatest_value}
use Rattle.wallet_model.specs.Settling.{check_of, settlement, price_of, refusal_number}
use Rattle.wallet_model.specs.Follows.{IsWalletBook}
use Rattle.wallet_model.proofs.KeptLaws.{kept_pend}
use Rattle.wallet_model.proofs.PaidLaws.{book_next}
use Rattle.wallet_proxy.specs.Told.{Told, refusal, contents}
use Rattle.wallet_proxy.specs.Proxy.{ProxyState, Bounds, Payment, again, anew, raised, payment_value, payment_by, within_budget, payment_for, is_plain, get_with, get_entry, settled_told, with_entry, with_up, Misses, SettlesBy, CameOf, PaysBy, Tells}
use Rattle.wallet_proxy.specs.Laws.{is_request, is_settling, Grows, StaysKept, IsKept, SettlesAtMost}
use Rattle.wallet_proxy.proofs.StepLaws.{payment_so, kept_so, settles, settling_alone, settling_after}

-- ---- a new request is the oldest of its target, where none was kept

find_end : {X : Type 0} (test : X → Bool) (xs : List X) (x : X) → find test xs ≡ None → test x ≡ true → find test (xs ++ x ∷ []) ≡ Some x
find_end test [] x none is = rw is refl
find_end test (y ∷ ys) x none is = go (test y) none (find_end test ys x)
  where
    go : (b : Bool) → cond b (Some y) (find test ys) ≡ None → (find test ys ≡ None → test x ≡ true → find test (ys ++ x ∷ []) ≡ Some x) → cond b (Some y) (find test (ys ++ x ∷ [])) ≡ Some x
    go true none rest = absurd cc
    go false none rest = rest none is

entered_get : (b : Bounds) (h : History) (t : ℕ) (target : List ℕ) (o : Offered) → IsWalletBook h → kept_get h b.vendor target ≡ None
    → kept_get (h ++ get_entry b t target o ∷ []) b.vendor target ≡ Some (length h, get_with b target o)
entered_get b h t target o book none =
    let passes : (bytes_eq b.vendor b.vendor && bytes_eq target target) ≡ true = rw ((bytes_eq-Decides b.vendor b.vendor).1 refl, (bytes_eq-Decides target target).1 refl) refl in
    ap (find (λ x. x.1.ask == 0 && (bytes_eq x.1.peer b.vendor && bytes_eq x.1.target target))) (kept_pend h t 0 b.vendor target (Some o.holding.text) o.holding.secret (book_next h book))
    ∙ find_end (λ x. x.1.ask == 0 && (bytes_eq x.1.peer b.vendor && bytes_eq x.1.target target)) (kept_requests h) (length h, get_with b target o) none passes

-- ---- what is told where nothing is sent is told of no request that stays kept

no_choice : (fit : List Offered) (o : Option Offered) (f : Refusal) → chosen_of fit o ≡ Err f → StaysKept f → ⊥
no_choice fit None f is stays = let same : NoFunds (greatest_value fit) ≡ f = cc in subst StaysKept (sym same) stays
no_choice fit (Some o) f is stays = absurd cc

no_choice_of : (h : History) (t : ℕ) (vendor : List ℕ) (limit : ℕ) (f : Refusal) → chosen h t vendor limit ≡ Err f → StaysKept f → ⊥
no_choice_of h t vendor limit f is stays = no_choice (fit_for h t vendor) _ f is stays

no_payment : (o : Option (ℕ × Pending)) (r : Result Offered Refusal) (f : Refusal) → payment_by o r ≡ Err f → r ≡ Err f
no_payment (Some x) r f is = absurd cc
no_payment None (Ok o) f is = absurd cc
no_payment None (Err g) f is = let same : g ≡ f = cc in ap (λ (k : Refusal). Err k) same

over_budget : (budget paid : ℕ) (o : Result Payment Refusal) (f : Refusal) → within_budget budget paid o ≡ Err f → (OverBudget paid ≡ f) ⊎ (o ≡ Err f)
over_budget budget paid (Ok p) f is = go (nat_le (paid + payment_value p) budget) is
  where
    go : (b : Bool) → ◌≡◌ {A = Result Payment Refusal} (cond b (Ok p) (Err (OverBudget paid))) (Err f) → (OverBudget paid ≡ f) ⊎ (◌≡◌ {A = Result Payment Refusal} (Ok p) (Err f))
    go true e = absurd cc
    go false e = let same : OverBudget paid ≡ f = cc in inl same
over_budget budget paid (Err g) f is = inr is

untold : (b : Bounds) (s : ProxyState) (q : Asked) (f : Refusal) → payment_for b s q ≡ Err f → StaysKept f → ⊥
unfolding payment_for
untold b s q f is stays = go (is_plain q) is
  where
    by : (OverBudget s.paid ≡ f) ⊎ (payment_by (kept_get s.history b.vendor q.target) (chosen s.history s.time b.vendor b.limit) ≡ Err f) → ⊥
    by (inl same) = subst StaysKept (sym same) stays
    by (inr none) = no_choice_of s.history s.time b.vendor b.limit f (no_payment _ _ f none) stays

    go : (plain : Bool) → cond plain (within_budget b.budget s.paid (payment_by (kept_get s.history b.vendor q.target) (chosen s.history s.time b.vendor b.limit))) (Err NotPlain) ≡ Err f → ⊥
    go true e = by (over_budget b.budget s.paid _ f e)
    go false e = let same : NotPlain ≡ f = cc in subst StaysKept (sym same) stays

-- nor is what is told of an entry that was not made
full_alone : (e : Entry) (b : Bool) (n m : ℕ) (f : Refusal) → (refused_if b (JournalFull n m) >>= λ u. Ok e) ≡ Err (Refuse f) → StaysKept f → ⊥
full_alone e true n m f is stays = let same : JournalFull n m ≡ f = cc in subst StaysKept (sym same) stays
full_alone e false n m f is stays = absurd cc

refusal_is : (f g : Refusal) → refusal f ≡ refusal g → f ≡ g
refusal_is f g is = cc

missed_untold : (limits : Limits) (s : ProxyState) (e : Entry) (f : Refusal) (t : ProxyState) → StaysKept f → Misses limits s e (refusal f) t → ⊥
missed_untold limits s e f t stays (inl x, same) = full_alone e _ _ _ f (x.1 ∙ ap (λ (g : Refusal). Err (Refuse g)) (sym (refusal_is f x.0 x.2))) stays
missed_untold limits s e f t stays (inr wants, same) = subst StaysKept (refusal_is f NoMemory wants.1) stays

settled_untold : (r : Received) (f : Refusal) → refusal f ≡ settled_told r → StaysKept f → ⊥
settled_untold r f is stays = go (r.status == 200) is
  where
    go : (b : Bool) → refusal f ≡ cond b (contents (unwrap_or (price_of r) 0) r.contents) (refusal (SiteRefused (refusal_number r.refusal))) → ⊥
    go true e = absurd cc
    go false e = subst StaysKept (refusal_is f (SiteRefused (refusal_number r.refusal)) e) stays

-- ---- where a request stays kept, a link to the vendor was used and nothing else was done

settles_stays : (limits : Limits) (s : ProxyState) (n : ℕ) (p : Pending) (r : Received) (o : Option Refusal) (f : Refusal) (t : ProxyState) → StaysKept f → SettlesBy limits s n p r o (refusal f) t → t ≡ s
settles_stays limits s n p r (Some g) f t stays by = by.1
settles_stays limits s n p r None f t stays (inl by) = absurd (settled_untold r f by.1 stays)
settles_stays limits s n p r None f t stays (inr by) = by.1

came_stays : (limits : Limits) (s : ProxyState) (n : ℕ) (p : Pending) (came : Result Received Refusal) (f : Refusal) (t : ProxyState) → StaysKept f → CameOf limits s n p came (refusal f) t → t ≡ s
came_stays limits s n p (Ok r) f t stays by = settles_stays limits s n p r (check_of p r) f t stays by
came_stays limits s n p (Err g) f t stays by = by.1

anew_none : (o : Option (ℕ × Pending)) (r : Result Offered Refusal) (x : Offered) → payment_by o r ≡ Ok (anew x) → o ≡ None
anew_none (Some y) r x is = absurd cc
anew_none None r x is = refl

-- the history is the same, or has one request more
abbrev Entered : ProxyState → ProxyState → Type 0
Entered s t = (t.history ≡ s.history) ⊎ ((e : Entry) × IsTrue (is_request e) × (t.history ≡ s.history ++ e ∷ []))

pays_stays : (b : Bounds) (s : ProxyState) (q : Asked) (o : Result Payment Refusal) (f : Refusal) (t : ProxyState) → IsWalletBook s.history → StaysKept f → payment_for b s q ≡ o → PaysBy b s q.target o (refusal f) t
    → IsKept b q.target s t × Entered s t
pays_stays b s q (Err g) f t book stays is by = absurd (untold b s q f (is ∙ ap (λ (k : Refusal). Err k) (sym (refusal_is f g by.0))) stays)
pays_stays b s q (Ok (again n p)) f t book stays is by =
    let same : t ≡ with_up s by.up = came_stays b.limits (with_up s by.up) n p by.came f t stays by.then' in
    let h : t.history ≡ s.history = ap (λ (u : ProxyState). u.history) same in (
      record { request = (n, p); kept = ap (λ (k : History). kept_get k b.vendor q.target) h ∙ kept_so _ _ n p (payment_so b s q (again n p) is).0; paid' = ap (λ (u : ProxyState). u.paid) same },
      inl h,
    )
pays_stays b s q (Ok (anew o)) f t book stays is (inl by) =
    let e : Entry = get_entry b s.time q.target o in
    let same : t ≡ with_up (with_entry s e) by.1.up = came_stays b.limits (with_up (with_entry s e) by.1.up) (length s.history) (get_with b q.target o) by.1.came f t stays by.1.then' in
    let h : t.history ≡ s.history ++ e ∷ [] = ap (λ (u : ProxyState). u.history) same in (
      record {
        request = (length s.history, get_with b q.target o);
        kept = ap (λ (k : History). kept_get k b.vendor q.target) h ∙ entered_get b s.history s.time q.target o book (anew_none _ _ o (payment_so b s q (anew o) is).0);
        paid' = ap (λ (u : ProxyState). u.paid) same;
      },
      inr (e, refl, h),
    )
pays_stays b s q (Ok (anew o)) f t book stays is (inr by) = absurd (missed_untold b.limits s (get_entry b s.time q.target o) f t stays by)

stays_so : (b : Bounds) (s : ProxyState) (q : Asked) (closes : Bool) (f : Refusal) (t : ProxyState) → IsWalletBook s.history → StaysKept f → Tells b s (request q closes) (refusal f) t → IsKept b q.target s t × Entered s t
stays_so b s q closes f t book stays by = pays_stays b s q (payment_for b s q) f t book stays refl by

pub item_stays : (b : Bounds) (s : ProxyState) (q : Asked) (closes : Bool) (f : Refusal) (t : ProxyState) → IsWalletBook s.history → StaysKept f → Tells b s (request q closes) (refusal f) t → IsKept b q.target s t
item_stays b s q closes f t book stays by = (stays_so b s q closes f t book stays by).0

-- ---- what is kept is tried again, and settled at most

settles_most : (limits : Limits) (s : ProxyState) (n : ℕ) (p : Pending) (r : Received) (o : Option Refusal) (told : Told) (t : ProxyState) → check_of p r ≡ o → SettlesBy limits s n p r o told t → SettlesAtMost n p s t
settles_most limits s n p r (Some f) told t is by = inl (ap (λ (u : ProxyState). u.history) by.1)
settles_most limits s n p r None told t is (inl by) = inr (r, is, ap (λ (u : ProxyState). u.history) by.2)
settles_most limits s n p r None told t is (inr by) = inl (ap (λ (u : ProxyState). u.history) by.1)

came_most : (limits : Limits) (s : ProxyState) (n : ℕ) (p : Pending) (came : Result Received Refusal) (told : Told) (t : ProxyState) → CameOf limits s n p came told t → SettlesAtMost n p s t
came_most limits s n p (Ok r) told t by = settles_most limits s n p r (check_of p r) told t refl by
came_most limits s n p (Err f) told t by = inl (ap (λ (u : ProxyState). u.history) by.1)

not_anew : (o : Option (ℕ × Pending)) (r : Result Offered Refusal) (x : ℕ × Pending) (y : Offered) → o ≡ Some x → payment_by o r ≡ Ok (anew y) → ⊥
not_anew (Some z) r x y some is = cc
not_anew None r x y some is = cc

pays_most : (b : Bounds) (s : ProxyState) (q : Asked) (o : Result Payment Refusal) (x : ℕ × Pending) (told : Told) (t : ProxyState) → kept_get s.history b.vendor q.target ≡ Some x → payment_for b s q ≡ o → PaysBy b s q.target o told t → SettlesAtMost x.0 x.1 s t
pays_most b s q (Err f) x told t kept is by = inl (ap (λ (u : ProxyState). u.history) by.1)
pays_most b s q (Ok (again n p)) x told t kept is by =
    let found : Some (n, p) ≡ Some x = sym (kept_so _ _ n p (payment_so b s q (again n p) is).0) ∙ kept in
    let same : (n, p) ≡ x = cc in
    subst (λ (y : ℕ × Pending). SettlesAtMost y.0 y.1 s t) same (came_most b.limits (with_up s by.up) n p by.came told t by.then')
pays_most b s q (Ok (anew o)) x told t kept is by = absurd (not_anew _ _ x o kept (payment_so b s q (anew o) is).0)

pub item_most : (b : Bounds) (s : ProxyState) (q : Asked) (closes : Bool) (x : ℕ × Pending) (told : Told) (t : ProxyState) → kept_get s.history b.vendor q.target ≡ Some x → Tells b s (request q closes) told t → SettlesAtMost x.0 x.1 s t
item_most b s q closes x told t kept by = pays_most b s q (payment_for b s q) x told t kept refl by

-- ---- both

pub item_once : (b : Bounds) (s t u : ProxyState) (q r : Asked) (closes last : Bool) (f : Refusal) (told : Told) (reading : ℕ) → IsWalletBook s.history → StaysKept f → r.target ≡ q.target → Tells b s (request q closes) (refusal f) t
    → Tells b (raised t reading) (request r last) told u → Grows s u
item_once b s t u q r closes last f told reading book stays same first second =
    let so = stays_so b s q closes f t book stays first in
    let kept : kept_get t.history b.vendor r.target ≡ Some so.0.request = ap (kept_get t.history b.vendor) same ∙ so.0.kept in
    both so.0.request.0 so.0.request.1 so.1 (item_most b (raised t reading) r last so.0.request told u kept second)
  where
    one : (n : ℕ) (p : Pending) → SettlesAtMost n p (raised t reading) u → (u.history ≡ t.history) ⊎ ((e : Entry) × IsTrue (is_settling e) × (u.history ≡ t.history ++ e ∷ []))
    one n p (inl is) = inl is
    one n p (inr (z, passes, grown)) = inr (settlement t.history (raised t reading).time n p z, settles t.history (raised t reading).time n p z, grown)

    both : (n : ℕ) (p : Pending) → Entered s t → SettlesAtMost n p (raised t reading) u → Grows s u
    both n p (inl h) most = settling_alone s u (from h (one n p most))
      where
        from : t.history ≡ s.history → (u.history ≡ t.history) ⊎ ((e : Entry) × IsTrue (is_settling e) × (u.history ≡ t.history ++ e ∷ [])) → (u.history ≡ s.history) ⊎ ((e : Entry) × IsTrue (is_settling e) × (u.history ≡ s.history ++ e ∷ []))
        from is (inl x) = inl (x ∙ is)
        from is (inr x) = inr (x.0, x.1, x.2 ∙ ap (λ (k : History). k ++ x.0 ∷ []) is)
    both n p (inr x) most = settling_after s u t.history x.0 x.1 x.2 (one n p most)
