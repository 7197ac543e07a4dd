-- What is paid, and what whole runs add.
use Rattle.std.proofs.Common.{◌≡◌, inl, inr, ℕ, ◌+◌, ◌≤◌, Bool, true, false, cond, List, [], ◌∷◌, ◌++◌, length, count_by, refl, sym, ap, ◌∙◌, append_assoc, append-nil, arith, Option, Some, None, unwrap_or, Result, Ok, Err}
use Rattle.std.specs.Prelude.{◌==◌, ◌||◌, IsTrue}
use Rattle.std.proofs.lemmas.List.{length-append}
use Rattle.mc_requests.specs.declared.limits.Limits.{Limits}
use Rattle.mc_requests.specs.declared.refusal.Refusal.{Refusal}
use Rattle.mc_records.specs.Entry.{Entry, Done, Refused}
use Rattle.ledger_model.specs.Histories.{History}
use Rattle.ledger_model.proofs.ListLaws.{counts_cons, counts_append, sum_snoc}
use Rattle.millicent_http.specs.Items.{Item, request, refused}
use Rattle.millicent_http.specs.Steps.{Did, Run, state_after}
use Rattle.millicent_http.specs.Received.{Received}
use Rattle.wallet_model.specs.Requests.{Pending}
use Rattle.wallet_model.specs.Settling.{check_of, settlement, done_entry, change_came, price_of, refusal_number}
use Rattle.wallet_model.specs.Holdings.{texts_came}
use Rattle.wallet_proxy.specs.Told.{Told}
use Rattle.wallet_proxy.specs.Proxy.{ProxyState, Bounds, Payment, again, anew, raised, get_with, get_entry, paid_by, with_entry, with_up, SettlesBy, CameOf, PaysBy, payment_for, Tells, ProxyStep}
use Rattle.wallet_proxy.specs.Laws.{is_request, is_settling, IsOneGet, Grows, price_told, spent, PaysAsBooked, Keeps}
use Rattle.wallet_proxy.proofs.StepLaws.{item_grows}

-- ---- an entry and its price

pub settlement_price : (h : History) (t n : ℕ) (p : Pending) (r : Received) → price_told (settlement h t n p r) ≡ paid_by r
unfolding settlement
settlement_price h t n p r = go (r.status == 200)
  where
    go : (b : Bool) → price_told (cond b (done_entry h t n p r (change_came (texts_came h) r.change)) (Refused t n (refusal_number r.refusal))) ≡ cond b (unwrap_or (price_of r) 0) 0
    go true = refl
    go false = refl

unpaid : (s t : ProxyState) → t.history ≡ s.history → t.paid ≡ s.paid → PaysAsBooked s t
unpaid s t same paid = omega (arith, ap spent same, paid)

unchanged : (s t : ProxyState) → t ≡ s → PaysAsBooked s t
unchanged s t is = unpaid s t (ap (λ (u : ProxyState). u.history) is) (ap (λ (u : ProxyState). u.paid) is)

one_more : (s t : ProxyState) (e : Entry) → t.history ≡ s.history ++ e ∷ [] → t.paid ≡ s.paid + price_told e → PaysAsBooked s t
one_more s t e grown paid = omega (arith, paid, ap spent grown, sum_snoc price_told s.history e)

-- ---- an item

settles_cost : (limits : Limits) (s : ProxyState) (n : ℕ) (p : Pending) (r : Received) (o : Option Refusal) (told : Told) (t : ProxyState) → SettlesBy limits s n p r o told t → PaysAsBooked s t
settles_cost limits s n p r (Some f) told t by = unchanged s t by.1
settles_cost limits s n p r None told t (inl by) =
    one_more s t (settlement s.history s.time n p r) (ap (λ (u : ProxyState). u.history) by.2)
    (ap (λ (u : ProxyState). u.paid) by.2 ∙ ap (λ (k : ℕ). s.paid + k) (sym (settlement_price s.history s.time n p r)))
settles_cost limits s n p r None told t (inr by) = unchanged s t by.1

came_cost : (limits : Limits) (s : ProxyState) (n : ℕ) (p : Pending) (came : Result Received Refusal) (told : Told) (t : ProxyState) → CameOf limits s n p came told t → PaysAsBooked s t
came_cost limits s n p (Ok r) told t by = settles_cost limits s n p r (check_of p r) told t by
came_cost limits s n p (Err f) told t by = unchanged s t by.1

pays_cost : (b : Bounds) (s : ProxyState) (target : List ℕ) (o : Result Payment Refusal) (told : Told) (t : ProxyState) → PaysBy b s target o told t → PaysAsBooked s t
pays_cost b s target (Err f) told t by = unchanged s t by.1
pays_cost b s target (Ok (again n p)) told t by = came_cost b.limits (with_up s by.up) n p by.came told t by.then'
pays_cost b s target (Ok (anew o)) told t (inl by) =
    let e : Entry = get_entry b s.time target o in
    let later : PaysAsBooked (with_entry s e) t = came_cost b.limits (with_up (with_entry s e) by.1.up) (length s.history) (get_with b target o) by.1.came told t by.1.then' in
    omega (arith, later, sum_snoc price_told s.history e)
pays_cost b s target (Ok (anew o)) told t (inr by) = unchanged s t by.1

pub item_cost : (b : Bounds) (s : ProxyState) (item : Item) (told : Told) (t : ProxyState) → Tells b s item told t → PaysAsBooked s t
item_cost b s (request q closes) told t by = pays_cost b s q.target (payment_for b s q) told t by
item_cost b s (refused f closes) told t by = unchanged s t by.1

-- ---- a run

pub run_cost : (b : Bounds) (s : ProxyState) (items : List Item) (readings : List ℕ) (steps : List (Did ProxyState)) → Run (ProxyStep b) s items readings steps → PaysAsBooked s (state_after s steps)
run_cost b s [] [] [] ran = refl
run_cost b s [] [] (d ∷ ds) ran = absurd ran
run_cost b s [] (reading ∷ readings) steps ran = absurd ran
run_cost b s (item ∷ items) [] steps ran = absurd ran
run_cost b s (item ∷ items) (reading ∷ readings) [] ran = absurd ran
run_cost b s (item ∷ items) (reading ∷ readings) (d ∷ ds) ran =
    let first : PaysAsBooked (raised s reading) d.after = item_cost b (raised s reading) item ran.0.0 d.after ran.0.1 in
    let rest : PaysAsBooked d.after (state_after d.after ds) = run_cost b d.after items readings ds ran.1 in
    omega (arith, first, rest)

-- no entry is both
apart : (e : Entry) → is_settling e ≡ true → is_request e ≡ false
apart (Done m n price change got) is = refl
apart (Refused m n refusal) is = refl
apart e is = absurd (cc is)

-- at most one request and one settlement are so counted
few_one : (added : List Entry) → IsOneGet added → (count_by is_request added ≤ 1) × (count_by is_settling added ≤ 1) × (length added ≤ count_by is_request added + count_by is_settling added)
few_one [] one = (omega arith, omega arith, omega arith)
few_one (e ∷ []) one = go (is_request e) (is_settling e) one (counts_cons is_request e []) (counts_cons is_settling e [])
  where
    go : (a b : Bool) → IsTrue (a || b) → count_by is_request (e ∷ []) ≡ cond a 1 0 + 0 → count_by is_settling (e ∷ []) ≡ cond b 1 0 + 0
        → (count_by is_request (e ∷ []) ≤ 1) × (count_by is_settling (e ∷ []) ≤ 1) × (1 ≤ count_by is_request (e ∷ []) + count_by is_settling (e ∷ []))
    go true true is x y = (omega (arith, x), omega (arith, y), omega (arith, x, y))
    go true false is x y = (omega (arith, x), omega (arith, y), omega (arith, x, y))
    go false true is x y = (omega (arith, x), omega (arith, y), omega (arith, x, y))
    go false false is x y = absurd cc
few_one (e ∷ f ∷ []) one =
    go (is_request e) (is_settling e) (is_request f) (is_settling f) one.0 one.1 (λ is. apart e is) (λ is. apart f is) (counts_cons is_request e (f ∷ [])) (counts_cons is_request f []) (counts_cons is_settling e (f ∷ [])) (counts_cons is_settling f [])
  where
    go : (a b c d : Bool) → IsTrue a → IsTrue d → (b ≡ true → a ≡ false) → (d ≡ true → c ≡ false) → count_by is_request (e ∷ f ∷ []) ≡ cond a 1 0 + count_by is_request (f ∷ []) → count_by is_request (f ∷ []) ≡ cond c 1 0 + 0
        → count_by is_settling (e ∷ f ∷ []) ≡ cond b 1 0 + count_by is_settling (f ∷ []) → count_by is_settling (f ∷ []) ≡ cond d 1 0 + 0
        → (count_by is_request (e ∷ f ∷ []) ≤ 1) × (count_by is_settling (e ∷ f ∷ []) ≤ 1) × (2 ≤ count_by is_request (e ∷ f ∷ []) + count_by is_settling (e ∷ f ∷ []))
    go true false false true x y p q u v w z = (omega (arith, u, v), omega (arith, w, z), omega (arith, u, v, w, z))
    go true true c d x y p q u v w z = absurd (let no = p refl in cc)
    go true false true true x y p q u v w z = absurd (let no = q refl in cc)
    go true false c false x y p q u v w z = absurd cc
    go false b c d x y p q u v w z = absurd cc
few_one (e ∷ f ∷ g ∷ more) one = absurd one

pub run_keeps : (b : Bounds) (s : ProxyState) (items : List Item) (readings : List ℕ) (steps : List (Did ProxyState)) → Run (ProxyStep b) s items readings steps → Keeps (length items) s (state_after s steps)
run_keeps b s [] [] [] ran = record { added = []; grown = sym (append-nil s.history); requests = omega arith; settlements = omega arith; others = omega arith }
run_keeps b s [] [] (d ∷ ds) ran = absurd ran
run_keeps b s [] (reading ∷ readings) steps ran = absurd ran
run_keeps b s (item ∷ items) [] steps ran = absurd ran
run_keeps b s (item ∷ items) (reading ∷ readings) [] ran = absurd ran
run_keeps b s (item ∷ items) (reading ∷ readings) (d ∷ ds) ran =
    let first : Grows (raised s reading) d.after = item_grows b (raised s reading) item ran.0.0 d.after ran.0.1 in
    let rest : Keeps (length items) d.after (state_after d.after ds) = run_keeps b d.after items readings ds ran.1 in
    let few = few_one first.added first.one in
    record {
      added = first.added ++ rest.added;
      grown = rest.grown ∙ ap (λ (h : History). h ++ rest.added) first.grown ∙ append_assoc s.history first.added rest.added;
      requests = omega (arith, few.0, rest.requests, counts_append is_request first.added rest.added);
      settlements = omega (arith, few.1, rest.settlements, counts_append is_settling first.added rest.added);
      others = omega (arith, few.2, rest.others, counts_append is_request first.added rest.added, counts_append is_settling first.added rest.added, length-append first.added rest.added);
    }
