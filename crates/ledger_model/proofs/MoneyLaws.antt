-- The money of a broker: what came in is what went out, what stands in accounts, and what was handed out.
use Rattle.std.proofs.Common.{◌≡◌, ℕ, ◌+◌, ◌≤◌, Bool, true, false, cond, ◌||◌, List, [], ◌∷◌, ◌++◌, Option, Some, None, refl, sym, ap, subst, ◌∙◌, arith, count_by, bytes_eq, option_map, unwrap_or, IsSome}
use Rattle.std.specs.Prelude.{◌==◌, sum_by, filter_map}
use Rattle.std.specs.List.{list_any, cons_option, AllByRecursion}
use Rattle.std.proofs.lemmas.List.Sums.{sum_by-cons, sum_by-append}
use Rattle.std.proofs.lemmas.List.Elements.{filter_map-append}
use Rattle.std.proofs.lemmas.Option.{same_Some}
use Rattle.mc_requests.specs.declared.limits.Limits.{Limits}
use Rattle.mc_requests.specs.Errands.{Errand, errand_of}
use Rattle.mc_records.specs.Entry.{goods_deed, sale, credit, Entry, Site, Accept, Account, Deposit, Withdraw, Draw}
use Rattle.ledger_model.specs.Histories.{History}
use Rattle.ledger_model.specs.Houses.{site_kind, is_vendor, fee}
use Rattle.ledger_model.specs.declared.numbers.TheConstants.{BROKER_KIND}
use Rattle.ledger_model.specs.Orders.{Order, order_of, order_amount}
use Rattle.ledger_model.specs.Pieces.{accepted, own_out}
use Rattle.ledger_model.specs.Accounts.{is_account_of, account_in, account_name, account_names, Movement, movement, credited_for, put_in, taken_out, moved, amount_to, amount_from, balance, all_balances}
use Rattle.ledger_model.specs.Stock.{Sale, sale_at, sale_of, sales}
use Rattle.ledger_model.specs.Sums.{price_paid, takings, values, fee_of, fees, sold_values, amount_credited, all_credited, amount_drawn, all_drawn, amount_in, amount_out, paid_in, paid_out}
use Rattle.ledger_model.specs.Lawful.{unbounded, request_of, IsAllowed, MayFollow, IsLawful}
use Rattle.ledger_model.proofs.ListLaws.{counts_cons, sum_snoc}
use Rattle.ledger_model.proofs.TakenLaws.{taken_goods, taken_sale, taken_credit}
use Rattle.ledger_model.proofs.AcceptLaws.{values_are_kept}
use Rattle.ledger_model.proofs.AccountLaws.{turned, IsKnown, Books, books}
use Rattle.ledger_model.proofs.DrawnLaws.{first_kind, not_both}
use Rattle.ledger_model.proofs.FollowLaws.{lawful_walk}

-- ---- sums of sums

pub sum_same : {K : Type 0} (f g : K → ℕ) → ((k : K) → f k ≡ g k) → (ks : List K) → sum_by f ks ≡ sum_by g ks
sum_same f g same [] = refl
sum_same f g same (k ∷ ks) =
    let a = sum_by-cons f k ks in
    let b = sum_by-cons g k ks in
    omega (arith, a, b, same k, sum_same f g same ks)

pub sum_plus : {K : Type 0} (f g : K → ℕ) (ks : List K) → sum_by (λ k. f k + g k) ks ≡ sum_by f ks + sum_by g ks
sum_plus f g [] = refl
sum_plus f g (k ∷ ks) =
    let a = sum_by-cons f k ks in
    let b = sum_by-cons g k ks in
    let c = sum_by-cons (λ x. f x + g x) k ks in
    omega (arith, a, b, c, sum_plus f g ks)

pub sum_nothing : {K : Type 0} (ks : List K) → sum_by (λ (k : K). 0) ks ≡ 0
sum_nothing [] = refl
sum_nothing (k ∷ ks) = let a = sum_by-cons (λ x. 0) k ks in omega (arith, a, sum_nothing ks)

-- a sum over two lists, taken in the other order
swapped : {X K : Type 0} (f : X → K → ℕ) (ks : List K) (xs : List X) → sum_by (λ k. sum_by (λ x. f x k) xs) ks ≡ sum_by (λ x. sum_by (f x) ks) xs
swapped f ks [] = sum_nothing ks
swapped f ks (x ∷ xs) =
    let each = sum_same (λ k. sum_by (λ y. f y k) (x ∷ xs)) (λ k. f x k + sum_by (λ y. f y k) xs) (λ k. sum_by-cons (λ y. f y k) x xs) ks in
    let both = sum_plus (f x) (λ k. sum_by (λ y. f y k) xs) ks in
    let all = sum_by-cons (λ y. sum_by (f y) ks) x xs in
    omega (arith, each, both, all, swapped f ks xs)

none_pass : {K : Type 0} (p : K → Bool) (n : ℕ) (ks : List K) → count_by p ks ≡ 0 → sum_by (λ k. cond (p k) n 0) ks ≡ 0
none_pass p n [] none = refl
none_pass p n (k ∷ ks) none = go (p k) (none_pass p n ks) (sym (counts_cons p k ks) ∙ none) (sum_by-cons (λ x. cond (p x) n 0) k ks)
  where
    go : (b : Bool) → (count_by p ks ≡ 0 → sum_by (λ x. cond (p x) n 0) ks ≡ 0) → cond b 1 0 + count_by p ks ≡ 0
        → sum_by (λ x. cond (p x) n 0) (k ∷ ks) ≡ cond b n 0 + sum_by (λ x. cond (p x) n 0) ks → sum_by (λ x. cond (p x) n 0) (k ∷ ks) ≡ 0
    go true ih zero is = absurd (omega (arith, zero))
    go false ih zero is = omega (arith, is, ih (omega (arith, zero)))

-- a number for the one key that passes, where there is one
pub one_passes : {K : Type 0} (p : K → Bool) (n : ℕ) (ks : List K) → count_by p ks ≤ 1 → sum_by (λ k. cond (p k) n 0) ks ≡ cond (list_any p ks) n 0
one_passes p n [] le = refl
one_passes p n (k ∷ ks) le = go (p k) (one_passes p n ks) (none_pass p n ks) (counts_cons p k ks) (sum_by-cons (λ x. cond (p x) n 0) k ks)
  where
    go : (b : Bool) → (count_by p ks ≤ 1 → sum_by (λ x. cond (p x) n 0) ks ≡ cond (list_any p ks) n 0)
        → (count_by p ks ≡ 0 → sum_by (λ x. cond (p x) n 0) ks ≡ 0)
        → count_by p (k ∷ ks) ≡ cond b 1 0 + count_by p ks
        → sum_by (λ x. cond (p x) n 0) (k ∷ ks) ≡ cond b n 0 + sum_by (λ x. cond (p x) n 0) ks → sum_by (λ x. cond (p x) n 0) (k ∷ ks) ≡ cond (b || list_any p ks) n 0
    go true ih none count is = omega (arith, is, none (omega (arith, count, le)))
    go false ih none count is = is ∙ omega (arith, ih (omega (arith, count, le)))

-- ---- movements at accounts

abbrev amount_moved : Option Movement → ℕ
amount_moved o = unwrap_or (option_map (λ x. x.amount) o) 0

found_named : (name : List ℕ) (h : History) → IsSome (account_in h name) → list_any (bytes_eq name) (account_names h) ≡ true
found_named name [] is = absurd cc
found_named name (e ∷ es) is = one e is (found_named name es)
  where
    named : (x : Entry) (b : Bool) → IsSome (cond b (Some x) (account_in es name)) → (IsSome (account_in es name) → list_any (bytes_eq name) (account_names es) ≡ true)
        → (b || list_any (bytes_eq name) (account_names es)) ≡ true
    named x true f ih = refl
    named x false f ih = ih f

    one : (x : Entry) → IsSome (cond (is_account_of name x) (Some x) (account_in es name)) → (IsSome (account_in es name) → list_any (bytes_eq name) (account_names es) ≡ true)
        → list_any (bytes_eq name) (cons_option (account_name x) (account_names es)) ≡ true
    one (Account m n key) f ih = ap (λ (b : Bool). b || list_any (bytes_eq name) (account_names es)) (turned name n) ∙ named (Account m n key) (bytes_eq n name) f ih
    one x f ih = ih f

-- a movement is that of one account
of_one : (g : History) (o : Option Movement) → ((name : List ℕ) → count_by (bytes_eq name) (account_names g) ≤ 1) → ((x : Movement) → o ≡ Some x → IsKnown g x)
    → sum_by (λ name. moved name o) (account_names g) ≡ amount_moved o
of_one g None once known = sum_nothing (account_names g)
of_one g (Some x) once known =
    one_passes (bytes_eq x.account) x.amount (account_names g) (once x.account) ∙ ap (λ (b : Bool). cond b x.amount 0) (found_named x.account g (known x refl))

of_all : (g : History) (f : Entry → Option Movement) (es : History) → ((name : List ℕ) → count_by (bytes_eq name) (account_names g) ≤ 1) → AllByRecursion (IsKnown g) (filter_map f es)
    → sum_by (λ e. sum_by (λ name. moved name (f e)) (account_names g)) es ≡ sum_by (λ e. amount_moved (f e)) es
of_all g f [] once known = refl
of_all g f (e ∷ es) once known =
    let here = parts (f e) known in
    let one = of_one g (f e) once here.0 in
    let rest = of_all g f es once here.1 in
    let a = sum_by-cons (λ x. sum_by (λ name. moved name (f x)) (account_names g)) e es in
    let b = sum_by-cons (λ x. amount_moved (f x)) e es in
    omega (arith, a, b, one, rest)
  where
    parts : (o : Option Movement) → AllByRecursion (IsKnown g) (cons_option o (filter_map f es)) → ((x : Movement) → o ≡ Some x → IsKnown g x) × AllByRecursion (IsKnown g) (filter_map f es)
    parts None all = (λ x is. absurd cc, all)
    parts (Some y) all = (λ x is. subst (IsKnown g) (same_Some y x is) all.0, all.1)

-- what went into all accounts is what went out of them and their balances
accounts_balance : (h : History) → Books h → sum_by (λ e. amount_moved (put_in e)) h ≡ sum_by (λ e. amount_moved (taken_out e)) h + all_balances h
accounts_balance h b =
    let names = account_names h in
    let ins = swapped (λ e name. amount_to name e) names h in
    let outs = swapped (λ e name. amount_from name e) names h in
    let each = sum_same (λ name. sum_by (amount_to name) h) (λ name. sum_by (amount_from name) h + balance h name) (λ name. let le = b.covered name in omega (arith, le)) names in
    let both = sum_plus (λ name. sum_by (amount_from name) h) (balance h) names in
    omega (arith, ins, outs, each, both, of_all h put_in h b.names_once b.ins_known, of_all h taken_out h b.names_once b.outs_known)

-- ---- by kinds of entries

out_one : (e : Entry) → amount_moved (taken_out e) ≡ amount_out e + amount_drawn e
out_one (Withdraw m name amount reference) = omega arith
out_one (Draw m target sign drawn) = go (order_of target)
  where
    go : (o : Option Order) → amount_moved (option_map (λ x. movement x.account x.amount) o) ≡ 0 + order_amount o
    go None = refl
    go (Some o) = omega arith
out_one e = omega arith

outs_sum : (h : History) → sum_by (λ e. amount_moved (taken_out e)) h ≡ paid_out h + all_drawn h
outs_sum [] = refl
outs_sum (e ∷ es) =
    let all = sum_by-cons (λ x. amount_moved (taken_out x)) e es in
    let paid = sum_by-cons amount_out e es in
    let drawn = sum_by-cons amount_drawn e es in
    omega (arith, all, paid, drawn, out_one e, outs_sum es)

in_one : (limits : Limits) (h : History) (e : Entry) → IsAllowed limits h e → amount_moved (put_in e) ≡ amount_in e + amount_credited e
in_one limits h (Deposit m name amount reference) allowed = omega arith
in_one limits h (Accept m scrip target sign price change goods_deed) allowed = omega arith
in_one limits h (Accept m scrip target sign price change (sale stock id)) allowed = omega arith
in_one limits h (Accept m scrip target sign price change (credit after)) allowed =
    let c = taken_credit h m (unbounded limits) (request_of scrip target sign) m scrip target sign price change after allowed in
    let is : amount_moved (credited_for (errand_of target) price) ≡ price = ap (λ (o : Option Errand). amount_moved (credited_for o price)) c.asks in
    omega (arith, is)
in_one limits h e allowed = omega arith

abbrev InsSum : History → Type 0
InsSum h = sum_by (λ e. amount_moved (put_in e)) h ≡ paid_in h + all_credited h

ins_snoc : (limits : Limits) (h : History) (e : Entry) → MayFollow limits h e → InsSum h → InsSum (h ++ e ∷ [])
ins_snoc limits h e may before =
    let all = sum_snoc (λ x. amount_moved (put_in x)) h e in
    let paid = sum_snoc amount_in h e in
    let credits = sum_snoc amount_credited h e in
    omega (arith, all, paid, credits, before, in_one limits h e may.allowed)

-- what was deposited and credited is what was withdrawn and drawn, and what stands in the accounts
pub accounts_hold : (limits : Limits) (h : History) → IsLawful limits h → paid_in h + all_credited h ≡ paid_out h + all_drawn h + all_balances h
accounts_hold limits h lawful =
    let ins : InsSum h = lawful_walk InsSum limits (ins_snoc limits) refl h lawful in
    omega (arith, accounts_balance h (books limits h lawful), ins, outs_sum h)

-- ---- prices of a broker

abbrev sold_for : Option Sale → ℕ
sold_for o = unwrap_or (option_map (λ s. s.value) o) 0

values_sold : (h : History) (e : Entry) → sold_values (h ++ e ∷ []) ≡ sold_values h + sold_for (sale_of e)
values_sold h e =
    ap (sum_by (λ (s : Sale). s.value)) (filter_map-append sale_of h (e ∷ [])) ∙ sum_by-append (λ (s : Sale). s.value) (sales h) (cons_option (sale_of e) [])
    ∙ ap (λ (n : ℕ). sold_values h + n) (go (sale_of e))
  where
    go : (o : Option Sale) → sum_by (λ (s : Sale). s.value) (cons_option o []) ≡ sold_for o
    go None = refl
    go (Some s) = omega (arith, sum_by-cons (λ (x : Sale). x.value) s [])

price_one : (limits : Limits) (h : History) (e : Entry) → is_vendor h ≡ false → IsAllowed limits h e → price_paid e ≡ sold_for (sale_of e) + fee_of (fee h) e + amount_credited e
price_one limits h (Accept m scrip target sign price change goods_deed) broker allowed =
    absurd (not_both (is_vendor h) (taken_goods h m (unbounded limits) (request_of scrip target sign) m scrip target sign price change allowed).at_vendor broker)
price_one limits h (Accept m scrip target sign price change (sale stock id)) broker allowed =
    let s = taken_sale h m (unbounded limits) (request_of scrip target sign) m scrip target sign price change stock id allowed in
    let sold : sold_for (sale_at stock id (errand_of target)) ≡ s.value = ap (λ (o : Option Errand). sold_for (sale_at stock id o)) s.asks in
    omega (arith, s.price_is, sold)
price_one limits h (Accept m scrip target sign price change (credit after)) broker allowed = omega arith
price_one limits h e broker allowed = omega arith

-- the fee and the kind of a house stand in its first entry
first_fee : (x : Entry) (xs ys : History) → fee (x ∷ xs) ≡ fee (x ∷ ys)
first_fee (Site m kind name house) xs ys = refl
first_fee x xs ys = refl

no_vendor : (h : History) → site_kind h ≡ Some BROKER_KIND → is_vendor h ≡ false
no_vendor h broker = ap (λ (k : Option ℕ). unwrap_or (option_map (λ kind. kind == 0) k) false) broker

abbrev PricesSum : History → Type 0
PricesSum h = site_kind h ≡ Some BROKER_KIND → takings h ≡ sold_values h + fees h + all_credited h

prices_snoc : (limits : Limits) (h : History) (e : Entry) → MayFollow limits h e → PricesSum h → PricesSum (h ++ e ∷ [])
prices_snoc limits [] (Site m kind name house) may before broker = refl
prices_snoc limits [] e may before broker = absurd (cc broker)
prices_snoc limits (x ∷ xs) e may before broker =
    let h = x ∷ xs in
    let stays : site_kind h ≡ Some BROKER_KIND = first_kind x xs (xs ++ e ∷ []) ∙ broker in
    let fee_is : fee (h ++ e ∷ []) ≡ fee h = first_fee x (xs ++ e ∷ []) xs in
    let prices = sum_snoc price_paid h e in
    let credits = sum_snoc amount_credited h e in
    let charged : fees (h ++ e ∷ []) ≡ fees h + fee_of (fee h) e = ap (λ (n : ℕ). sum_by (fee_of n) (h ++ e ∷ [])) fee_is ∙ sum_snoc (fee_of (fee h)) h e in
    omega (arith, prices, credits, charged, values_sold h e, before stays, price_one limits h e (no_vendor h stays) may.allowed)

-- the prices that a broker took are the values that it sold, its fees and its credits
pub prices_split : (limits : Limits) (h : History) → IsLawful limits h → site_kind h ≡ Some BROKER_KIND → takings h ≡ sold_values h + fees h + all_credited h
prices_split limits h lawful = lawful_walk PricesSum limits (prices_snoc limits) (λ broker. refl) h lawful

-- what came in, as money and as pieces, is what went out, what stands in the accounts, and what was sold and handed out
pub broker_keeps : (limits : Limits) (h : History) → IsLawful limits h → site_kind h ≡ Some BROKER_KIND → paid_in h + values (accepted h) ≡ paid_out h + all_balances h + fees h + sold_values h + values (own_out h)
broker_keeps limits h lawful broker = omega (arith, accounts_hold limits h lawful, prices_split limits h lawful broker, values_are_kept limits h lawful)
