-- The accounts of a lawful history: what goes into them and out of them, and their orders.
use Rattle.std.proofs.Common.{◌≡◌, ℕ, ◌+◌, ◌<◌, ◌≤◌, Bool, true, false, cond, ◌||◌, List, [], ◌∷◌, ◌++◌, Option, Some, None, refl, sym, ap, subst, ◌∙◌, arith, append-nil, count_by, bytes_eq, option_map, unwrap_or, IsSome, IsNone}
use Rattle.std.specs.Prelude.{sum_by, filter_map}
use Rattle.std.specs.List.{list_any, cons_option, last_or, AllByRecursion}
use Rattle.std.proofs.lemmas.List.Elements.{filter_map-append}
use Rattle.std.proofs.lemmas.Option.{same_Some}
use Rattle.std.proofs.lemmas.Slice.Eq.{bytes_eq-Decides}
use Rattle.mc_records.specs.declared.ranges.TheConstants.{MOST_IN_ACCOUNT}
use Rattle.mc_requests.specs.declared.limits.Limits.{Limits}
use Rattle.mc_requests.specs.Errands.{Errand}
use Rattle.mc_records.specs.Entry.{goods_deed, sale, credit, Entry, Accept, Account, Deposit, Withdraw, Draw}
use Rattle.ledger_model.specs.Histories.{History}
use Rattle.ledger_model.specs.Orders.{Order}
use Rattle.ledger_model.specs.Accounts.{is_account_of, account_in, account_key, account_name, account_names, Movement, movement, credited_for, put_in, taken_out, moved, amount_to, amount_from, balance, order_at, order_drawn, orders_of, last_order}
use Rattle.ledger_model.specs.Lawful.{unbounded, request_of, draw_request, IsAllowed, MayFollow, IsLawful}
use Rattle.ledger_model.specs.Laws.{AreRising}
use Rattle.ledger_model.proofs.ListLaws.{sum_snoc, counts_none, once_snoc, all_append, all_weaker, all_snoc, found_stays}
use Rattle.ledger_model.proofs.TakenLaws.{taken_credit, taken_draw}
use Rattle.ledger_model.proofs.FollowLaws.{lawful_walk}

-- ---- which accounts there are

pub turned : (a b : List ℕ) → bytes_eq a b ≡ bytes_eq b a
turned a b = go (bytes_eq a b) refl (bytes_eq b a) refl
  where
    go : (x : Bool) → bytes_eq a b ≡ x → (y : Bool) → bytes_eq b a ≡ y → x ≡ y
    go true p true q = refl
    go false p false q = refl
    go true p false q = sym ((bytes_eq-Decides b a).1 (sym ((bytes_eq-Decides a b).0 p))) ∙ q
    go false p true q = sym p ∙ (bytes_eq-Decides a b).1 (sym ((bytes_eq-Decides b a).0 q))

-- an account that is not there has no name among the accounts
pub none_named : (name : List ℕ) (h : History) → account_in h name ≡ None → list_any (bytes_eq name) (account_names h) ≡ false
none_named name [] is = refl
none_named name (e ∷ es) is = one e is (none_named name es)
  where
    named : (x : Entry) (b : Bool) → cond b (Some x) (account_in es name) ≡ None → (account_in es name ≡ None → list_any (bytes_eq name) (account_names es) ≡ false)
        → (b || list_any (bytes_eq name) (account_names es)) ≡ false
    named x true f ih = absurd cc
    named x false f ih = ih f

    one : (x : Entry) → cond (is_account_of name x) (Some x) (account_in es name) ≡ None → (account_in es name ≡ None → list_any (bytes_eq name) (account_names es) ≡ false)
        → list_any (bytes_eq name) (cons_option (account_name x) (account_names es)) ≡ false
    one (Account m n key) f ih = ap (λ (b : Bool). b || list_any (bytes_eq name) (account_names es)) (turned name n) ∙ named (Account m n key) (bytes_eq n name) f ih
    one x f ih = ih f

-- the account of a movement is there
abbrev pub IsKnown : History → Movement → Type 0
IsKnown h x = IsSome (account_in h x.account)

known_more : (h : History) (e : Entry) (x : Movement) → IsKnown h x → IsKnown (h ++ e ∷ []) x
known_more h e x known = go (account_in h x.account) refl known
  where
    go : (o : Option Entry) → account_in h x.account ≡ o → IsSome o → IsKnown (h ++ e ∷ []) x
    go None is some = absurd cc
    go (Some a) is some = ap is_there (found_stays (is_account_of x.account) h (e ∷ []) a is)
      where
        is_there : Option Entry → Bool
        is_there None = false
        is_there (Some b) = true

mapped : (f : Entry → List ℕ) (o : Option Entry) (y : List ℕ) → option_map f o ≡ Some y → IsSome o
mapped f None y e = absurd cc
mapped f (Some x) y e = refl

-- ---- what a lawful entry moves

record Moves (h : History) (e : Entry) : Type 0 where
  into : (x : Movement) → put_in e ≡ Some x → IsKnown h x × (balance h x.account + x.amount ≤ MOST_IN_ACCOUNT)
  out_of : (x : Movement) → taken_out e ≡ Some x → IsKnown h x × (x.amount ≤ balance h x.account)
  opens : (name : List ℕ) → account_name e ≡ Some name → account_in h name ≡ None
  orders : (name : List ℕ) (k : ℕ) → order_drawn name e ≡ Some k → last_order h name < k

still : (h : History) (e : Entry) → put_in e ≡ None → taken_out e ≡ None → account_name e ≡ None → ((name : List ℕ) → order_drawn name e ≡ None) → Moves h e
still h e no_in no_out no_name no_order = record {
  into = λ x is. absurd cc;
  out_of = λ x is. absurd cc;
  opens = λ name is. absurd cc;
  orders = λ name k is. let none = no_order name in absurd cc;
}

none_is : (o : Option Entry) → IsNone o → o ≡ None
none_is None is = refl
none_is (Some a) is = absurd cc

order_is : (name : List ℕ) (o : Order) (k : ℕ) → order_at name (Some o) ≡ Some k → (o.account ≡ name) × (o.order ≡ k)
order_is name o k is = go (bytes_eq o.account name) refl is
  where
    go : (b : Bool) → bytes_eq o.account name ≡ b → cond b (Some o.order) None ≡ Some k → (o.account ≡ name) × (o.order ≡ k)
    go true same e = ((bytes_eq-Decides o.account name).0 same, same_Some o.order k e)
    go false other e = absurd cc

moves : (limits : Limits) (h : History) (e : Entry) → IsAllowed limits h e → Moves h e
moves limits h (Account m name key) allowed = record {
  into = λ x is. absurd cc;
  out_of = λ x is. absurd cc;
  opens = λ n is. subst (λ (k : List ℕ). account_in h k ≡ None) (same_Some name n is) (none_is (account_in h name) allowed.1);
  orders = λ n k is. absurd cc;
}
moves limits h (Deposit m name amount reference) allowed = record {
  into = λ x is. subst (λ (y : Movement). IsKnown h y × (balance h y.account + y.amount ≤ MOST_IN_ACCOUNT)) (same_Some (movement name amount) x is) (allowed.1, allowed.3);
  out_of = λ x is. absurd cc;
  opens = λ n is. absurd cc;
  orders = λ n k is. absurd cc;
}
moves limits h (Withdraw m name amount reference) allowed = record {
  into = λ x is. absurd cc;
  out_of = λ x is. subst (λ (y : Movement). IsKnown h y × (y.amount ≤ balance h y.account)) (same_Some (movement name amount) x is) (allowed.1, allowed.3);
  opens = λ n is. absurd cc;
  orders = λ n k is. absurd cc;
}
moves limits h (Draw m target sign drawn) allowed =
    let d = taken_draw h m (unbounded limits) (draw_request target sign) m target sign drawn allowed in
    let o = d.order in
    let asks : taken_out (Draw m target sign drawn) ≡ Some (movement o.account o.amount) = ap (option_map (λ x. movement x.account x.amount)) d.asks in
    record {
      into = λ x is. absurd cc;
      out_of = λ x is. subst (λ (y : Movement). IsKnown h y × (y.amount ≤ balance h y.account)) (same_Some (movement o.account o.amount) x (sym asks ∙ is)) (mapped account_key (account_in h o.account) d.key d.stands, d.covered);
      opens = λ n is. absurd cc;
      orders = λ n k is.
          let same = order_is n o k (sym (ap (order_at n) d.asks) ∙ is) in
          subst (λ (i : ℕ). last_order h n < i) same.1 (subst (λ (a : List ℕ). last_order h a < o.order) same.0 d.rises);
    }
moves limits h (Accept m scrip target sign price change goods_deed) allowed = still h (Accept m scrip target sign price change goods_deed) refl refl refl (λ name. refl)
moves limits h (Accept m scrip target sign price change (sale stock id)) allowed = still h (Accept m scrip target sign price change (sale stock id)) refl refl refl (λ name. refl)
moves limits h (Accept m scrip target sign price change (credit after)) allowed =
    let c = taken_credit h m (unbounded limits) (request_of scrip target sign) m scrip target sign price change after allowed in
    let asks : put_in (Accept m scrip target sign price change (credit after)) ≡ Some (movement c.account price) = ap (λ (o : Option Errand). credited_for o price) c.asks in
    let fits : balance h c.account + price ≤ MOST_IN_ACCOUNT = omega (arith, c.after_is, c.fits) in
    record {
      into = λ x is. subst (λ (y : Movement). IsKnown h y × (balance h y.account + y.amount ≤ MOST_IN_ACCOUNT)) (same_Some (movement c.account price) x (sym asks ∙ is)) (c.stands, fits);
      out_of = λ x is. absurd cc;
      opens = λ n is. absurd cc;
      orders = λ n k is. absurd cc;
    }
moves limits h e allowed = still h e refl refl refl (λ name. refl)

-- ---- orders that rise

-- the last of some numbers that rise is above none of what is above it
first_below : (n : ℕ) (ns : List ℕ) (k : ℕ) → AreRising (n ∷ ns) → unwrap_or (last_or (Some n) ns) 0 < k → n < k
first_below n [] k rising lt = lt
first_below n (m ∷ ms) k rising lt = let rest = first_below m ms k rising.1 lt in omega (arith, rest, rising.0.0)

-- and so are the others
pub all_below : (ns : List ℕ) (k : ℕ) → AreRising ns → unwrap_or (last_or None ns) 0 < k → AllByRecursion (λ n. n < k) ns
all_below [] k rising lt = tt
all_below (n ∷ []) k rising lt = (lt, tt)
all_below (n ∷ m ∷ ms) k rising lt = (first_below n (m ∷ ms) k rising lt, all_below (m ∷ ms) k rising.1 lt)

rising_snoc : (ns : List ℕ) (k : ℕ) → AreRising ns → unwrap_or (last_or None ns) 0 < k → AreRising (ns ++ k ∷ [])
rising_snoc [] k rising lt = (tt, tt)
rising_snoc (n ∷ []) k rising lt = ((lt, tt), (tt, tt))
rising_snoc (n ∷ m ∷ ms) k rising lt = (all_append (λ i. n < i) (m ∷ ms) (k ∷ []) rising.0 (first_below n (m ∷ ms) k rising lt, tt), rising_snoc (m ∷ ms) k rising.1 lt)

rising_more : (ns : List ℕ) (o : Option ℕ) → AreRising ns → ((k : ℕ) → o ≡ Some k → unwrap_or (last_or None ns) 0 < k) → AreRising (ns ++ cons_option o [])
rising_more ns None rising above = subst AreRising (sym (append-nil ns)) rising
rising_more ns (Some k) rising above = rising_snoc ns k rising (above k refl)

-- ---- the accounts of a history

-- how much of a movement, where it is at most so much of its account, is that of an account
pub moved_within : (P : List ℕ → ℕ → Type 0) (name : List ℕ) (o : Option Movement) → P name 0 → ((x : Movement) → o ≡ Some x → P x.account x.amount) → P name (moved name o)
moved_within P name None none one = none
moved_within P name (Some x) none one = go (bytes_eq x.account name) refl
  where
    go : (b : Bool) → bytes_eq x.account name ≡ b → P name (cond b x.amount 0)
    go true same = subst (λ (n : List ℕ). P n x.amount) ((bytes_eq-Decides x.account name).0 same) (one x refl)
    go false other = none

pub record Books (h : History) : Type 0 where
  pub names_once : (name : List ℕ) → count_by (bytes_eq name) (account_names h) ≤ 1
  pub ins_known : AllByRecursion (IsKnown h) (filter_map put_in h)
  pub outs_known : AllByRecursion (IsKnown h) (filter_map taken_out h)
  pub covered : (name : List ℕ) → sum_by (amount_from name) h ≤ sum_by (amount_to name) h
  pub bounded : (name : List ℕ) → balance h name ≤ MOST_IN_ACCOUNT
  pub rising : (name : List ℕ) → AreRising (orders_of h name)

known_snoc : (h : History) (e : Entry) (f : Entry → Option Movement) → AllByRecursion (IsKnown h) (filter_map f h) → ((x : Movement) → f e ≡ Some x → IsKnown h x) → AllByRecursion (IsKnown (h ++ e ∷ [])) (filter_map f (h ++ e ∷ []))
known_snoc h e f all one = all_snoc (IsKnown (h ++ e ∷ [])) f h e (all_weaker (IsKnown h) (IsKnown (h ++ e ∷ [])) (known_more h e) (filter_map f h) all) (λ x is. known_more h e x (one x is))

books_snoc : (h : History) (e : Entry) → Books h → Moves h e → Books (h ++ e ∷ [])
books_snoc h e b m = record {
  names_once = λ name. subst (λ (ns : List (List ℕ)). count_by (bytes_eq name) ns ≤ 1) (sym (filter_map-append account_name h (e ∷ []))) (once_snoc (bytes_eq name) (account_names h) (account_name e) (b.names_once name) (new name));
  ins_known = known_snoc h e put_in b.ins_known (λ x is. (m.into x is).0);
  outs_known = known_snoc h e taken_out b.outs_known (λ x is. (m.out_of x is).0);
  covered = λ name. omega (arith, sum_snoc (amount_from name) h e, sum_snoc (amount_to name) h e, fits_out name, b.covered name);
  bounded = λ name. omega (arith, sum_snoc (amount_from name) h e, sum_snoc (amount_to name) h e, fits_out name, fits_in name, b.covered name);
  rising = λ name. subst AreRising (sym (filter_map-append (order_drawn name) h (e ∷ []))) (rising_more (orders_of h name) (order_drawn name e) (b.rising name) (m.orders name));
}
  where
    new : (name n : List ℕ) → account_name e ≡ Some n → bytes_eq name n ≡ true → count_by (bytes_eq name) (account_names h) ≡ 0
    new name n is same =
        let n_is : n ≡ name = sym ((bytes_eq-Decides name n).0 same) in
        counts_none (bytes_eq name) (account_names h) (none_named name h (m.opens name (is ∙ ap (λ (k : List ℕ). some k) n_is)))
      where
        some : List ℕ → Option (List ℕ)
        some k = Some k

    fits_out : (name : List ℕ) → amount_from name e ≤ balance h name
    fits_out name = moved_within (λ n amount. amount ≤ balance h n) name (taken_out e) (omega arith) (λ x is. (m.out_of x is).1)

    fits_in : (name : List ℕ) → balance h name + amount_to name e ≤ MOST_IN_ACCOUNT
    fits_in name = moved_within (λ n amount. balance h n + amount ≤ MOST_IN_ACCOUNT) name (put_in e) (let le = b.bounded name in omega (arith, le)) (λ x is. (m.into x is).1)

pub books_step : (limits : Limits) (h : History) (e : Entry) → MayFollow limits h e → Books h → Books (h ++ e ∷ [])
books_step limits h e may b = books_snoc h e b (moves limits h e may.allowed)

pub books : (limits : Limits) (h : History) → IsLawful limits h → Books h
books limits h lawful =
    lawful_walk Books limits (books_step limits)
    (record { names_once = λ name. omega arith; ins_known = tt; outs_known = tt; covered = λ name. omega arith; bounded = λ name. omega arith; rising = λ name. tt }) h lawful

-- ---- the laws

pub none_overdrawn : (limits : Limits) (h : History) (name : List ℕ) → IsLawful limits h → sum_by (amount_from name) h ≤ sum_by (amount_to name) h
none_overdrawn limits h name lawful = (books limits h lawful).covered name

pub balance_is : (limits : Limits) (h : History) (name : List ℕ) → IsLawful limits h → sum_by (amount_to name) h ≡ sum_by (amount_from name) h + balance h name
balance_is limits h name lawful = let le = none_overdrawn limits h name lawful in omega (arith, le)

pub balance_fits : (limits : Limits) (h : History) (name : List ℕ) → IsLawful limits h → balance h name ≤ MOST_IN_ACCOUNT
balance_fits limits h name lawful = (books limits h lawful).bounded name

pub orders_rise : (limits : Limits) (h : History) (name : List ℕ) → IsLawful limits h → AreRising (orders_of h name)
orders_rise limits h name lawful = (books limits h lawful).rising name

pub accounts_once : (limits : Limits) (h : History) (name : List ℕ) → IsLawful limits h → count_by (bytes_eq name) (account_names h) ≤ 1
accounts_once limits h name lawful = (books limits h lawful).names_once name
