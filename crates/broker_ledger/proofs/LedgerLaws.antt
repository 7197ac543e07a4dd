-- What an account ledger keeps at one more entry.
use Rattle.std.proofs.Common.{length-append, ◌≡◌, ℕ, ◌+◌, ◌-◌, ◌<◌, ◌≤◌, Bool, true, false, cond, ◌||◌, List, [], ◌∷◌, ◌++◌, length, map, filter_map, find, Option, Some, None, option_map, unwrap_or, is_some, IsSome, refl, sym, ap, ap₂, subst, ◌∙◌, slice_get, arith, append-nil, bytes_eq}
use Rattle.std.specs.Prelude.{sum_by, option_and_then, IfSome}
use Rattle.std.specs.Option.{option_or}
use Rattle.std.specs.List.{list_any, cons_option, last_or}
use Rattle.std.proofs.lemmas.List.{map-append}
use Rattle.std.proofs.lemmas.List.Elements.{filter_map-append}
use Rattle.std.proofs.lemmas.List.Folds.{find-append}
use Rattle.std.proofs.lemmas.Option.{same_Some, IfSome_then}
use Rattle.std.proofs.lemmas.Slice.Eq.{bytes_eq-Decides}
use Rattle.mc_records.specs.Entry.{Entry, Account, Draw}
use Rattle.ledger_model.specs.Histories.{History}
use Rattle.ledger_model.specs.Orders.{Order, order_of}
use Rattle.ledger_model.specs.Pieces.{reference_of, has_reference}
use Rattle.ledger_model.specs.Accounts.{is_account_of, account_in, account_key, key_in, account_name, account_names, Movement, movement, put_in, taken_out, moved, amount_to, amount_from, balance, order_at, order_drawn, orders_of, last_order}
use Rattle.ledger_model.proofs.ListLaws.{sum_snoc, found_stays, get_stays, get_end}
use Rattle.ledger_model.proofs.AccountLaws.{turned, none_named, moved_within}
use Rattle.name_places.specs.NamePlaces.{NamePlacesView, place_of}
use Rattle.broker_accounts.specs.Accounts.{AccountView, is_named, account_of, changed, new_account, credited, debited, drawn}
use Rattle.broker_ledger.specs.declared.payment.Payment.{Payment}
use Rattle.broker_ledger.specs.Ledger.{standing, payment_in, is_under, ShowsAccounts, ShowsPayments}

-- ---- what is found at one more entry

abbrev entry_if : Bool → Entry → Option Entry
entry_if b e = cond b (Some e) None

find_snoc : (p : Entry → Bool) (h : History) (e : Entry) → find p (h ++ e ∷ []) ≡ option_or (find p h) (entry_if (p e) e)
find_snoc p h e = find-append p h (e ∷ [])

or_none : {X : Type 0} (o : Option X) → option_or o None ≡ o
or_none None = refl
or_none (Some x) = refl

opens_none : (e : Entry) (name : List ℕ) → account_name e ≡ None → is_account_of name e ≡ false
opens_none (Account m n key) name is = absurd cc
opens_none e name is = refl

account_stays : (h : History) (e : Entry) (name : List ℕ) → account_name e ≡ None → account_in (h ++ e ∷ []) name ≡ account_in h name
account_stays h e name none = find_snoc (is_account_of name) h e ∙ ap (λ (b : Bool). option_or (account_in h name) (entry_if b e)) (opens_none e name none) ∙ or_none (account_in h name)

-- ---- the last order

last_append : (o : Option ℕ) (ns : List ℕ) (k : ℕ) → last_or o (ns ++ k ∷ []) ≡ Some k
last_append o [] k = refl
last_append o (n ∷ ns) k = last_append (Some n) ns k

order_more : (h : History) (e : Entry) (name : List ℕ) → last_order (h ++ e ∷ []) name ≡ unwrap_or (order_drawn name e) (last_order h name)
order_more h e name = ap (λ (ns : List ℕ). unwrap_or (last_or None ns) 0) (filter_map-append (order_drawn name) h (e ∷ [])) ∙ go (order_drawn name e)
  where
    go : (o : Option ℕ) → unwrap_or (last_or None (orders_of h name ++ cons_option o [])) 0 ≡ unwrap_or o (last_order h name)
    go None = ap (λ (ns : List ℕ). unwrap_or (last_or None ns) 0) (append-nil (orders_of h name))
    go (Some k) = ap (λ (o : Option ℕ). unwrap_or o 0) (last_append None (orders_of h name) k)

-- ---- an entry that opens no account

abbrev viewed : List ℕ → List ℕ → ℕ → ℕ → AccountView
viewed name key balance last = record { name = name; key = key; balance = balance; last = last }

-- what such an entry makes of an account
abbrev after : Entry → AccountView → AccountView
after e a = record a { balance = a.balance + amount_to a.name e - amount_from a.name e; last = unwrap_or (order_drawn a.name e) a.last }

-- The accounts that it moves money in are there, and hold what it takes.
pub record MovesKnown (h : History) (e : Entry) : Type 0 where
  pub opens : account_name e ≡ None
  pub into : (x : Movement) → put_in e ≡ Some x → IsSome (account_in h x.account)
  pub out_of : (x : Movement) → taken_out e ≡ Some x → IsSome (account_in h x.account) × (x.amount ≤ balance h x.account)
  pub order : (name : List ℕ) (k : ℕ) → order_drawn name e ≡ Some k → IsSome (account_in h name)

standing_more : (h : History) (e : Entry) (name : List ℕ) → account_name e ≡ None → sum_by (amount_from name) h ≤ sum_by (amount_to name) h → standing (h ++ e ∷ []) name ≡ after e (standing h name)
standing_more h e name none covered =
    let key : key_in (h ++ e ∷ []) name ≡ key_in h name = ap (option_map account_key) (account_stays h e name none) in
    let money : balance (h ++ e ∷ []) name ≡ balance h name + amount_to name e - amount_from name e = omega (arith, sum_snoc (amount_to name) h e, sum_snoc (amount_from name) h e, covered) in
    ap₂ (λ (k : Option (List ℕ)) (b : ℕ). viewed name (unwrap_or k []) b (last_order (h ++ e ∷ []) name)) key money
    ∙ ap (viewed name (unwrap_or (key_in h name) []) (balance h name + amount_to name e - amount_from name e)) (order_more h e name)

all_more : (h : History) (e : Entry) (names : List (List ℕ)) → account_name e ≡ None → ((name : List ℕ) → sum_by (amount_from name) h ≤ sum_by (amount_to name) h)
    → map (standing (h ++ e ∷ [])) names ≡ map (after e) (map (standing h) names)
all_more h e [] none covered = refl
all_more h e (n ∷ ns) none covered = ap₂ (λ (a : AccountView) (as' : List AccountView). a ∷ as') (standing_more h e n none (covered n)) (all_more h e ns none covered)

-- what moves is of an account that is there, so nothing of one that is not
nothing_moved : (h : History) (name : List ℕ) (o : Option Movement) → account_in h name ≡ None → ((x : Movement) → o ≡ Some x → IsSome (account_in h x.account)) → moved name o ≡ 0
nothing_moved h name None none known = refl
nothing_moved h name (Some x) none known = go (bytes_eq x.account name) refl
  where
    go : (b : Bool) → bytes_eq x.account name ≡ b → cond b x.amount 0 ≡ 0
    go true same =
        let there : IsSome (account_in h name) = subst (λ (n : List ℕ). IsSome (account_in h n)) ((bytes_eq-Decides x.account name).0 same) (known x refl) in
        let no = subst IsSome none there in absurd cc
    go false other = refl

no_order : (h : History) (name : List ℕ) (o : Option ℕ) → account_in h name ≡ None → ((k : ℕ) → o ≡ Some k → IsSome (account_in h name)) → unwrap_or o (last_order h name) ≡ last_order h name
no_order h name None none known = refl
no_order h name (Some k) none known = let no = subst IsSome none (known k refl) in absurd cc

accounts_more : {accounts : List AccountView} {h : History} → ShowsAccounts accounts h → (e : Entry) → MovesKnown h e → ShowsAccounts (map (after e) accounts) (h ++ e ∷ [])
accounts_more {accounts = accounts} {h = h} s e m = record {
  all_accounts = ap (map (standing (h ++ e ∷ []))) names ∙ all_more h e (account_names h) m.opens s.covered ∙ ap (map (after e)) s.all_accounts;
  untouched = λ name none.
      let before : account_in h name ≡ None = sym (account_stays h e name m.opens) ∙ none in
      let was = s.untouched name before in
      record {
        into = omega (arith, sum_snoc (amount_to name) h e, was.into, nothing_moved h name (put_in e) before m.into);
        out_of = omega (arith, sum_snoc (amount_from name) h e, was.out_of, nothing_moved h name (taken_out e) before (λ x is. (m.out_of x is).0));
        order = order_more h e name ∙ no_order h name (order_drawn name e) before (m.order name) ∙ was.order;
      };
  covered = λ name. omega (arith, sum_snoc (amount_to name) h e, sum_snoc (amount_from name) h e, s.covered name, held name);
}
  where
    names : account_names (h ++ e ∷ []) ≡ account_names h
    names = filter_map-append account_name h (e ∷ []) ∙ ap (λ (o : Option (List ℕ)). account_names h ++ cons_option o []) m.opens ∙ append-nil (account_names h)

    held : (name : List ℕ) → amount_from name e ≤ balance h name
    held name = moved_within (λ n amount. amount ≤ balance h n) name (taken_out e) (omega arith) (λ x is. (m.out_of x is).1)

-- ---- the account that it changes

same_all : (f g : AccountView → AccountView) (as' : List AccountView) → ((a : AccountView) → f a ≡ g a) → map f as' ≡ map g as'
same_all f g [] same = refl
same_all f g (a ∷ rest) same = ap₂ (λ (x : AccountView) (xs : List AccountView). x ∷ xs) (same a) (same_all f g rest same)

pub put_more : {accounts : List AccountView} {h : History} → ShowsAccounts accounts h → (e : Entry) (name : List ℕ) (amount : ℕ)
    → account_name e ≡ None → put_in e ≡ Some (movement name amount) → taken_out e ≡ None → ((n : List ℕ) → order_drawn n e ≡ None) → IsSome (account_in h name)
    → ShowsAccounts (changed name (credited amount) accounts) (h ++ e ∷ [])
put_more {accounts = accounts} {h = h} s e name amount opens puts takes orders known =
    subst (λ (as' : List AccountView). ShowsAccounts as' (h ++ e ∷ [])) (same_all (after e) (λ a. cond (is_named name a) (credited amount a) a) accounts one) (accounts_more s e (record {
      opens = opens;
      into = λ x is. subst (λ (y : Movement). IsSome (account_in h y.account)) (same_Some (movement name amount) x (sym puts ∙ is)) known;
      out_of = λ x is. absurd cc;
      order = λ n k is. let none = orders n in absurd cc;
    }))
  where
    one : (a : AccountView) → after e a ≡ cond (is_named name a) (credited amount a) a
    one a =
        let into : amount_to a.name e ≡ cond (bytes_eq name a.name) amount 0 = ap (moved a.name) puts in
        let out : amount_from a.name e ≡ 0 = ap (moved a.name) takes in
        ap₂ (λ (i o : ℕ). viewed a.name a.key (a.balance + i - o) (unwrap_or (order_drawn a.name e) a.last)) into out
        ∙ ap (λ (k : Option ℕ). viewed a.name a.key (a.balance + cond (bytes_eq name a.name) amount 0 - 0) (unwrap_or k a.last)) (orders a.name)
        ∙ go (bytes_eq name a.name)
      where
        go : (b : Bool) → viewed a.name a.key (a.balance + cond b amount 0 - 0) a.last ≡ cond b (credited amount a) a
        go true = ap (λ (n : ℕ). viewed a.name a.key n a.last) (omega arith)
        go false = ap (λ (n : ℕ). viewed a.name a.key n a.last) (omega arith)

pub take_more : {accounts : List AccountView} {h : History} → ShowsAccounts accounts h → (e : Entry) (name : List ℕ) (amount : ℕ)
    → account_name e ≡ None → put_in e ≡ None → taken_out e ≡ Some (movement name amount) → ((n : List ℕ) → order_drawn n e ≡ None) → IsSome (account_in h name) → amount ≤ balance h name
    → ShowsAccounts (changed name (debited amount) accounts) (h ++ e ∷ [])
take_more {accounts = accounts} {h = h} s e name amount opens puts takes orders known held =
    subst (λ (as' : List AccountView). ShowsAccounts as' (h ++ e ∷ [])) (same_all (after e) (λ a. cond (is_named name a) (debited amount a) a) accounts one) (accounts_more s e (record {
      opens = opens;
      into = λ x is. absurd cc;
      out_of = λ x is. subst (λ (y : Movement). IsSome (account_in h y.account) × (y.amount ≤ balance h y.account)) (same_Some (movement name amount) x (sym takes ∙ is)) (known, held);
      order = λ n k is. let none = orders n in absurd cc;
    }))
  where
    one : (a : AccountView) → after e a ≡ cond (is_named name a) (debited amount a) a
    one a =
        let into : amount_to a.name e ≡ 0 = ap (moved a.name) puts in
        let out : amount_from a.name e ≡ cond (bytes_eq name a.name) amount 0 = ap (moved a.name) takes in
        ap₂ (λ (i o : ℕ). viewed a.name a.key (a.balance + i - o) (unwrap_or (order_drawn a.name e) a.last)) into out
        ∙ ap (λ (k : Option ℕ). viewed a.name a.key (a.balance + 0 - cond (bytes_eq name a.name) amount 0) (unwrap_or k a.last)) (orders a.name)
        ∙ go (bytes_eq name a.name)
      where
        go : (b : Bool) → viewed a.name a.key (a.balance + 0 - cond b amount 0) a.last ≡ cond b (debited amount a) a
        go true = ap (λ (n : ℕ). viewed a.name a.key n a.last) (omega arith)
        go false = ap (λ (n : ℕ). viewed a.name a.key n a.last) (omega arith)

-- of a draw, whose order is the last one then
pub draw_more : {accounts : List AccountView} {h : History} → ShowsAccounts accounts h → (m drawn_id : ℕ) (target sign : List ℕ) (o : Order)
    → order_of target ≡ Some o → IsSome (account_in h o.account) → o.amount ≤ balance h o.account
    → ShowsAccounts (changed o.account (drawn o.order o.amount) accounts) (h ++ Draw m target sign drawn_id ∷ [])
draw_more {accounts = accounts} {h = h} s m drawn_id target sign o asks known held =
    subst (λ (as' : List AccountView). ShowsAccounts as' (h ++ e ∷ [])) (same_all (after e) (λ a. cond (is_named o.account a) (drawn o.order o.amount a) a) accounts one) (accounts_more s e (record {
      opens = refl;
      into = λ x is. absurd cc;
      out_of = λ x is. subst (λ (y : Movement). IsSome (account_in h y.account) × (y.amount ≤ balance h y.account)) (same_Some (movement o.account o.amount) x (sym takes ∙ is)) (known, held);
      order = λ n k is. order_known n (sym (orders n) ∙ is);
    }))
  where
    e : Entry
    e = Draw m target sign drawn_id

    takes : taken_out e ≡ Some (movement o.account o.amount)
    takes = ap (option_map (λ (x : Order). movement x.account x.amount)) asks

    orders : (n : List ℕ) → order_drawn n e ≡ cond (bytes_eq o.account n) (Some o.order) None
    orders n = ap (order_at n) asks

    order_known : (n : List ℕ) {k : ℕ} → cond (bytes_eq o.account n) (Some o.order) None ≡ Some k → IsSome (account_in h n)
    order_known n {k = k} is = go (bytes_eq o.account n) refl is
      where
        go : (b : Bool) → bytes_eq o.account n ≡ b → cond b (Some o.order) None ≡ Some k → IsSome (account_in h n)
        go true same is = subst (λ (x : List ℕ). IsSome (account_in h x)) ((bytes_eq-Decides o.account n).0 same) known
        go false other is = absurd cc

    one : (a : AccountView) → after e a ≡ cond (is_named o.account a) (drawn o.order o.amount a) a
    one a =
        let out : amount_from a.name e ≡ cond (bytes_eq o.account a.name) o.amount 0 = ap (moved a.name) takes in
        ap (λ (n : ℕ). viewed a.name a.key (a.balance + 0 - n) (unwrap_or (order_drawn a.name e) a.last)) out
        ∙ ap (λ (k : Option ℕ). viewed a.name a.key (a.balance + 0 - cond (bytes_eq o.account a.name) o.amount 0) (unwrap_or k a.last)) (orders a.name)
        ∙ go (bytes_eq o.account a.name)
      where
        go : (b : Bool) → viewed a.name a.key (a.balance + 0 - cond b o.amount 0) (unwrap_or (cond b (Some o.order) None) a.last) ≡ cond b (drawn o.order o.amount a) a
        go true = ap (λ (n : ℕ). viewed a.name a.key n o.order) (omega arith)
        go false = ap (λ (n : ℕ). viewed a.name a.key n a.last) (omega arith)

-- of an entry that moves nothing
pub none_more : {accounts : List AccountView} {h : History} → ShowsAccounts accounts h → (e : Entry)
    → account_name e ≡ None → put_in e ≡ None → taken_out e ≡ None → ((n : List ℕ) → order_drawn n e ≡ None) → ShowsAccounts accounts (h ++ e ∷ [])
none_more {accounts = accounts} {h = h} s e opens puts takes orders =
    subst (λ (as' : List AccountView). ShowsAccounts as' (h ++ e ∷ [])) (all_same (after e) accounts one) (accounts_more s e (record {
      opens = opens;
      into = λ x is. absurd cc;
      out_of = λ x is. absurd cc;
      order = λ n k is. let none = orders n in absurd cc;
    }))
  where
    all_same : (f : AccountView → AccountView) (as' : List AccountView) → ((a : AccountView) → f a ≡ a) → map f as' ≡ as'
    all_same f [] same = refl
    all_same f (a ∷ rest) same = ap₂ (λ (x : AccountView) (xs : List AccountView). x ∷ xs) (same a) (all_same f rest same)

    one : (a : AccountView) → after e a ≡ a
    one a =
        ap₂ (λ (i o : ℕ). viewed a.name a.key (a.balance + i - o) (unwrap_or (order_drawn a.name e) a.last)) (ap (moved a.name) puts) (ap (moved a.name) takes)
        ∙ ap₂ (λ (n : ℕ) (k : Option ℕ). viewed a.name a.key n (unwrap_or k a.last)) (omega arith) (orders a.name)

-- ---- an account that is opened

-- what is said of the other accounts stays
others_more : (h : History) (m : ℕ) (name key n : List ℕ) → bytes_eq name n ≡ false → standing (h ++ Account m name key ∷ []) n ≡ standing h n
others_more h m name key n other =
    let e = Account m name key in
    let found : account_in (h ++ e ∷ []) n ≡ account_in h n =
    find_snoc (is_account_of n) h e ∙ ap (λ (b : Bool). option_or (account_in h n) (entry_if b e)) other ∙ or_none (account_in h n) in
    let money : balance (h ++ e ∷ []) n ≡ balance h n = omega (arith, sum_snoc (amount_to n) h e, sum_snoc (amount_from n) h e) in
    ap₂ (λ (k : Option (List ℕ)) (b : ℕ). viewed n (unwrap_or k []) b (last_order (h ++ e ∷ []) n)) (ap (option_map account_key) found) money
    ∙ ap (viewed n (unwrap_or (key_in h n) []) (balance h n)) (order_more h e n)

all_others : (h : History) (m : ℕ) (name key : List ℕ) (names : List (List ℕ)) → list_any (bytes_eq name) names ≡ false → map (standing (h ++ Account m name key ∷ [])) names ≡ map (standing h) names
all_others h m name key [] none = refl
all_others h m name key (n ∷ ns) none = go (bytes_eq name n) refl none (all_others h m name key ns)
  where
    go : (b : Bool) → bytes_eq name n ≡ b → (b || list_any (bytes_eq name) ns) ≡ false
        → (list_any (bytes_eq name) ns ≡ false → map (standing (h ++ Account m name key ∷ [])) ns ≡ map (standing h) ns) → map (standing (h ++ Account m name key ∷ [])) (n ∷ ns) ≡ map (standing h) (n ∷ ns)
    go true same e ih = absurd cc
    go false other e ih = ap₂ (λ (x : AccountView) (xs : List AccountView). x ∷ xs) (others_more h m name key n other) (ih e)

pub open_more : {accounts : List AccountView} {h : History} → ShowsAccounts accounts h → (m : ℕ) (name key : List ℕ) → account_in h name ≡ None
    → ShowsAccounts (accounts ++ new_account name key ∷ []) (h ++ Account m name key ∷ [])
open_more {accounts = accounts} {h = h} s m name key none = record {
  all_accounts =
      ap (map (standing (h ++ e ∷ []))) (filter_map-append account_name h (e ∷ []))
      ∙ map-append (standing (h ++ e ∷ [])) (account_names h) (name ∷ [])
      ∙ ap₂ (λ (as' : List AccountView) (a : AccountView). as' ++ a ∷ []) (all_others h m name key (account_names h) (none_named name h none) ∙ s.all_accounts) new;
  untouched = λ n is.
      let was = s.untouched n (not_before n is) in
      record {
        into = omega (arith, sum_snoc (amount_to n) h e, was.into);
        out_of = omega (arith, sum_snoc (amount_from n) h e, was.out_of);
        order = order_more h e n ∙ was.order;
      };
  covered = λ n. omega (arith, sum_snoc (amount_to n) h e, sum_snoc (amount_from n) h e, s.covered n);
}
  where
    e : Entry
    e = Account m name key

    not_before : (n : List ℕ) → account_in (h ++ e ∷ []) n ≡ None → account_in h n ≡ None
    not_before n is = go (account_in h n) refl
      where
        go : (o : Option Entry) → account_in h n ≡ o → account_in h n ≡ None
        go None same = same
        go (Some x) same = let there = found_stays (is_account_of n) h (e ∷ []) x same in absurd cc

    new : standing (h ++ e ∷ []) name ≡ new_account name key
    new =
        let was = s.untouched name none in
        let found : account_in (h ++ e ∷ []) name ≡ Some e =
        find_snoc (is_account_of name) h e ∙ ap₂ (λ (o : Option Entry) (b : Bool). option_or o (entry_if b e)) none ((bytes_eq-Decides name name).1 refl) in
        let money : balance (h ++ e ∷ []) name ≡ 0 = omega (arith, sum_snoc (amount_to name) h e, sum_snoc (amount_from name) h e, was.into, was.out_of) in
        ap₂ (λ (k : Option (List ℕ)) (b : ℕ). viewed name (unwrap_or k []) b (last_order (h ++ e ∷ []) name)) (ap (option_map account_key) found) money
        ∙ ap (viewed name key 0) (order_more h e name ∙ was.order)

-- ---- the account of a name

-- an account that is there is the first of its name, and no other name has one
found_standing : (h : History) (name : List ℕ) (names : List (List ℕ)) → account_of (map (standing h) names) name ≡ option_map (λ n. standing h name) (find (bytes_eq name) names)
found_standing h name [] = refl
found_standing h name (n ∷ ns) = go (bytes_eq name n) refl (found_standing h name ns)
  where
    go : (b : Bool) → bytes_eq name n ≡ b → account_of (map (standing h) ns) name ≡ option_map (λ x. standing h name) (find (bytes_eq name) ns)
        → cond b (Some (standing h n)) (account_of (map (standing h) ns) name) ≡ option_map (λ x. standing h name) (cond b (Some n) (find (bytes_eq name) ns))
    go true same ih = ap (λ (x : List ℕ). some_view (standing h x)) (sym ((bytes_eq-Decides name n).0 same))
      where
        some_view : AccountView → Option AccountView
        some_view a = Some a
    go false other ih = ih

named_where_found : (h : History) (name : List ℕ) → is_some (find (bytes_eq name) (account_names h)) ≡ is_some (account_in h name)
named_where_found [] name = refl
named_where_found (e ∷ es) name = one e (named_where_found es name)
  where
    one : (x : Entry) → is_some (find (bytes_eq name) (account_names es)) ≡ is_some (account_in es name)
        → is_some (find (bytes_eq name) (cons_option (account_name x) (account_names es))) ≡ is_some (cond (is_account_of name x) (Some x) (account_in es name))
    one (Account m n key) ih = go (bytes_eq name n) (bytes_eq n name) (turned name n)
      where
        go : (a b : Bool) → a ≡ b → is_some (cond a (Some n) (find (bytes_eq name) (account_names es))) ≡ is_some (cond b (Some (Account m n key)) (account_in es name))
        go true true same = refl
        go false false same = ih
        go true false same = absurd cc
        go false true same = absurd cc
    one x ih = ih

-- What is kept of the account of a name is what the history says of it, where there is one.
pub account_stands : {accounts : List AccountView} {h : History} → ShowsAccounts accounts h → (name : List ℕ) → account_of accounts name ≡ option_map (λ key. standing h name) (key_in h name)
account_stands {accounts = accounts} {h = h} s name =
    ap (λ (as' : List AccountView). account_of as' name) (sym s.all_accounts) ∙ found_standing h name (account_names h) ∙ go (find (bytes_eq name) (account_names h)) (account_in h name) (named_where_found h name)
  where
    go : (o : Option (List ℕ)) (a : Option Entry) → is_some o ≡ is_some a → option_map (λ n. standing h name) o ≡ option_map (λ key. standing h name) (option_map account_key a)
    go None None same = refl
    go (Some n) (Some x) same = refl
    go None (Some x) same = absurd cc
    go (Some n) None same = absurd cc

-- ---- payments

-- a reference stands exactly where an entry is found under it
pub reference_found : (h : History) (reference : List ℕ) → has_reference h reference ≡ is_some (find (is_under reference) h)
reference_found [] reference = refl
reference_found (e ∷ es) reference = go (reference_of e) (reference_found es reference)
  where
    go : (o : Option (List ℕ)) → has_reference es reference ≡ is_some (find (is_under reference) es)
        → list_any (λ r. bytes_eq r reference) (cons_option o (filter_map reference_of es)) ≡ is_some (cond (unwrap_or (option_map (λ r. bytes_eq r reference) o) false) (Some e) (find (is_under reference) es))
    go None ih = ih
    go (Some r) ih = inner (bytes_eq r reference)
      where
        inner : (b : Bool) → (b || has_reference es reference) ≡ is_some (cond b (Some e) (find (is_under reference) es))
        inner true = refl
        inner false = ih

under_more : (h : History) (e : Entry) (reference : List ℕ) → find (is_under reference) (h ++ e ∷ []) ≡ option_or (find (is_under reference) h) (entry_if (is_under reference e) e)
under_more h e reference = find_snoc (is_under reference) h e

-- of an entry without a reference
pub payments_stay : {references : NamePlacesView} {payments : List Payment} {h : History} → ShowsPayments references payments h → (e : Entry) → reference_of e ≡ None → ShowsPayments references payments (h ++ e ∷ [])
payments_stay {references = references} {payments = payments} {h = h} s e none = record {
  all_references = λ r. reference_found (h ++ e ∷ []) r ∙ ap is_some (same r) ∙ sym (reference_found h r) ∙ s.all_references r;
  of_payments = λ r. ap (option_and_then payment_in) (same r) ∙ s.of_payments r;
  within = s.within;
}
  where
    same : (r : List ℕ) → find (is_under r) (h ++ e ∷ []) ≡ find (is_under r) h
    same r =
        under_more h e r ∙ ap (λ (o : Option (List ℕ)). option_or (find (is_under r) h) (entry_if (unwrap_or (option_map (λ x. bytes_eq x r) o) false) e)) none ∙ or_none (find (is_under r) h)

pub nothing_found : (o : Option Entry) → is_some o ≡ false → o ≡ None
nothing_found None is = refl
nothing_found (Some x) is = absurd cc

-- of a payment under a new reference, whose place is that of the next payment
pub payments_more : {references now : NamePlacesView} {payments : List Payment} {h : History} → ShowsPayments references payments h → (e : Entry) (reference : List ℕ) (payment : Payment)
    → reference_of e ≡ Some reference → payment_in e ≡ Some payment → has_reference h reference ≡ false
    → ((q : List ℕ) → place_of now q ≡ cond (bytes_eq q reference) (Some (length payments)) (place_of references q))
    → ShowsPayments now (payments ++ payment ∷ []) (h ++ e ∷ [])
payments_more {references = references} {now = now} {payments = payments} {h = h} s e reference payment is pays new names = record {
  all_references = λ q. reference_found (h ++ e ∷ []) q ∙ ap is_some (found q) ∙ known q (bytes_eq q reference) refl ∙ sym (ap is_some (names q));
  of_payments = λ q. ap (option_and_then payment_in) (found q) ∙ paid q (bytes_eq q reference) refl ∙ ap (option_and_then (slice_get (payments ++ payment ∷ []))) (sym (names q));
  within = λ q. subst (λ (o : Option ℕ). IfSome o (λ i. i < length (payments ++ payment ∷ []))) (sym (names q)) (room q (bytes_eq q reference));
}
  where
    longer : length (payments ++ payment ∷ []) ≡ length payments + 1
    longer = length-append payments (payment ∷ [])

    found : (q : List ℕ) → find (is_under q) (h ++ e ∷ []) ≡ option_or (find (is_under q) h) (entry_if (bytes_eq q reference) e)
    found q = under_more h e q ∙ ap (λ (o : Option (List ℕ)). option_or (find (is_under q) h) (entry_if (unwrap_or (option_map (λ x. bytes_eq x q) o) false) e)) is
        ∙ ap (λ (b : Bool). option_or (find (is_under q) h) (entry_if b e)) (turned reference q)

    none : (q : List ℕ) → bytes_eq q reference ≡ true → find (is_under q) h ≡ None
    none q same = nothing_found (find (is_under q) h) (sym (reference_found h q) ∙ ap (has_reference h) ((bytes_eq-Decides q reference).0 same) ∙ new)

    known : (q : List ℕ) (b : Bool) → bytes_eq q reference ≡ b → is_some (option_or (find (is_under q) h) (entry_if b e)) ≡ is_some (cond b (Some (length payments)) (place_of references q))
    known q true same = ap (λ (o : Option Entry). is_some (option_or o (Some e))) (none q same)
    known q false other = ap is_some (or_none (find (is_under q) h)) ∙ sym (reference_found h q) ∙ s.all_references q

    stays : (o : Option ℕ) → IfSome o (λ i. i < length payments) → option_and_then (slice_get payments) o ≡ option_and_then (slice_get (payments ++ payment ∷ [])) o
    stays None within = refl
    stays (Some i) within = sym (get_stays payments (payment ∷ []) i within)

    paid : (q : List ℕ) (b : Bool) → bytes_eq q reference ≡ b
        → option_and_then payment_in (option_or (find (is_under q) h) (entry_if b e)) ≡ option_and_then (slice_get (payments ++ payment ∷ [])) (cond b (Some (length payments)) (place_of references q))
    paid q true same = ap (λ (o : Option Entry). option_and_then payment_in (option_or o (Some e))) (none q same) ∙ pays ∙ sym (get_end payments payment)
    paid q false other = ap (option_and_then payment_in) (or_none (find (is_under q) h)) ∙ s.of_payments q ∙ stays (place_of references q) (s.within q)

    room : (q : List ℕ) (b : Bool) → IfSome (cond b (Some (length payments)) (place_of references q)) (λ i. i < length (payments ++ payment ∷ []))
    room q true = omega (arith, longer)
    room q false = IfSome_then (place_of references q) (s.within q) (λ i lt. omega (arith, lt, longer))

pub no_payments : (references : NamePlacesView) → ((q : List ℕ) → place_of references q ≡ None) → ShowsPayments references [] []
no_payments references nowhere = record {
  all_references = λ q. sym (ap is_some (nowhere q));
  of_payments = λ q. sym (ap (option_and_then (slice_get [])) (nowhere q));
  within = λ q. subst (λ (o : Option ℕ). IfSome o (λ i. i < 0)) (sym (nowhere q)) tt;
}

pub no_accounts : ShowsAccounts [] []
no_accounts = record {
  all_accounts = refl;
  untouched = λ name is. record { into = refl; out_of = refl; order = refl };
  covered = λ name. omega arith;
}
