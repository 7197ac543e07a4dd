-- What the answers of the accounts say of the history, and what is kept of an entry that moves money.
use Rattle.std.proofs.Common.{◌≡◌, ℕ, ◌+◌, ◌<◌, ◌≤◌, Bool, true, false, cond, List, [], ◌∷◌, ◌++◌, Option, Some, None, option_map, unwrap_or, is_some, IsSome, length, slice_get, refl, sym, ap, subst, ◌∙◌, ltb}
use Rattle.std.specs.Prelude.{IfSome, option_and_then}
use Rattle.std.proofs.lemmas.Bool.{false≢true, false_from_ne_true, ltb-false, le-ltb, le-leb, lt-leb}
use Rattle.std.proofs.lemmas.Option.{none-some, same_Some}
use Rattle.mc_base.specs.declared.amount.TheConstants.Amount.{MOST}
use Rattle.mc_records.specs.declared.ranges.TheConstants.{MOST_IN_ACCOUNT}
use Rattle.mc_requests.specs.declared.refusal.Refusal.{Refusal}
use Rattle.mc_requests.specs.declared.refusal.Refusal.TheVariants.{StaleOrder, PoorAccount, AccountFull}
use Rattle.mc_requests.specs.declared.errand.Errand as errands
use Rattle.mc_requests.specs.Errands.{Errand, errand_of}
use Rattle.mc_requests.specs.ErrandViews.{errand}
use Rattle.std.specs.Borrow.{Bor}
use Rattle.mc_records.specs.declared.record.Record.{Record}
use Rattle.mc_records.specs.declared.record.Record.TheVariants as records
use Rattle.mc_records.specs.declared.record.RecordDeed.{RecordDeed}
use Rattle.mc_records.specs.Views.{entry}
use Rattle.mc_records.specs.Entry.{Deed, goods_deed, sale, credit, Entry, Accept, Draw}
use Rattle.ledger_model.specs.Histories.{History}
use Rattle.ledger_model.specs.Orders.{Order, order_of}
use Rattle.ledger_model.specs.Accounts.{account_in, account_key, key_in, account_name, Movement, movement, credited_for, put_in, taken_out, balance, order_at, order_drawn, last_order}
use Rattle.ledger_model.specs.Pieces.{reference_of}
use Rattle.name_places.specs.NamePlaces.{place_of}
use Rattle.broker_accounts.specs.Accounts.{AccountView, account_of, changed, credited, put_refusal, withdraw_refusal, draw_refusal}
use Rattle.broker_ledger.specs.declared.broker_ledger.Standing.{Standing}
use Rattle.broker_ledger.specs.declared.broker_ledger.AccountLedger.{AccountLedger}
use Rattle.broker_ledger.specs.declared.payment.Payment.{Payment}
use Rattle.broker_ledger.specs.Ledger.{standing, standing_in, ShowsAccounts, ShowsPayments, Represents, AccountsAllow, AccountsAnswer, credit_by, credit_within}
use Rattle.broker_ledger.proofs.LedgerLaws.{account_stands, put_more, none_more, nothing_found}

-- ---- what is kept of an account

-- an account is kept exactly where the history has it
pub is_kept : {accounts : List AccountView} {h : History} → ShowsAccounts accounts h → (name : List ℕ) → is_some (account_of accounts name) ≡ is_some (account_in h name)
is_kept {h = h} s name = ap is_some (account_stands s name) ∙ go (account_in h name)
  where
    go : (o : Option Entry) → is_some (option_map (λ key. standing h name) (option_map account_key o)) ≡ is_some o
    go None = refl
    go (Some x) = refl

pub is_new : {accounts : List AccountView} {h : History} → ShowsAccounts accounts h → (n name : List ℕ) → n ≡ name → (IsSome (account_of accounts n) → false ≡ true) → account_in h name ≡ None
is_new {accounts = accounts} {h = h} s n name same none =
    let no : IsSome (account_of accounts name) → false ≡ true = subst (λ (x : List ℕ). IsSome (account_of accounts x) → false ≡ true) same none in
    nothing_found (account_in h name) (false_from_ne_true (is_some (account_in h name)) (λ some. false≢true (no (is_kept s name ∙ some))))

pub is_there : {accounts : List AccountView} {h : History} → ShowsAccounts accounts h → (n name : List ℕ) → n ≡ name → IsSome (account_of accounts n) → IsSome (account_in h name)
is_there {accounts = accounts} s n name same there = sym (is_kept s name) ∙ subst (λ (x : List ℕ). IsSome (account_of accounts x)) same there

-- what stands in an account
abbrev stood : List ℕ → ℕ → ℕ → Standing
stood key balance last = record { key = key; balance = balance; last = last }

abbrev kept_standing : AccountView → Standing
kept_standing a = stood a.key a.balance a.last

standing_kept : {accounts : List AccountView} {h : History} → ShowsAccounts accounts h → (name : List ℕ) → option_map kept_standing (account_of accounts name) ≡ standing_in h name
standing_kept {h = h} s name = ap (option_map kept_standing) (account_stands s name) ∙ go (key_in h name) refl
  where
    some : List ℕ → Option Standing
    some key = Some (stood key (balance h name) (last_order h name))

    go : (o : Option (List ℕ)) → key_in h name ≡ o → option_map kept_standing (option_map (λ key. standing h name) o) ≡ option_map (λ key. stood key (balance h name) (last_order h name)) o
    go None is = refl
    go (Some k) is = ap (λ (o : Option (List ℕ)). some (unwrap_or o [])) is

pub no_standing : {accounts : List AccountView} {h : History} → ShowsAccounts accounts h → (name : List ℕ) → None ≡ option_map (λ a. a.key) (account_of accounts name) → None ≡ standing_in h name
no_standing {accounts = accounts} s name is = go (account_of accounts name) is ∙ standing_kept s name
  where
    go : (o : Option AccountView) → None ≡ option_map (λ a. a.key) o → None ≡ option_map kept_standing o
    go None is = refl
    go (Some a) is = absurd cc

pub some_standing : {accounts : List AccountView} {h : History} → ShowsAccounts accounts h → (name key : List ℕ) (balance last : ℕ)
    → Some key ≡ option_map (λ a. a.key) (account_of accounts name) → Some balance ≡ option_map (λ a. a.balance) (account_of accounts name)
    → Some last ≡ option_map (λ a. a.last) (account_of accounts name) → Some (stood key balance last) ≡ standing_in h name
some_standing {accounts = accounts} s name key balance last k b l = go (account_of accounts name) k b l ∙ standing_kept s name
  where
    go : (o : Option AccountView) → Some key ≡ option_map (λ a. a.key) o → Some balance ≡ option_map (λ a. a.balance) o → Some last ≡ option_map (λ a. a.last) o
        → Some (stood key balance last) ≡ option_map kept_standing o
    go None k b l = absurd cc
    go (Some a) k b l = cc

-- ---- the name and the amount that were taken out of an Option

pub name_is : (o : Option (List ℕ)) (n bytes : List ℕ) → IfSome o (λ x. x ≡ bytes) → o ≡ Some n → n ≡ bytes
name_is o n bytes told is = subst (λ (o : Option (List ℕ)). IfSome o (λ x. x ≡ bytes)) is told

pub amount_is : (o : Option ℕ) (n number : ℕ) → IfSome o (λ x. x ≡ number) → o ≡ Some n → n ≡ number
amount_is o n number told is = subst (λ (o : Option ℕ). IfSome o (λ x. x ≡ number)) is told

-- ---- what an answer of the accounts says

pub put_allowed : {accounts : List AccountView} {h : History} → ShowsAccounts accounts h → (name : List ℕ) (n : ℕ)
    → put_refusal n (account_of accounts name) ≡ None → IsSome (account_in h name) × (balance h name + n ≤ MOST_IN_ACCOUNT)
put_allowed {h = h} s name n is = go (account_in h name) (sym (ap (put_refusal n) (account_stands s name)) ∙ is)
  where
    within : (b : Bool) → ltb MOST_IN_ACCOUNT (balance h name + n) ≡ b → cond b (Some (AccountFull (balance h name))) None ≡ None → balance h name + n ≤ MOST_IN_ACCOUNT
    within true above is = absurd cc
    within false below is = ltb-false _ _ below

    go : (o : Option Entry) → put_refusal n (option_map (λ key. standing h name) (option_map account_key o)) ≡ None → IsSome o × (balance h name + n ≤ MOST_IN_ACCOUNT)
    go None is = absurd cc
    go (Some x) is = (refl, within (ltb MOST_IN_ACCOUNT (balance h name + n)) refl is)

pub put_is_allowed : {accounts : List AccountView} {h : History} → ShowsAccounts accounts h → (name : List ℕ) (n : ℕ)
    → IsSome (account_in h name) → balance h name + n ≤ MOST_IN_ACCOUNT → put_refusal n (account_of accounts name) ≡ None
put_is_allowed {h = h} s name n known within = ap (put_refusal n) (account_stands s name) ∙ go (account_in h name) known
  where
    go : (o : Option Entry) → IsSome o → put_refusal n (option_map (λ key. standing h name) (option_map account_key o)) ≡ None
    go None known = absurd cc
    go (Some x) known = ap (λ (b : Bool). cond b (Some (AccountFull (balance h name))) None) (le-ltb MOST_IN_ACCOUNT (balance h name + n) within)

pub put_refused : {accounts : List AccountView} {h : History} → ShowsAccounts accounts h → (name : List ℕ) (n : ℕ) (f : Refusal) → Some f ≡ put_refusal n (account_of accounts name)
    → IsSome (account_in h name) → balance h name + n ≤ MOST_IN_ACCOUNT → ⊥
put_refused s name n f is known within = none-some f (sym (is ∙ put_is_allowed s name n known within))

pub withdraw_allowed : {accounts : List AccountView} {h : History} → ShowsAccounts accounts h → (name : List ℕ) (n : ℕ)
    → withdraw_refusal n (account_of accounts name) ≡ None → IsSome (account_in h name) × (n ≤ balance h name)
withdraw_allowed {h = h} s name n is = go (account_in h name) (sym (ap (withdraw_refusal n) (account_stands s name)) ∙ is)
  where
    within : (b : Bool) → ltb (balance h name) n ≡ b → cond b (Some (PoorAccount (balance h name))) None ≡ None → n ≤ balance h name
    within true above is = absurd cc
    within false below is = ltb-false _ _ below

    go : (o : Option Entry) → withdraw_refusal n (option_map (λ key. standing h name) (option_map account_key o)) ≡ None → IsSome o × (n ≤ balance h name)
    go None is = absurd cc
    go (Some x) is = (refl, within (ltb (balance h name) n) refl is)

pub withdraw_is_allowed : {accounts : List AccountView} {h : History} → ShowsAccounts accounts h → (name : List ℕ) (n : ℕ)
    → IsSome (account_in h name) → n ≤ balance h name → withdraw_refusal n (account_of accounts name) ≡ None
withdraw_is_allowed {h = h} s name n known within = ap (withdraw_refusal n) (account_stands s name) ∙ go (account_in h name) known
  where
    go : (o : Option Entry) → IsSome o → withdraw_refusal n (option_map (λ key. standing h name) (option_map account_key o)) ≡ None
    go None known = absurd cc
    go (Some x) known = ap (λ (b : Bool). cond b (Some (PoorAccount (balance h name))) None) (le-ltb (balance h name) n within)

pub withdraw_refused : {accounts : List AccountView} {h : History} → ShowsAccounts accounts h → (name : List ℕ) (n : ℕ) (f : Refusal) → Some f ≡ withdraw_refusal n (account_of accounts name)
    → IsSome (account_in h name) → n ≤ balance h name → ⊥
withdraw_refused s name n f is known within = none-some f (sym (is ∙ withdraw_is_allowed s name n known within))

pub draw_is_allowed : {accounts : List AccountView} {h : History} → ShowsAccounts accounts h → (name : List ℕ) (order n : ℕ)
    → IsSome (account_in h name) → last_order h name < order → n ≤ balance h name → draw_refusal order n (account_of accounts name) ≡ None
draw_is_allowed {h = h} s name order n known rises within = ap (draw_refusal order n) (account_stands s name) ∙ go (account_in h name) known
  where
    go : (o : Option Entry) → IsSome o → draw_refusal order n (option_map (λ key. standing h name) (option_map account_key o)) ≡ None
    go None known = absurd cc
    go (Some x) known =
        ap (λ (b : Bool). cond b (Some (StaleOrder (last_order h name))) (withdraw_refusal n (Some (standing h name)))) (lt-leb order (last_order h name) rises)
        ∙ ap (λ (b : Bool). cond b (Some (PoorAccount (balance h name))) None) (le-ltb (balance h name) n within)

-- ---- credits

-- the errand that was read of a target
pub errand_is : {read e : errands.Errand} (target : List ℕ) → read ≡ e → Some (errand read) ≡ errand_of target → errand_of target ≡ Some (errand e)
errand_is target same is = sym is ∙ ap (λ (x : errands.Errand). some (errand x)) same
  where
    some : Errand → Option Errand
    some x = Some x

-- what an Accept entry puts into an account, of which the accounts answered that it is there and holds it
record IsPutIn (h : History) (e : Entry) (x : Movement) : Type 0 where
  puts : put_in e ≡ Some x
  known : IsSome (account_in h x.account)
  within : balance h x.account + x.amount ≤ MOST_IN_ACCOUNT

abbrev Answered : History → Option Movement → Type 0
Answered h o = IfSome o (λ x. IsSome (account_in h x.account) × (balance h x.account + x.amount ≤ MOST_IN_ACCOUNT) × (x.amount ≤ MOST))

credit_is : (h : History) (m : ℕ) (scrip target : List ℕ) (sign : Option (List ℕ)) (price : ℕ) (change : Option ℕ) (deed : Deed) (x : Movement)
    → AccountsAnswer h (Accept m scrip target sign price change deed) → Some x ≡ credit_within (credit_by deed target price) → IsPutIn h (Accept m scrip target sign price change deed) x
credit_is h m scrip target sign price change goods_deed x answer is = absurd cc
credit_is h m scrip target sign price change (sale stock id) x answer is = absurd cc
credit_is h m scrip target sign price change (credit after) x answer is = go (credited_for (errand_of target) price) refl answer is
  where
    go : (o : Option Movement) → credited_for (errand_of target) price ≡ o → Answered h o → Some x ≡ credit_within o → IsPutIn h (Accept m scrip target sign price change (credit after)) x
    go None same answer is = absurd cc
    go (Some y) same answer is =
        let fits : ◌≡◌ {A = Option Movement} (Some x) (Some y) = is ∙ ap (λ (b : Bool). cond b (Some y) None) (le-leb y.amount MOST answer.2) in
        subst (λ (z : Movement). IsPutIn h (Accept m scrip target sign price change (credit after)) z) (sym (same_Some x y fits))
        (record { puts = same; known = answer.0; within = answer.1 })

-- the accounts take it
pub credit_refused : {accounts : List AccountView} {h : History} → ShowsAccounts accounts h
    → (m : ℕ) (scrip target : List ℕ) (sign : Option (List ℕ)) (price : ℕ) (change : Option ℕ) (deed : Deed) (name : List ℕ) (n coin : ℕ) (f : Refusal)
    → AccountsAnswer h (Accept m scrip target sign price change deed) → Some (movement name n) ≡ credit_within (credit_by deed target price)
    → coin ≡ n → Some f ≡ put_refusal coin (account_of accounts name) → ⊥
credit_refused {accounts = accounts} {h = h} s m scrip target sign price change deed name n coin f answer is worth refused =
    let put = credit_is h m scrip target sign price change deed (movement name n) answer is in
    put_refused s name n f (refused ∙ ap (λ (x : ℕ). put_refusal x (account_of accounts name)) worth) put.known put.within

pub credit_more : {accounts now : List AccountView} {h : History} → ShowsAccounts accounts h
    → (m : ℕ) (scrip target : List ℕ) (sign : Option (List ℕ)) (price : ℕ) (change : Option ℕ) (deed : Deed) (name : List ℕ) (n coin : ℕ)
    → AccountsAnswer h (Accept m scrip target sign price change deed) → Some (movement name n) ≡ credit_within (credit_by deed target price)
    → coin ≡ n → now ≡ changed name (credited coin) accounts → ShowsAccounts now (h ++ Accept m scrip target sign price change deed ∷ [])
credit_more {accounts = accounts} {h = h} s m scrip target sign price change deed name n coin answer is worth taken =
    let put = credit_is h m scrip target sign price change deed (movement name n) answer is in
    subst (λ (as' : List AccountView). ShowsAccounts as' (h ++ Accept m scrip target sign price change deed ∷ []))
    (sym (taken ∙ ap (λ (x : ℕ). changed name (credited x) accounts) worth))
    (put_more s (Accept m scrip target sign price change deed) name n refl put.puts refl (λ q. refl) put.known)

-- an Accept entry that puts nothing into an account
pub no_credit_more : {accounts : List AccountView} {h : History} → ShowsAccounts accounts h
    → (m : ℕ) (scrip target : List ℕ) (sign : Option (List ℕ)) (price : ℕ) (change : Option ℕ) (deed : Deed)
    → AccountsAnswer h (Accept m scrip target sign price change deed) → None ≡ credit_within (credit_by deed target price)
    → ShowsAccounts accounts (h ++ Accept m scrip target sign price change deed ∷ [])
no_credit_more s m scrip target sign price change goods_deed answer is = none_more s (Accept m scrip target sign price change goods_deed) refl refl refl (λ q. refl)
no_credit_more s m scrip target sign price change (sale stock id) answer is = none_more s (Accept m scrip target sign price change (sale stock id)) refl refl refl (λ q. refl)
no_credit_more {h = h} s m scrip target sign price change (credit after) answer is =
    none_more s (Accept m scrip target sign price change (credit after)) refl (go (credited_for (errand_of target) price) answer is) refl (λ q. refl)
  where
    go : (o : Option Movement) → Answered h o → None ≡ credit_within o → o ≡ None
    go None answer is = refl
    go (Some y) answer is = let fits = is ∙ ap (λ (b : Bool). cond b (Some y) None) (le-leb y.amount MOST answer.2) in absurd cc

-- ---- draws

pub no_draw_more : {accounts : List AccountView} {h : History} → ShowsAccounts accounts h → (m : ℕ) (target sign : List ℕ) (drawn_id : ℕ)
    → order_of target ≡ None → ShowsAccounts accounts (h ++ Draw m target sign drawn_id ∷ [])
no_draw_more s m target sign drawn_id none =
    none_more s (Draw m target sign drawn_id) refl refl (ap (option_map (λ (o : Order). movement o.account o.amount)) none) (λ q. ap (order_at q) none)

-- ---- entries of which the accounts keep nothing

pub record IsQuiet (e : Entry) : Type 0 where
  pub allowed : (h : History) → AccountsAllow h e
  pub opens : account_name e ≡ None
  pub puts : put_in e ≡ None
  pub takes : taken_out e ≡ None
  pub orders : (name : List ℕ) → order_drawn name e ≡ None
  pub reference : reference_of e ≡ None

pub is_quiet : (r : Record)
    → ((m : ℕ) (scrip target : Bor (List ℕ)) (sign : Option (List ℕ)) (price : ℕ) (change : Option ℕ) (deed : RecordDeed) → r ≡ records.Accept m scrip target sign price change deed → ⊥)
    → ((m : ℕ) (reference : Bor (List ℕ)) (count value first : ℕ) → r ≡ records.Mint m reference count value first → ⊥)
    → ((m : ℕ) (name : Bor (List ℕ)) (key : List ℕ) → r ≡ records.Account m name key → ⊥)
    → ((m : ℕ) (name : Bor (List ℕ)) (amount : ℕ) (reference : Bor (List ℕ)) → r ≡ records.Deposit m name amount reference → ⊥)
    → ((m : ℕ) (name : Bor (List ℕ)) (amount : ℕ) (reference : Bor (List ℕ)) → r ≡ records.Withdraw m name amount reference → ⊥)
    → ((m : ℕ) (target : Bor (List ℕ)) (sign : List ℕ) (drawn : ℕ) → r ≡ records.Draw m target sign drawn → ⊥)
    → IsQuiet (entry r)
is_quiet (records.Accept m scrip target sign price change deed) accept mint account deposit withdraw draw = absurd (accept m scrip target sign price change deed refl)
is_quiet (records.Mint m reference count value first) accept mint account deposit withdraw draw = absurd (mint m reference count value first refl)
is_quiet (records.Account m name key) accept mint account deposit withdraw draw = absurd (account m name key refl)
is_quiet (records.Deposit m name amount reference) accept mint account deposit withdraw draw = absurd (deposit m name amount reference refl)
is_quiet (records.Withdraw m name amount reference) accept mint account deposit withdraw draw = absurd (withdraw m name amount reference refl)
is_quiet (records.Draw m target sign drawn) accept mint account deposit withdraw draw = absurd (draw m target sign drawn refl)
is_quiet r accept mint account deposit withdraw draw = record { allowed = λ h. tt; opens = refl; puts = refl; takes = refl; orders = λ name. refl; reference = refl }

-- ---- what is kept, where it is found otherwise

pub kept_same : {h : History} (was now : AccountLedger) → Represents was h → now.accounts.accounts ≡ was.accounts.accounts → now.payments.items ≡ was.payments.items
    → ((q : List ℕ) → place_of now.references q ≡ place_of was.references q) → Represents now h
kept_same {h = h} was now stands accounts payments names = record {
  of_accounts = subst (λ (as' : List AccountView). ShowsAccounts as' h) (sym accounts) stands.of_accounts;
  payments' = subst (λ (ps : List Payment). ShowsPayments now.references ps h) (sym payments) (record {
    all_references = λ q. stands.payments'.all_references q ∙ sym (ap is_some (names q));
    of_payments = λ q. stands.payments'.of_payments q ∙ sym (ap (option_and_then (slice_get was.payments.items)) (names q));
    within = λ q. subst (λ (o : Option ℕ). IfSome o (λ i. i < length was.payments.items)) (sym (names q)) (stands.payments'.within q);
  });
}
