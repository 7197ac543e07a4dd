-- What there is to do by what is kept.
use Rattle.std.proofs.Common.{◌≡◌, ℕ, ◌+◌, ◌<◌, ◌≤◌, Bool, false, cond, ltb, List, Option, Some, None, option_map, find, IsSome, refl, sym, ap, subst, ◌∙◌}
use Rattle.std.proofs.lemmas.Bool.{lt-ltb, le-ltb}
use Rattle.std.proofs.lemmas.Option.{same_Some}
use Rattle.mc_records.specs.declared.ranges.TheConstants.{MOST_IN_ACCOUNT}
use Rattle.mc_requests.specs.declared.refusal.Refusal.{Refusal}
use Rattle.mc_requests.specs.declared.refusal.Refusal.TheVariants.{NoAccount, PoorAccount, AccountFull}
use Rattle.mc_records.specs.Entry.{Entry, Deposit, Withdraw}
use Rattle.ledger_model.specs.Histories.{History}
use Rattle.ledger_model.specs.Pieces.{has_reference}
use Rattle.ledger_model.specs.Accounts.{account_in, account_key, key_in, balance, last_order}
use Rattle.broker_accounts.specs.Accounts.{put_refusal, withdraw_refusal}
use Rattle.broker_ledger.specs.declared.broker_ledger.Standing.{Standing}
use Rattle.broker_ledger.specs.declared.payment.Payment.{Payment}
use Rattle.broker_ledger.specs.Ledger.{standing, standing_in, is_under, AccountsAllow}
use Rattle.broker_ledger.specs.Tasks.{Task, is_deposit, is_withdrawal, under_reference, unless_refused, account_now, deposit_task, withdraw_task}
use Rattle.broker_ledger.proofs.LedgerLaws.{nothing_found, reference_found}

-- ---- the account of a call

abbrev stood : History → List ℕ → List ℕ → Standing
stood h name key = record { key = key; balance = balance h name; last = last_order h name }

no_account : (h : History) (name : List ℕ) → None ≡ standing_in h name → account_now h name ≡ None
no_account h name is = go (key_in h name) is
  where
    go : (o : Option (List ℕ)) → None ≡ option_map (λ key. stood h name key) o → option_map (λ key. standing h name) o ≡ None
    go None is = refl
    go (Some key) is = absurd cc

account_is : (h : History) (name : List ℕ) (s : Standing) → Some s ≡ standing_in h name → (account_now h name ≡ Some (standing h name)) × (s.balance ≡ balance h name)
account_is h name s is = go (key_in h name) is
  where
    go : (o : Option (List ℕ)) → Some s ≡ option_map (λ key. stood h name key) o → (option_map (λ key. standing h name) o ≡ Some (standing h name)) × (s.balance ≡ balance h name)
    go None is = absurd cc
    go (Some key) is = (refl, ap (λ (x : Standing). x.balance) (same_Some s (stood h name key) is))

-- ---- why it is refused

abbrev full : ℕ → Option Refusal
full n = Some (AccountFull n)

abbrev poor : ℕ → Option Refusal
poor n = Some (PoorAccount n)

pub put_nowhere : (h : History) (name : List ℕ) (n : ℕ) → None ≡ standing_in h name → put_refusal n (account_now h name) ≡ Some NoAccount
put_nowhere h name n is = ap (put_refusal n) (no_account h name is)

pub put_above : (h : History) (name : List ℕ) (n : ℕ) (s : Standing) → Some s ≡ standing_in h name → MOST_IN_ACCOUNT < s.balance + n → put_refusal n (account_now h name) ≡ Some (AccountFull s.balance)
put_above h name n s is above =
    let now = account_is h name s is in
    ap (put_refusal n) now.0 ∙ ap (λ (b : ℕ). cond (ltb MOST_IN_ACCOUNT (b + n)) (full b) None) (sym now.1)
    ∙ ap (λ (b : Bool). cond b (full s.balance) None) (lt-ltb MOST_IN_ACCOUNT (s.balance + n) above)

pub put_within : (h : History) (name : List ℕ) (n : ℕ) (s : Standing) → Some s ≡ standing_in h name → s.balance + n ≤ MOST_IN_ACCOUNT → put_refusal n (account_now h name) ≡ None
put_within h name n s is within =
    let now = account_is h name s is in
    ap (put_refusal n) now.0 ∙ ap (λ (b : ℕ). cond (ltb MOST_IN_ACCOUNT (b + n)) (full b) None) (sym now.1)
    ∙ ap (λ (b : Bool). cond b (full s.balance) None) (le-ltb MOST_IN_ACCOUNT (s.balance + n) within)

pub taken_nowhere : (h : History) (name : List ℕ) (n : ℕ) → None ≡ standing_in h name → withdraw_refusal n (account_now h name) ≡ Some NoAccount
taken_nowhere h name n is = ap (withdraw_refusal n) (no_account h name is)

pub taken_above : (h : History) (name : List ℕ) (n : ℕ) (s : Standing) → Some s ≡ standing_in h name → s.balance < n → withdraw_refusal n (account_now h name) ≡ Some (PoorAccount s.balance)
taken_above h name n s is above =
    let now = account_is h name s is in
    ap (withdraw_refusal n) now.0 ∙ ap (λ (b : ℕ). cond (ltb b n) (poor b) None) (sym now.1) ∙ ap (λ (b : Bool). cond b (poor s.balance) None) (lt-ltb s.balance n above)

pub taken_within : (h : History) (name : List ℕ) (n : ℕ) (s : Standing) → Some s ≡ standing_in h name → n ≤ s.balance → withdraw_refusal n (account_now h name) ≡ None
taken_within h name n s is within =
    let now = account_is h name s is in
    ap (withdraw_refusal n) now.0 ∙ ap (λ (b : ℕ). cond (ltb b n) (poor b) None) (sym now.1) ∙ ap (λ (b : Bool). cond b (poor s.balance) None) (le-ltb s.balance n within)

-- ---- under a new reference

new_reference : (h : History) (reference : List ℕ) (same : Payment → Bool) (new : Task) → has_reference h reference ≡ false → under_reference reference same (find (is_under reference) h) new ≡ new
new_reference h reference same new is =
    ap (λ (o : Option Entry). under_reference reference same o new) (nothing_found (find (is_under reference) h) (sym (reference_found h reference) ∙ is))

pub deposit_judged : (h : History) (t : ℕ) (name : List ℕ) (amount : ℕ) (reference : List ℕ) (o : Option Refusal) → has_reference h reference ≡ false → put_refusal amount (account_now h name) ≡ o
    → unless_refused (Deposit t name amount reference) o ≡ deposit_task h t name amount reference
deposit_judged h t name amount reference o new is =
    let e = Deposit t name amount reference in
    ap (unless_refused e) (sym is) ∙ sym (new_reference h reference (is_deposit name amount) (unless_refused e (put_refusal amount (account_now h name))) new)

pub withdraw_judged : (h : History) (t : ℕ) (name : List ℕ) (amount : ℕ) (reference : List ℕ) (o : Option Refusal) → has_reference h reference ≡ false → withdraw_refusal amount (account_now h name) ≡ o
    → unless_refused (Withdraw t name amount reference) o ≡ withdraw_task h t name amount reference
withdraw_judged h t name amount reference o new is =
    let e = Withdraw t name amount reference in
    ap (unless_refused e) (sym is) ∙ sym (new_reference h reference (is_withdrawal name amount) (unless_refused e (withdraw_refusal amount (account_now h name))) new)

-- ---- the entry may come next

stands_there : (h : History) (name : List ℕ) (s : Standing) → Some s ≡ standing_in h name → IsSome (account_in h name)
stands_there h name s is = go (account_in h name) is
  where
    go : (o : Option Entry) → Some s ≡ option_map (λ key. stood h name key) (option_map account_key o) → IsSome o
    go None is = absurd cc
    go (Some e) is = refl

pub deposit_allowed : (h : History) (t : ℕ) (name : List ℕ) (amount : ℕ) (reference : List ℕ) (s : Standing) → has_reference h reference ≡ false → Some s ≡ standing_in h name
    → s.balance + amount ≤ MOST_IN_ACCOUNT → AccountsAllow h (Deposit t name amount reference)
deposit_allowed h t name amount reference s new is within = (stands_there h name s is, new, subst (λ (b : ℕ). b + amount ≤ MOST_IN_ACCOUNT) (account_is h name s is).1 within)

pub withdraw_allowed : (h : History) (t : ℕ) (name : List ℕ) (amount : ℕ) (reference : List ℕ) (s : Standing) → has_reference h reference ≡ false → Some s ≡ standing_in h name
    → amount ≤ s.balance → AccountsAllow h (Withdraw t name amount reference)
withdraw_allowed h t name amount reference s new is within = (stands_there h name s is, new, subst (λ (b : ℕ). amount ≤ b) (account_is h name s is).1 within)
