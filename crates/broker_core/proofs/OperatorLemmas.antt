-- What there is to do by the calls of a broker's operator, and what comes of it.
use Rattle.std.proofs.Common.{◌≡◌, ℕ, ◌≤◌, [], ◌∷◌, ◌++◌, eqb, List, Option, Some, None, Result, Ok, Err, refl, sym, ap, subst, ◌∙◌}
use Rattle.std.specs.Prelude.{option_map, unwrap_or, IfOk, IfSome, IsSome, IsNone, IsTrue, true, false}
use Rattle.mc_outside.specs.DiskView.{DiskView, Ran}
use Rattle.mc_requests.specs.declared.limits.Limits.{Limits}
use Rattle.mc_records.specs.declared.record.Record.{Record}
use Rattle.scrip_form.specs.Issuing.{Issuing}
use Rattle.issuer_terms.specs.Terms.{are_same_terms}
use Rattle.mc_requests.specs.declared.refusal.Refusal.{Refusal}
use Rattle.mc_requests.specs.declared.refusal.Refusal.TheVariants.{LicenceTwice}
use Rattle.mc_records.specs.Entry.{Entry, Account, Deposit, Withdraw, Licence, Fits, moment_of}
use Rattle.mc_records.specs.Views.{entry}
use Rattle.ledger_model.specs.declared.numbers.TheConstants.{BROKER_KIND}
use Rattle.ledger_model.specs.Histories.{History, time}
use Rattle.ledger_model.specs.Houses.{site_kind, is_broker}
use Rattle.ledger_model.specs.Lawful.{MayFollow, IsAllowed}
use Rattle.ledger_model.specs.Stock.{licence_in}
use Rattle.broker_ledger.specs.Ledger.{AccountsAllow}
use Rattle.broker_ledger.specs.Tasks.{task_of}
use Rattle.house_state.specs.CommandEntries.{IsCommand}
use Rattle.house_core.specs.declared.outcome.Outcome.{Outcome}
use Rattle.house_core.specs.declared.outcome.Outcome.TheVariants as outcomes
use Rattle.house_core.specs.HouseView.{HouseView}
use Rattle.house_core.specs.House.{HouseRepresents, IfDone, outcome_disk}
use Rattle.house_core.specs.Tasks.{Task, Add, Stays, Refuse, Does, LeavesBy, Performs}
use Rattle.house_state.specs.Trade.{TradeView}
use Rattle.broker_core.specs.Tasks.{as_task, licensed, IfAdded, IsCommandAt}

-- ---- the entry of a task

-- an entry by which an operator opens an account, puts money in or pays it out
abbrev pub IsOfAccounts : Entry → Type 0
IsOfAccounts (Account m name key) = Unit {0}
IsOfAccounts (Deposit m name amount reference) = Unit {0}
IsOfAccounts (Withdraw m name amount reference) = Unit {0}
IsOfAccounts _ = ⊥

pub broker_is : (h : History) → site_kind h ≡ Some BROKER_KIND → IsTrue (is_broker h)
broker_is h kind = ap (λ (o : Option ℕ). unwrap_or (option_map (λ k. eqb k 1) o) false) kind

-- what the accounts allow may follow at a broker
allowed_there : (limits : Limits) (h : History) (e : Entry) → IsOfAccounts e → site_kind h ≡ Some BROKER_KIND → AccountsAllow h e → IsAllowed limits h e
allowed_there limits h (Account m name key) is kind a = (broker_is h kind, a)
allowed_there limits h (Deposit m name amount reference) is kind a = (broker_is h kind, a.0, a.1, a.2)
allowed_there limits h (Withdraw m name amount reference) is kind a = (broker_is h kind, a.0, a.1, a.2)
allowed_there limits h _ is kind a = absurd is

pub added_command : (e : Entry) (r : Result (Option Record) Refusal) → IsCommand e → IfOk r (λ o. IfSome o (λ x. Fits (entry x))) → IfOk r (λ o. IfSome o (λ x. entry x ≡ e))
    → IfAdded (IsCommandAt (moment_of e)) (as_task (task_of r))
added_command e (Ok (Some x)) command fits same = record { fits = fits; command = subst IsCommand (sym same) command; at = ap moment_of same }
added_command e (Ok None) command fits same = tt
added_command e (Err f) command fits same = tt

pub added_may : (limits : Limits) (h : History) (e : Entry) (r : Result (Option Record) Refusal) → IsOfAccounts e → time h ≤ moment_of e → site_kind h ≡ Some BROKER_KIND
    → IfOk r (λ o. IfSome o (λ x. AccountsAllow h (entry x))) → IfOk r (λ o. IfSome o (λ x. entry x ≡ e)) → IfAdded (MayFollow limits h) (as_task (task_of r))
added_may limits h e (Ok (Some x)) of order kind allow same =
    let may : MayFollow limits h e = record { in_order = order; allowed = allowed_there limits h e of kind (subst (AccountsAllow h) same allow) } in
    subst (MayFollow limits h) (sym same) may
added_may limits h e (Ok None) of order kind allow same = tt
added_may limits h e (Err f) of order kind allow same = tt

-- ---- the task of a call

abbrev Given : Type 0
Given = Result (Option Record) Refusal

pub added_is : (r : Result (Option Record) Refusal) (o : Option Record) (x : Record) → r ≡ Ok o → o ≡ Some x → Add (entry x) ≡ as_task (task_of r)
added_is r o x is some = sym (ap (λ (y : Given). as_task (task_of y)) (is ∙ ap (λ (y : Option Record). Ok y) some))

pub stays_is : (r : Result (Option Record) Refusal) (o : Option Record) → r ≡ Ok o → o ≡ None → Stays ≡ as_task (task_of r)
stays_is r o is none = sym (ap (λ (y : Given). as_task (task_of y)) (is ∙ ap (λ (y : Option Record). Ok y) none))

pub refused_is : (r : Result (Option Record) Refusal) (f : Refusal) → r ≡ Err f → Refuse f ≡ as_task (task_of r)
refused_is r f is = sym (ap (λ (y : Given). as_task (task_of y)) is)

-- ---- licences

pub licence_may : (limits : Limits) (h : History) (r : Result (Option Record) Refusal) (e : Entry) (t : ℕ) (vendor : List ℕ) (terms : Issuing) → e ≡ Licence t vendor terms → time h ≤ t → site_kind h ≡ Some BROKER_KIND
    → IfOk r (λ o. IsSome o → licence_in h vendor ≡ None) → IfOk r (λ o. IfSome o (λ x. entry x ≡ e)) → IfAdded (MayFollow limits h) (as_task (task_of r))
licence_may limits h (Ok (Some x)) e t vendor terms is order kind new same =
    let may : MayFollow limits h (Licence t vendor terms) = record { in_order = order; allowed = (broker_is h kind, none_there (licence_in h vendor) (new refl)) } in
    subst (MayFollow limits h) (sym (same ∙ is)) may
  where
    none_there : (o : Option Issuing) → o ≡ None → IsNone o
    none_there None e = refl
    none_there (Some y) e = absurd cc
licence_may limits h (Ok None) e t vendor terms is order kind new same = tt
licence_may limits h (Err f) e t vendor terms is order kind new same = tt

pub same_licensed : (t : ℕ) (vendor : List ℕ) (terms standing : Issuing) (o : Option Issuing) → Some standing ≡ o → are_same_terms standing terms ≡ true → Stays ≡ licensed t vendor terms o
same_licensed t vendor terms standing o is same = sym (ap (λ (x : Option Issuing). licensed t vendor terms x) (sym is) ∙ rw same refl)

pub other_licensed : (t : ℕ) (vendor : List ℕ) (terms standing : Issuing) (o : Option Issuing) (issuer : ℕ) → Some standing ≡ o → are_same_terms standing terms ≡ false → issuer ≡ standing.issuer
    → Refuse (LicenceTwice issuer) ≡ licensed t vendor terms o
other_licensed t vendor terms standing o issuer is other number =
    ap (λ (n : ℕ). Refuse (LicenceTwice n)) number ∙ sym (ap (λ (x : Option Issuing). licensed t vendor terms x) (sym is) ∙ rw other refl)

pub new_licensed : (t : ℕ) (vendor : List ℕ) (terms : Issuing) (o : Option Issuing) → None ≡ o → Add (Licence t vendor terms) ≡ licensed t vendor terms o
new_licensed t vendor terms o is = ap (λ (x : Option Issuing). licensed t vendor terms x) is

-- ---- another answer

-- an outcome, with another answer where it is done
abbrev pub told_as : {D T A B : Type 0} → B → Outcome D T A → Outcome D T B
told_as b (outcomes.Done x a) = outcomes.Done x b
told_as b (outcomes.Refused x f) = outcomes.Refused x f
told_as b (outcomes.NoMemory x) = outcomes.NoMemory x
told_as b (outcomes.Halted d) = outcomes.Halted d

module _ {D T A B : Type 0} (view : D → DiskView) (trade : T → TradeView) (Told : Task → History → A → Type 0) (Tells : Task → History → B → Type 0) (limits : Limits) (disk : D) (h : History) (b : B) where
  -- what a house says of each history that it represents
  abbrev Says : HouseView D T → Type 0
  Says x = (task : Task) (g : History) → HouseRepresents view trade x g → Tells task g b

  does_as : (task : Task) (r : Outcome D T A) → IfDone (λ x a. Says x) r → Does view trade Told limits disk h task r → Does view trade Tells limits disk h task (told_as b r)
  does_as (Add e) (outcomes.Done x a) says d = (d.0, says (Add e) (h ++ e ∷ []) d.0, d.2)
  does_as (Add e) (outcomes.Refused x f) says d = d
  does_as (Add e) (outcomes.NoMemory x) says d = d
  does_as (Add e) (outcomes.Halted y) says d = d
  does_as Stays (outcomes.Done x a) says d = (d.0, says Stays h d.0.represents)
  does_as Stays (outcomes.Refused x f) says d = d
  does_as Stays (outcomes.NoMemory x) says d = d
  does_as Stays (outcomes.Halted y) says d = d
  does_as (Refuse g) (outcomes.Done x a) says d = absurd d
  does_as (Refuse g) (outcomes.Refused x f) says d = d
  does_as (Refuse g) (outcomes.NoMemory x) says d = d
  does_as (Refuse g) (outcomes.Halted y) says d = d

  ran_as : (task : Task) (r : Outcome D T A) → Ran (view disk) (view (outcome_disk r)) (LeavesBy task r h (view disk).aside)
      → Ran (view disk) (view (outcome_disk (told_as b r))) (LeavesBy task (told_as b r) h (view disk).aside)
  ran_as (Add e) (outcomes.Done x a) ran = ran
  ran_as (Add e) (outcomes.Refused x f) ran = ran
  ran_as (Add e) (outcomes.NoMemory x) ran = ran
  ran_as (Add e) (outcomes.Halted y) ran = ran
  ran_as Stays (outcomes.Done x a) ran = ran
  ran_as Stays (outcomes.Refused x f) ran = ran
  ran_as Stays (outcomes.NoMemory x) ran = ran
  ran_as Stays (outcomes.Halted y) ran = ran
  ran_as (Refuse g) (outcomes.Done x a) ran = ran
  ran_as (Refuse g) (outcomes.Refused x f) ran = ran
  ran_as (Refuse g) (outcomes.NoMemory x) ran = ran
  ran_as (Refuse g) (outcomes.Halted y) ran = ran

  -- a task was done, and its answer is what the house says of the history that stands then
  pub performs_as : (Asks : Task → Type 0) (r : Outcome D T A) → IfDone (λ x a. Says x) r → Performs view trade Asks Told limits disk h r → Performs view trade Asks Tells limits disk h (told_as b r)
  performs_as Asks r says p = record { task = p.task; asks = p.asks; does = does_as p.task r says p.does; ran = ran_as p.task r p.ran }
