-- What a call of the trade's performed, as an operation of the operator.
use Rattle.std.proofs.Common.{◌≡◌, ℕ, List, [], ◌∷◌, ◌++◌, Result, Ok, Err, refl, sym, subst}
use Rattle.std.specs.Prelude.{OnOk}
use Rattle.mc_base.specs.declared.no_memory.NoMemory.{NoMemory}
use Rattle.mc_outside.specs.DiskView.{DiskView, IsDisk, Ran}
use Rattle.mc_outside.proofs.Runs.{ran_none, ran_weaker}
use Rattle.mc_requests.specs.declared.limits.Limits.{Limits}
use Rattle.mc_requests.specs.declared.refusal.Refusal.{Refusal}
use Rattle.ledger_model.specs.Histories.{History}
use Rattle.scrip_journal.specs.Exits.{EncodesNoOutput}
use Rattle.scrip_journal.specs.Rests.{journal_leaves}
use Rattle.house_core.specs.HouseView.{HouseView}
use Rattle.house_core.specs.declared.outcome.Outcome.{Outcome}
use Rattle.house_core.specs.declared.outcome.Outcome.TheVariants as outcomes
use Rattle.house_core.specs.House as houses
use Rattle.house_core.specs.House.{HouseRepresents, HandsBack, IfRefused, outcome_disk}
use Rattle.house_state.specs.Trade.{TradeView}
use Rattle.house_core.specs.Tasks.{Task, Add, Stays, Refuse, after, IsDoable, Does, LeavesBy, Performs}
use Rattle.operator_command.specs.Operations.{without_answer, looked, IfDone}

disk_as : {D T A : Type 0} (out : Outcome D T A) → outcome_disk (without_answer out) ≡ outcome_disk out
disk_as (outcomes.Done x a) = refl
disk_as (outcomes.Refused x f) = refl
disk_as (outcomes.NoMemory x) = refl
disk_as (outcomes.Halted d) = refl

does_as : {D T A : Type 0} (disk : D → DiskView) (trade : T → TradeView) (Told : Task → History → A → Type 0) (Says : Task → Type 0) (limits : Limits) (d : D) (h : History) (task : Task) (out : Outcome D T A)
    → ((answer : A) → IsDoable task → Told task (after task h) answer → Says task)
    → Does disk trade Told limits d h task out → Does disk trade (λ t g answer. Says t) limits d h task (without_answer out)
does_as disk trade Told Says limits d h (Add e) (outcomes.Done x a) says does = (does.0, says a tt does.1, does.2)
does_as disk trade Told Says limits d h (Add e) (outcomes.Refused x f) says does = does
does_as disk trade Told Says limits d h (Add e) (outcomes.NoMemory x) says does = does
does_as disk trade Told Says limits d h (Add e) (outcomes.Halted y) says does = does
does_as disk trade Told Says limits d h Stays (outcomes.Done x a) says does = (does.0, says a tt does.1)
does_as disk trade Told Says limits d h Stays (outcomes.Refused x f) says does = absurd does
does_as disk trade Told Says limits d h Stays (outcomes.NoMemory x) says does = does
does_as disk trade Told Says limits d h Stays (outcomes.Halted y) says does = absurd does
does_as disk trade Told Says limits d h (Refuse g) (outcomes.Done x a) says does = absurd does
does_as disk trade Told Says limits d h (Refuse g) (outcomes.Refused x f) says does = does
does_as disk trade Told Says limits d h (Refuse g) (outcomes.NoMemory x) says does = absurd does
does_as disk trade Told Says limits d h (Refuse g) (outcomes.Halted y) says does = absurd does

leaves_as : {D T A : Type 0} (task : Task) (out : Outcome D T A) (h : History) (aside c s : List ℕ) → LeavesBy task out h aside c s → LeavesBy task (without_answer out) h aside c s
leaves_as (Add e) (outcomes.Done x a) h aside c s is = is
leaves_as (Add e) (outcomes.Refused x f) h aside c s is = is
leaves_as (Add e) (outcomes.NoMemory x) h aside c s is = is
leaves_as (Add e) (outcomes.Halted y) h aside c s is = is
leaves_as Stays out h aside c s is = is
leaves_as (Refuse g) out h aside c s is = is

-- it performs what the command asks for, and says its line
pub performs_as : {D T A : Type 0} (disk : D → DiskView) (trade : T → TradeView) (Asks Wanted : Task → Type 0) (Told : Task → History → A → Type 0) (Says : Task → Type 0) (limits : Limits) (d : D) (h : History) (out : Outcome D T A)
    → ((task : Task) → Asks task → Wanted task) → ((task : Task) (answer : A) → IsDoable task → Told task (after task h) answer → Says task)
    → Performs disk trade Asks Told limits d h out → Performs disk trade Wanted (λ task g answer. Says task) limits d h (without_answer out)
performs_as {D = D} disk trade Asks Wanted Told Says limits d h out wanted says does = record {
  task = does.task;
  asks = wanted does.task does.asks;
  does = does_as disk trade Told Says limits d h does.task out (says does.task) does.does;
  ran = subst (λ (y : D). Ran (disk d) (disk y) (LeavesBy does.task (without_answer out) h (disk d).aside)) (sym (disk_as out))
      (ran_weaker (disk d) (disk (outcome_disk out)) _ _ does.ran (λ c s p. leaves_as does.task out h (disk d).aside c s p));
}

-- and it hands back what the call does
pub back_as : {D T A : Type 0} (disk : D → DiskView) (moved : D → D → Type 0) (Keeps : HouseView D T → Type 0) (d : D) (out : Outcome D T A) → HandsBack disk moved Keeps d out → HandsBack disk moved Keeps d (without_answer out)
back_as disk moved Keeps d (outcomes.Done x a) is = record { moved' = is.moved'; keeps = is.keeps; counts = is.counts }
back_as disk moved Keeps d (outcomes.Refused x f) is = record { moved' = is.moved'; keeps = is.keeps; counts = is.counts }
back_as disk moved Keeps d (outcomes.NoMemory x) is = record { moved' = is.moved'; keeps = is.keeps; counts = is.counts }
back_as disk moved Keeps d (outcomes.Halted y) is = record { moved' = is.moved'; keeps = is.keeps; counts = is.counts }

-- and it is refused as the call is
pub refused_as : {D T A : Type 0} (P : Refusal → Type 0) (out : Outcome D T A) → IfRefused P out → IfRefused P (without_answer out)
refused_as P (outcomes.Done x a) is = tt
refused_as P (outcomes.Refused x f) is = is
refused_as P (outcomes.NoMemory x) is = tt
refused_as P (outcomes.Halted y) is = tt

-- it is refused before the trade is asked
pub performs_refused : {D T : Type 0} (disk : D → DiskView) (trade : T → TradeView) (Wanted : Task → Type 0) (Told : Task → History → Unit {0} → Type 0) (limits : Limits) (x : HouseView D T) (h : History) (f : Refusal)
    → ((d : D) → IsDisk (disk d)) → HouseRepresents disk trade x h → Wanted (Refuse f) → Performs disk trade Wanted Told limits x.journal.disk h (outcomes.Refused x f)
performs_refused {D = D} disk trade Wanted Told limits x h f is_disk st wanted = record {
  task = Refuse f;
  asks = wanted;
  does = (refl, record { represents = st; disk' = refl });
  ran = ran_none (disk x.journal.disk) (EncodesNoOutput h (disk x.journal.disk).aside) (is_disk x.journal.disk) (λ c leaves. (journal_leaves disk x.journal h st.journal c leaves, refl));
}

-- what the house that goes on shows is said of the history that it stands for then
does_shown : {D T A : Type 0} (disk : D → DiskView) (trade : T → TradeView) (Told : Task → History → A → Type 0) (Says : History → Type 0) (limits : Limits) (d : D) (h : History) (task : Task) (out : Outcome D T A)
    → ((g : History) → IfDone out (λ x. HouseRepresents disk trade x g → Says g))
    → Does disk trade Told limits d h task out → Does disk trade (λ t g answer. Says (after t h)) limits d h task (without_answer out)
does_shown disk trade Told Says limits d h (Add e) (outcomes.Done x a) says does = (does.0, says (h ++ e ∷ []) does.0, does.2)
does_shown disk trade Told Says limits d h (Add e) (outcomes.Refused x f) says does = does
does_shown disk trade Told Says limits d h (Add e) (outcomes.NoMemory x) says does = does
does_shown disk trade Told Says limits d h (Add e) (outcomes.Halted y) says does = does
does_shown disk trade Told Says limits d h Stays (outcomes.Done x a) says does = (does.0, says h does.0.represents)
does_shown disk trade Told Says limits d h Stays (outcomes.Refused x f) says does = absurd does
does_shown disk trade Told Says limits d h Stays (outcomes.NoMemory x) says does = does
does_shown disk trade Told Says limits d h Stays (outcomes.Halted y) says does = absurd does
does_shown disk trade Told Says limits d h (Refuse g) (outcomes.Done x a) says does = absurd does
does_shown disk trade Told Says limits d h (Refuse g) (outcomes.Refused x f) says does = does
does_shown disk trade Told Says limits d h (Refuse g) (outcomes.NoMemory x) says does = absurd does
does_shown disk trade Told Says limits d h (Refuse g) (outcomes.Halted y) says does = absurd does

pub performs_shown : {D T A : Type 0} (disk : D → DiskView) (trade : T → TradeView) (Asks : Task → Type 0) (Told : Task → History → A → Type 0) (Says : History → Type 0) (limits : Limits) (d : D) (h : History) (out : Outcome D T A)
    → ((g : History) → IfDone out (λ x. HouseRepresents disk trade x g → Says g))
    → Performs disk trade Asks Told limits d h out → Performs disk trade Asks (λ task g answer. Says (after task h)) limits d h (without_answer out)
performs_shown {D = D} disk trade Asks Told Says limits d h out says does = record {
  task = does.task;
  asks = does.asks;
  does = does_shown disk trade Told Says limits d h does.task out says does.does;
  ran = subst (λ (y : D). Ran (disk d) (disk y) (LeavesBy does.task (without_answer out) h (disk d).aside)) (sym (disk_as out))
      (ran_weaker (disk d) (disk (outcome_disk out)) _ _ does.ran (λ c s p. leaves_as does.task out h (disk d).aside c s p));
}

pub if_done : {D T A : Type 0} (out : Outcome D T A) (P Q : HouseView D T → Type 0) → ((x : HouseView D T) → P x → Q x) → IfDone out P → IfDone out Q
if_done (outcomes.Done x a) P Q more p = more x p
if_done (outcomes.Refused x f) P Q more p = tt
if_done (outcomes.NoMemory x) P Q more p = tt
if_done (outcomes.Halted d) P Q more p = tt

-- what holds of the house where it is done, in other words
pub known_shown : {D T A : Type 0} (out : Outcome D T A) (P : HouseView D T → Type 0) → houses.IfDone (λ x a. P x) out → IfDone out P
known_shown (outcomes.Done x a) P is = is
known_shown (outcomes.Refused x f) P is = tt
known_shown (outcomes.NoMemory x) P is = tt
known_shown (outcomes.Halted d) P is = tt

-- nothing is entered, and the line is said
pub performs_stays : {D T : Type 0} (disk : D → DiskView) (trade : T → TradeView) (Wanted : Task → Type 0) (Told : Task → History → Unit {0} → Type 0) (limits : Limits) (x : HouseView D T) (h : History)
    → ((d : D) → IsDisk (disk d)) → HouseRepresents disk trade x h → Wanted Stays → Told Stays h tt → Performs disk trade Wanted Told limits x.journal.disk h (outcomes.Done x tt)
performs_stays {D = D} disk trade Wanted Told limits x h is_disk st wanted told = record {
  task = Stays;
  asks = wanted;
  does = (record { represents = st; disk' = refl }, told);
  ran = ran_none (disk x.journal.disk) (EncodesNoOutput h (disk x.journal.disk).aside) (is_disk x.journal.disk) (λ c leaves. (journal_leaves disk x.journal h st.journal c leaves, refl));
}

-- and where memory was refused, nothing is entered either
pub performs_looked : {D T : Type 0} (disk : D → DiskView) (trade : T → TradeView) (Wanted : Task → Type 0) (Told : Task → History → Unit {0} → Type 0) (limits : Limits) (x : HouseView D T) (h : History) (made : Result (Unit {0}) NoMemory)
    → ((d : D) → IsDisk (disk d)) → HouseRepresents disk trade x h → Wanted Stays → OnOk made (Told Stays h tt) → Performs disk trade Wanted Told limits x.journal.disk h (looked x made)
performs_looked disk trade Wanted Told limits x h (Ok a) is_disk st wanted told = performs_stays disk trade Wanted Told limits x h is_disk st wanted told
performs_looked {D = D} disk trade Wanted Told limits x h (Err f) is_disk st wanted told = record {
  task = Stays;
  asks = wanted;
  does = record { represents = st; disk' = refl };
  ran = ran_none (disk x.journal.disk) (EncodesNoOutput h (disk x.journal.disk).aside) (is_disk x.journal.disk) (λ c leaves. (journal_leaves disk x.journal h st.journal c leaves, refl));
}

-- what holds where it was made, in other words
pub made_as : {A E : Type 0} (made : Result A E) (P Q : Type 0) → (P → Q) → OnOk made P → OnOk made Q
made_as (Ok a) P Q more is = more is
made_as (Err f) P Q more is = tt

-- it is never refused
pub looked_unrefused : {D T : Type 0} (P : Refusal → Type 0) (x : HouseView D T) (made : Result (Unit {0}) NoMemory) → IfRefused P (looked x made)
looked_unrefused P x (Ok a) = tt
looked_unrefused P x (Err f) = tt
