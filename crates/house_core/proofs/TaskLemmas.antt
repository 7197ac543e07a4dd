-- What comes of a task.
use Rattle.std.proofs.Common.{◌≡◌, ℕ, ◌+◌, [], ◌∷◌, ◌++◌, length, Err, refl, arith, length-append}
use Rattle.mc_outside.specs.DiskView.{DiskView, IsDisk, Ran}
use Rattle.mc_requests.specs.declared.limits.Limits.{Limits}
use Rattle.mc_requests.specs.declared.refusal.Refusal.{Refusal}
use Rattle.mc_records.specs.Entry.{Entry}
use Rattle.ledger_model.specs.Histories.{History}
use Rattle.ledger_model.specs.Answer as answers
use Rattle.ledger_model.specs.Answer.{fitted}
use Rattle.ledger_model.specs.Lines as lines
use Rattle.house_core.specs.HouseView.{HouseView}
use Rattle.house_core.specs.declared.outcome.Outcome.{Outcome}
use Rattle.house_core.specs.declared.outcome.Outcome.TheVariants as outcomes
use Rattle.house_core.specs.House.{HouseRepresents, Entered, Leaves, outcome_disk}
use Rattle.house_core.specs.Tasks.{Task, Add, Stays, Refuse, IsDoable, Performs, TellsLast}
use Rattle.house_state.specs.Trade.{TradeView}
use Rattle.house_core.proofs.HouseDisk.{ran_nothing, as_it_stood}

-- an outcome, with what is answered in place of a number
abbrev pub answered_as : {D T A : Type 0} → (ℕ → A) → Outcome D T ℕ → Outcome D T A
answered_as f (outcomes.Done x n) = outcomes.Done x (f n)
answered_as f (outcomes.Refused x g) = outcomes.Refused x g
answered_as f (outcomes.NoMemory x) = outcomes.NoMemory x
answered_as f (outcomes.Halted d) = outcomes.Halted d

-- it is done
abbrev pub IsDone : {D T A : Type 0} → Outcome D T A → Type 0
IsDone (outcomes.Done x a) = Unit {0}
IsDone _ = ⊥

module _ {D T A : Type 0} (view : D → DiskView) (trade : T → TradeView) (Asks : Task → Type 0) (Told : Task → History → A → Type 0) (limits : Limits) where
  -- an entry was asked for, and it was entered as it is by a house
  pub enters : (f : ℕ → A) (disk : D) (h : History) (e : Entry) (r : Outcome D T ℕ) → Asks (Add e) → (IsDone r → (n : ℕ) → n ≡ length h → Told (Add e) (h ++ e ∷ []) (f n))
      → Entered view trade limits disk h e r → Ran (view disk) (view (outcome_disk r)) (Leaves (answers.Take e) r h (view disk).aside)
      → Performs view trade Asks Told limits disk h (answered_as f r)
  enters f disk h e (outcomes.Done x n) asks told is ran = record { task = Add e; asks = asks; does = (is.0.represents, told tt n is.0.number', is.1); ran = ran }
  enters f disk h e (outcomes.Refused x g) asks told is ran = record { task = Add e; asks = asks; does = is; ran = ran }
  enters f disk h e (outcomes.NoMemory x) asks told is ran = record { task = Add e; asks = asks; does = is; ran = ran }
  enters f disk h e (outcomes.Halted d) asks told is ran = record { task = Add e; asks = asks; does = is; ran = ran }

  module _ (x : HouseView D T) (h : History) (disk : IsDisk (view x.journal.disk)) (st : HouseRepresents view trade x h) where
    pub refuses : (f : Refusal) → Asks (Refuse f) → Performs view trade Asks Told limits x.journal.disk h (outcomes.Refused x f)
    refuses f asks = record {
      task = Refuse f;
      asks = asks;
      does = (refl, as_it_stood view trade x h st);
      ran = ran_nothing view x.journal x.journal.disk h disk st.journal refl;
    }

    -- its entry does not fit the journal
    pub unfitted : (e : Entry) (f : Refusal) → Asks (Add e) → fitted h limits e ≡ Err (lines.Refuse f) → Performs view trade Asks Told limits x.journal.disk h (outcomes.Refused x f)
    unfitted e f asks over = record {
      task = Add e;
      asks = asks;
      does = (over, as_it_stood view trade x h st);
      ran = ran_nothing view x.journal x.journal.disk h disk st.journal refl;
    }

    pub stays : (a : A) → Asks Stays → Told Stays h a → Performs view trade Asks Told limits x.journal.disk h (outcomes.Done x a)
    stays a asks told = record {
      task = Stays;
      asks = asks;
      does = (as_it_stood view trade x h st, told);
      ran = ran_nothing view x.journal x.journal.disk h disk st.journal refl;
    }

    pub wants_memory : (task : Task) → IsDoable task → Asks task → Performs view trade Asks Told limits x.journal.disk h (outcomes.NoMemory x)
    wants_memory (Add e) doable asks = record {
      task = Add e;
      asks = asks;
      does = as_it_stood view trade x h st;
      ran = ran_nothing view x.journal x.journal.disk h disk st.journal refl;
    }
    wants_memory Stays doable asks = record {
      task = Stays;
      asks = asks;
      does = as_it_stood view trade x h st;
      ran = ran_nothing view x.journal x.journal.disk h disk st.journal refl;
    }
    wants_memory (Refuse f) doable asks = absurd doable

pub tells_last : (h : History) (e : Entry) (n : ℕ) → n ≡ length h → n + 1 ≡ length (h ++ e ∷ [])
tells_last h e n is = omega (arith, is, length-append h (e ∷ []))

-- an entry was asked for, of which the number is answered
pub enters_last : {D T : Type 0} (view : D → DiskView) (trade : T → TradeView) (Asks : Task → Type 0) (limits : Limits)
    (disk : D) (h : History) (e : Entry) (r : Outcome D T ℕ) → Asks (Add e)
    → Entered view trade limits disk h e r → Ran (view disk) (view (outcome_disk r)) (Leaves (answers.Take e) r h (view disk).aside)
    → Performs view trade Asks TellsLast limits disk h r
enters_last {D = D} {T = T} view trade Asks limits disk h e r asks is ran = go r (enters view trade Asks TellsLast limits (λ n. n) disk h e r asks (λ done. tells_last h e) is ran)
  where
    go : (s : Outcome D T ℕ) → Performs view trade Asks TellsLast limits disk h (answered_as (λ n. n) s) → Performs view trade Asks TellsLast limits disk h s
    go (outcomes.Done x n) p = p
    go (outcomes.Refused x g) p = p
    go (outcomes.NoMemory x) p = p
    go (outcomes.Halted d) p = p
