-- Who opens a book, and what it learns.
use Rattle.std.specs.Prelude.{ℕ, List, [], ◌∷◌, ◌++◌, Result, Ok, Err}
use Rattle.mc_records.specs.Entry.{Entry}
use Rattle.scrip_journal.specs.Causes.{FoundsSite}
use Rattle.scrip_journal.specs.declared.fault.LearnFault.{LearnFault}
use Rattle.scrip_journal.specs.declared.fault.LearnFault.TheVariants as faults

-- What an opener means, whose learners are of this type.
pub record OpenerView (L : Type 0) : Type 1 where
  -- a learner can begin
  pub ready : Type 0
  -- the entry may follow these
  pub may : List Entry → Entry → Type 0
  -- what is found of an entry behind these before it is learned
  pub asks : List Entry → Entry → Type 0
  -- books of a site of this kind are opened
  pub kinds : ℕ → Type 0
  -- what holds of its learners whatever they learned, as their limits
  pub belongs : L → Type 0
  -- what the learner keeps is what these entries say
  pub holds : L → List Entry → Type 0

-- a Site entry
abbrev pub IsSite : Entry → Type 0
IsSite e = FoundsSite (λ kind. Unit {0}) e

-- What comes of an entry behind these: it may follow, and what is answered holds it too; or it may not follow; or
-- there is no memory for it.
abbrev pub Learns : {A : Type 0} → (List Entry → Entry → Type 0) → (A → List Entry → Type 0) → List Entry → Entry → Result A LearnFault → Type 0
Learns may holds h e (Ok x) = may h e × holds x (h ++ e ∷ [])
Learns may holds h e (Err faults.Unlawful) = may h e → ⊥
Learns may holds h e (Err faults.NoMemory) = Unit {0}
