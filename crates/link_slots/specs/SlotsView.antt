-- What links mean that stand side by side, each in a slot.
use Rattle.std.specs.Prelude.{◌≡◌, ◌≢◌, ℕ, List, ◌++◌, Some, is_some}
use Rattle.mc_outside.specs.DiskView.{DiskView, LinkKeeps}
use Rattle.mc_outside.specs.LinkView.{LinkView, Session, all_sent}

-- how many slots there are, which is turned to, and what the links of each mean, one after another
pub record SlotsView : Type 0 where
  pub count : ℕ
  pub at : ℕ
  pub slot : ℕ → LinkView

-- no link did anything; another slot may be turned to
pub record SlotsStay (a b : SlotsView) : Type 0 where
  pub count' : b.count ≡ a.count
  pub slot' : (q : ℕ) → b.slot q ≡ a.slot q

-- the links of the slot that is turned to did something, and those of no other
pub record WorksHere (a b : SlotsView) : Type 0 where
  pub count' : b.count ≡ a.count
  pub at' : b.at ≡ a.at
  pub others : (q : ℕ) → q ≢ a.at → b.slot q ≡ a.slot q

-- what was sent on a link was put behind all that was sent
pub record SendsBehind (a b : LinkView) (before after : DiskView) : Type 0 where
  pub grows : (ss ts : List Session) → a.sessions ≡ Some ss → b.sessions ≡ Some ts → (part : List ℕ) × (all_sent ts ≡ all_sent ss ++ part) × (after.aside ≡ before.aside ++ part)

-- a turn leaves the disk, and sends nothing
pub record TurnKeeps (before after : DiskView) : Type 0 where
  pub keeps : LinkKeeps before after
  pub aside : after.aside ≡ before.aside
