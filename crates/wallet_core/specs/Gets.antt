-- The kept get of a target, with where the piece stands that it pays with.
use Rattle.std.specs.Prelude.{◌≡◌, ℕ, Option, Some, None, slice_get}
use Rattle.ledger_model.specs.Histories.{History}
use Rattle.wallet_model.specs.Requests.{Pending}
use Rattle.wallet_model.specs.Holdings.{Holding, holdings}

-- a request pays with the piece of a place
pub record PaysFrom (h : History) (p : Pending) (place : ℕ) : Type 0 where
  pub holding : Holding
  pub here : slice_get (holdings h) place ≡ Some holding
  pub pays : p.scrip ≡ Some holding.text

-- the number of a get and the place of its piece are told exactly where there is one
abbrev pub FindsGet : History → Option (ℕ × Pending) → Option (ℕ × ℕ) → Type 0
FindsGet h None result = result ≡ None
FindsGet h (Some x) (Some y) = (y.0 ≡ x.0) × PaysFrom h x.1 y.1
FindsGet h (Some x) None = ⊥
