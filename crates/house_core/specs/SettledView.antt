-- What contracts see of what says that a request was accepted.
use Rattle.std.specs.Prelude.{ℕ, Option}
use Rattle.spent_windows.specs.Fresh.{FreshView}

-- the number of the entry, by its receipt and as the house keeps it, and what the windows told of the piece
pub record SettledView : Type 0 where
  pub receipt : ℕ
  pub number : ℕ
  pub fresh : Option FreshView
