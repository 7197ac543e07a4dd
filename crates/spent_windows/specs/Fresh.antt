-- What a Fresh tells: an identity, and the windows that were asked for it, as they were then.
use Rattle.std.specs.Prelude.{ℕ, List}
use Rattle.spent_windows.specs.Windows.{WindowView}

pub record FreshView : Type 0 where
  pub id : ℕ
  pub seen : List WindowView
