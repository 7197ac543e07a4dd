-- How far the lines of a wallet's pieces were made.
use Rattle.std.specs.Prelude.{◌≡◌, ℕ, ◌+◌, ◌-◌, ◌≤◌, List, ◌++◌, length, take, drop, filter}
use Rattle.wallet_book.specs.declared.holding.Holding.{Holding}
use Rattle.held_lines.specs.declared.lines.TheConstants.{MOST}
use Rattle.held_lines.specs.Lines.{is_resold, resold, lines}

-- what is left to do of the pieces from a place on, where so many lines are made
abbrev pub rest : ℕ → List ℕ → List Holding → ℕ → ℕ → List Holding
rest t vendor xs place count = take (MOST - count) (filter (is_resold t vendor) (drop place xs))

pub record IsOnTheWay (t : ℕ) (vendor : List ℕ) (xs : List Holding) (old now : List ℕ) (place count : ℕ) : Type 0 where
  pub made : now ++ lines (rest t vendor xs place count) ≡ old ++ lines (resold t vendor xs)
  pub counted : count + length (rest t vendor xs place count) ≡ length (resold t vendor xs)
  pub few : count ≤ MOST
