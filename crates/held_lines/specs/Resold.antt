-- The lines of the pieces of a wallet that another may sell, by its history.
use Rattle.std.specs.Prelude.{◌≡◌, ℕ, ◌<◌, List, [], ◌++◌, length, take, filter, flat_map, Result, Ok, Err}
use Rattle.mc_records.specs.PieceLine.{piece_line}
use Rattle.mc_requests.specs.declared.refusal.Refusal.TheVariants.{NoFunds}
use Rattle.ledger_model.specs.Histories.{History}
use Rattle.ledger_model.specs.Pieces.{is_first_hand}
use Rattle.wallet_model.specs.Asks.{Offered, fit_for}
use Rattle.held_lines.specs.declared.lines.TheConstants.{MOST}
use Rattle.held_lines.specs.declared.lines.LinesFault.{LinesFault}
use Rattle.held_lines.specs.declared.lines.LinesFault.TheVariants as faults

-- The first pieces of a vendor, in the order in which they came, that are held, not expired at a time, and as they were
-- first handed out.
abbrev pub resold_for : History → ℕ → List ℕ → List Offered
resold_for h t vendor = take MOST (filter (λ o. is_first_hand o.piece) (fit_for h t vendor))

-- its scrip text and its customer secret, as a line
abbrev pub line_of : Offered → List ℕ
line_of o = piece_line (record { text = o.holding.text; secret = o.holding.secret })

abbrev pub lines_of : List Offered → List ℕ
lines_of os = flat_map line_of os

-- the lines are appended, of which there are so many
pub record AreAppended (os : List Offered) (old new : List ℕ) (count : ℕ) : Type 0 where
  pub counted : count ≡ length os
  pub some : 0 < count
  pub appended : new ≡ old ++ lines_of os

-- or there are none (62 NoFunds with 0), or memory was refused, and the bytes are as before
abbrev pub Appends : List Offered → List ℕ → List ℕ → Result ℕ LinesFault → Type 0
Appends os old new (Ok count) = AreAppended os old new count
Appends os old new (Err (faults.Refused f)) = (f ≡ NoFunds 0) × (os ≡ []) × (new ≡ old)
Appends os old new (Err faults.NoMemory) = new ≡ old

-- whatever the pieces are: an Err leaves the bytes, and is no other refusal
abbrev pub LeavesBytes : List ℕ → List ℕ → Result ℕ LinesFault → Type 0
LeavesBytes old new (Ok count) = Unit {0}
LeavesBytes old new (Err (faults.Refused f)) = (f ≡ NoFunds 0) × (new ≡ old)
LeavesBytes old new (Err faults.NoMemory) = new ≡ old
