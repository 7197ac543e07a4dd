-- Entries that accept nothing.
use Rattle.std.specs.Prelude.{◌≡◌, ℕ, false, [], None}
use Rattle.mc_requests.specs.Requests.{Asked}
use Rattle.mc_records.specs.Entry.{Entry}
use Rattle.ledger_model.specs.Histories.{History}
use Rattle.ledger_model.specs.Pieces.{accepted_piece, handed_piece}
use Rattle.ledger_model.specs.Sums.{price_paid}
use Rattle.ledger_model.specs.Stages.{is_repeat}
use Rattle.ledger_model.specs.Replies.{reply_after}

-- An entry that accepts nothing: no piece comes in or goes out with it, no request repeats it, nothing is
-- paid, and it has no reply.
pub record AcceptsNothing (e : Entry) : Type 0 where
  pub piece : accepted_piece e ≡ None
  pub handed : (before : History) → handed_piece before e ≡ None
  pub repeats : (keep t : ℕ) (q : Asked) → is_repeat keep t q e ≡ false
  pub price : price_paid e ≡ 0
  pub reply : (before : History) → reply_after before e ≡ []
