-- Whether an entry fits the journal of a book.
use Rattle.std.specs.Prelude.{◌≡◌, Result, Ok, Err}
use Rattle.mc_requests.specs.declared.refusal.Refusal.{Refusal}
use Rattle.mc_records.specs.Entry.{Entry}
use Rattle.ledger_model.specs.Lines.{Stop, Refuse}

-- it fits, or it is refused so
abbrev pub IsFitted : Result Entry Stop → Entry → Result (Unit {0}) Refusal → Type 0
IsFitted fitted e (Ok u) = fitted ≡ Ok e
IsFitted fitted e (Err f) = fitted ≡ Err (Refuse f)
