-- What the calls of a wallet answer.
use Rattle.std.specs.Prelude.{◌≡◌, ℕ, length}
use Rattle.mc_requests.specs.declared.refusal.Refusal.{Refusal}
use Rattle.mc_requests.specs.declared.refusal.Refusal.TheVariants.{BadInput, TwiceHeld, NoFunds, JournalFull, BadReply, Unproved}
use Rattle.mc_records.specs.Entry.{Entry, Got}
use Rattle.ledger_model.specs.Histories.{History}
use Rattle.wallet_core.specs.declared.outcome.WalletOut.{WalletOut}
use Rattle.wallet_core.specs.declared.outcome.WalletOut.TheVariants as outs

-- ---- by a history

-- the number of the entry
abbrev pub TellsNumber : History → Entry → ℕ → Type 0
TellsNumber h e number = number ≡ length h

-- how many pieces it brings
abbrev pub TellsCount : Entry → ℕ → Type 0
TellsCount (Got m pieces) count = count ≡ length pieces
TellsCount _ count = ⊥

-- ---- whatever the disk tells

-- only such refusals are answered, and of what else is answered this holds
abbrev pub TellsOnly : {D A : Type 0} → (Refusal → Type 0) → (A → Type 0) → WalletOut D A → Type 0
TellsOnly R T (outs.Done x a) = T a
TellsOnly R T (outs.Refused x f) = R f
TellsOnly R T (outs.NoMemory x) = Unit {0}
TellsOnly R T (outs.Halted d) = Unit {0}

-- no more is said of what is answered
abbrev pub Any : {A : Type 0} → A → Type 0
Any a = Unit {0}

-- 33 JournalFull
abbrev pub IsFull : Refusal → Type 0
IsFull (JournalFull size payload) = Unit {0}
IsFull _ = ⊥

-- 53 BadInput, 61 TwiceHeld or 33 JournalFull
abbrev pub MayTake : Refusal → Type 0
MayTake (BadInput line) = Unit {0}
MayTake (TwiceHeld id) = Unit {0}
MayTake (JournalFull size payload) = Unit {0}
MayTake _ = ⊥

-- 62 NoFunds or 33 JournalFull
abbrev pub MayPend : Refusal → Type 0
MayPend (NoFunds greatest) = Unit {0}
MayPend (JournalFull size payload) = Unit {0}
MayPend _ = ⊥

-- 65 BadReply or 66 Unproved
abbrev pub MayCheck : Refusal → Type 0
MayCheck BadReply = Unit {0}
MayCheck Unproved = Unit {0}
MayCheck _ = ⊥
