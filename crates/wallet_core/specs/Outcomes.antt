-- What comes of a call of a wallet that may write an entry.
use Rattle.std.specs.Prelude.{◌≡◌, ℕ, List, [], ◌∷◌, ◌++◌, Result, Ok, Err}
use Rattle.mc_outside.specs.Bytes.{Rose}
use Rattle.mc_outside.specs.DiskView.{DiskView, Ran}
use Rattle.mc_requests.specs.declared.refusal.Refusal.{Refusal}
use Rattle.mc_records.specs.Entry.{Entry}
use Rattle.ledger_model.specs.Histories.{History}
use Rattle.ledger_model.specs.Lines as lines
use Rattle.ledger_model.specs.Answer.{fitted}
use Rattle.scrip_journal.specs.Exits.{EncodesNoOutput, EitherNoOutput}
use Rattle.wallet_model.specs.Follows.{WalletFollows}
use Rattle.wallet_book.specs.Book.{IsSameBook}
use Rattle.wallet_core.specs.WalletView.{WalletView}
use Rattle.wallet_core.specs.declared.outcome.WalletOut.{WalletOut}
use Rattle.wallet_core.specs.declared.outcome.WalletOut.TheVariants.{Done, Refused, NoMemory, Halted}
use Rattle.wallet_core.specs.Wallet.{WalletStands}

-- the disk that comes back, whatever the outcome
abbrev pub outcome_disk : {D A : Type 0} → WalletOut D A → D
outcome_disk (Done x a) = x.journal.disk
outcome_disk (Refused x f) = x.journal.disk
outcome_disk (NoMemory x) = x.journal.disk
outcome_disk (Halted d) = d

-- P of the wallet that comes back, where one does
abbrev pub OfWallet : {D A : Type 0} → (WalletView D → Type 0) → WalletOut D A → Type 0
OfWallet P (Done x a) = P x
OfWallet P (Refused x f) = P x
OfWallet P (NoMemory x) = P x
OfWallet P (Halted d) = Unit {0}

-- the count of the disk's faults rose where the wallet halted, and stayed else
abbrev pub CountsFaults : {D A : Type 0} → WalletOut D A → ℕ → ℕ → Type 0
CountsFaults (Halted d) before after = Rose before after
CountsFaults _ before after = after ≡ before

-- The wallet is the one that was given: its journal, its time and all that it has learned. Room may have been made.
pub record IsUnchanged {D : Type 0} (old x : WalletView D) : Type 0 where
  pub journal' : x.journal ≡ old.journal
  pub book' : IsSameBook old.book x.book

-- a wallet that is refused something, by a rule or for want of memory, is unchanged
abbrev pub StaysUnchanged : {D A : Type 0} → WalletView D → WalletOut D A → Type 0
StaysUnchanged old (Refused x f) = IsUnchanged old x
StaysUnchanged old (NoMemory x) = IsUnchanged old x
StaysUnchanged old _ = Unit {0}

-- What each call that may write an entry hands back, whatever the disk tells: the wallet with its limits, unchanged
-- where nothing was written, or the disk where that failed. Calls of Disk alone led there, and the count of faults rose
-- exactly where the wallet halted.
pub record HandsBack {D A : Type 0} (view : D → DiskView) (moved : D → D → Type 0) (old : WalletView D) (result : WalletOut D A) : Type 0 where
  pub moved' : moved old.journal.disk (outcome_disk result)
  pub limits : OfWallet (λ x. x.book.limits ≡ old.book.limits) result
  pub counts : CountsFaults result (view old.journal.disk).faults (view (outcome_disk result)).faults
  pub stays : StaysUnchanged old result

-- ---- what was done

-- The wallet is as it was: its journal was not touched, and it stands for the history at the same time.
pub record IsAsItWas {D : Type 0} (view : D → DiskView) (old x : WalletView D) (h : History) : Type 0 where
  pub stands : WalletStands view x h
  pub journal' : x.journal ≡ old.journal
  pub time' : x.book.time ≡ old.book.time

-- The entry fitted, is on the disk and is learned, and the time is the same.
pub record HasAdded {D : Type 0} (view : D → DiskView) (old x : WalletView D) (h : History) (e : Entry) : Type 0 where
  pub fits : fitted h old.book.limits e ≡ Ok e
  pub stands : WalletStands view x (h ++ e ∷ [])
  pub time' : x.book.time ≡ old.book.time

-- The entry fitted and may follow, and the disk failed while it was written.
pub record IsInDoubt {D : Type 0} (view : D → DiskView) (old : WalletView D) (d : D) (h : History) (e : Entry) : Type 0 where
  pub fits : fitted h old.book.limits e ≡ Ok e
  pub follows : WalletFollows h e
  pub rose : Rose (view old.journal.disk).faults (view d).faults

-- Of an entry that is to be added to a history, or of a refusal in its place: the entry was added, and `Tells` holds
-- of it and of what is answered; or it does not fit the journal (33), or it fits and memory was refused, and the wallet is as
-- it was; or the disk failed. What is refused is judged before memory is taken: it is told as it is, never as want of memory.
abbrev pub Adds : {D A : Type 0} → (D → DiskView) → WalletView D → History → Result Entry Refusal → (Entry → A → Type 0) → WalletOut D A → Type 0
Adds view old h (Ok e) Tells (Done x a) = HasAdded view old x h e × Tells e a
Adds view old h (Ok e) Tells (Refused x f) = (fitted h old.book.limits e ≡ Err (lines.Refuse f)) × IsAsItWas view old x h
Adds view old h (Ok e) Tells (NoMemory x) = (fitted h old.book.limits e ≡ Ok e) × IsAsItWas view old x h
Adds view old h (Ok e) Tells (Halted d) = IsInDoubt view old d h e
Adds view old h (Err g) Tells (Refused x f) = (f ≡ g) × IsAsItWas view old x h
Adds view old h (Err g) Tells _ = ⊥

-- The same of a call that takes memory before it can judge: want of memory may come before the refusal.
abbrev pub AddsAfterMemory : {D A : Type 0} → (D → DiskView) → WalletView D → History → Result Entry Refusal → (Entry → A → Type 0) → WalletOut D A → Type 0
AddsAfterMemory view old h todo Tells (NoMemory x) = IsAsItWas view old x h
AddsAfterMemory view old h todo Tells out = Adds view old h todo Tells out

-- The crash pairs of the call: with the entry or without it where one was written, else with the entries as they
-- were; and nothing was sent.
abbrev pub LeavesBy : {D A : Type 0} → Result Entry Refusal → WalletOut D A → History → List ℕ → List ℕ → List ℕ → Type 0
LeavesBy (Ok e) (Done x a) h aside c s = EitherNoOutput h e aside c s
LeavesBy (Ok e) (Halted d) h aside c s = EitherNoOutput h e aside c s
LeavesBy _ _ h aside c s = EncodesNoOutput h aside c s

-- what a history asks to be added was added, or not, as told, and a crash in the call left what it may
pub record Performs {D A : Type 0} (view : D → DiskView) (old : WalletView D) (h : History) (todo : Result Entry Refusal) (Tells : Entry → A → Type 0) (result : WalletOut D A) : Type 0 where
  pub adds : Adds view old h todo Tells result
  pub ran : Ran (view old.journal.disk) (view (outcome_disk result)) (LeavesBy todo result h (view old.journal.disk).aside)

-- likewise of a call that takes memory before it can judge
pub record PerformsAfterMemory {D A : Type 0} (view : D → DiskView) (old : WalletView D) (h : History) (todo : Result Entry Refusal) (Tells : Entry → A → Type 0) (result : WalletOut D A) : Type 0 where
  pub adds : AddsAfterMemory view old h todo Tells result
  pub ran : Ran (view old.journal.disk) (view (outcome_disk result)) (LeavesBy todo result h (view old.journal.disk).aside)
