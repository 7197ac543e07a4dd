-- Taking pieces, up to the line that is said.
use Rattle.std.specs.Prelude.{◌≡◌, ◌⊎◌, ℕ, max, List, [], ◌∷◌, ◌++◌, length, Some, IsSome, Result, Ok, Err}
use Rattle.std.specs.Result.{result_ok}
use Rattle.mc_outside.specs.DiskView.{DiskView, Ran}
use Rattle.mc_outside.specs.LinkView.{LinkView}
use Rattle.mc_requests.specs.declared.limits.TheConstants.Limits.{FULL}
use Rattle.mc_requests.specs.declared.refusal.Refusal.{Refusal}
use Rattle.mc_records.specs.Entry.{Entry}
use Rattle.ledger_model.specs.Histories.{History, time}
use Rattle.ledger_model.specs.Lines as lines
use Rattle.ledger_model.specs.Answer.{fitted}
use Rattle.scrip_journal.specs.Layout.{Encodes}
use Rattle.millicent_http.specs.declared.clock.Clock.TheVariants.{OfLinks}
use Rattle.millicent_http.specs.Courses.{AreRead, with_readings}
use Rattle.command_status.specs.declared.status.Status.{Status}
use Rattle.command_status.specs.declared.status.Status.TheVariants as ends
use Rattle.millicent_http.specs.Inputs.{IsInput, LostInput}
use Rattle.wallet_model.specs.Holdings.{brings}
use Rattle.wallet_core.specs.Taking.{take_entry}
use Rattle.wallet_core.specs.declared.outcome.WalletOut.{WalletOut}
use Rattle.wallet_commands.specs.declared.taking.TheConstants.{MOST_LINES}
use Rattle.wallet_commands.specs.Lines.{taken_line}
use Rattle.wallet_commands.specs.Books.{EncodesEither, OldPair, AddPair, outcome_status}
use Rattle.wallet_core.specs.OnDisk.{EncodesWallet, NotOpened}
use Rattle.wallet_commands.specs.Causes.{WalletCauses}

-- how a command ends that took pieces, or did not
abbrev pub taken_status : {D : Type 0} → WalletOut D ℕ → Status
taken_status out = outcome_status (λ count. ends.Did (taken_line count)) out

-- what became of the entry of the pieces, or of the refusal in its place, by how the command ended
abbrev pub TookBy : DiskView → History → Result Entry Refusal → Status → Type 0
TookBy d h (Ok e) (ends.Did line) = (line ≡ taken_line (length (brings h e))) × EncodesWallet d (h ++ e ∷ [])
TookBy d h (Ok e) (ends.Refused f) = (fitted h FULL e ≡ Err (lines.Refuse f)) × EncodesWallet d h
TookBy d h (Ok e) ends.DiskFault = EncodesEither d h e
TookBy d h (Err g) (ends.Refused f) = (f ≡ g) × EncodesWallet d h
TookBy d h todo ends.NoMemory = EncodesWallet d h
TookBy d h todo _ = ⊥

-- The book encoded a history, and still does; the input was not read.
pub record Unread {O : Type 0} (link : O → LinkView) (disk : O → DiskView) (bytes : List ℕ) (a : O) (status : Status) (b : O) : Type 0 where
  pub history : History
  pub stands : Encodes history bytes
  pub left : EncodesWallet (disk b) history
  pub pairs : Ran (disk a) (disk b) (OldPair (IsSome (link a).sessions) (disk a) history)
  pub lost : ((status ≡ ends.LinkFault) × LostInput (link a) (link b)) ⊎ ((status ≡ ends.NoMemory) × (link b ≡ link a))

-- The book encoded a history; the input was read, and then the clock, once; and the pieces of its lines were taken at
-- the time, or not.
pub record Took {O : Type 0} (link : O → LinkView) (disk : O → DiskView) (bytes : List ℕ) (a : O) (status : Status) (b : O) : Type 0 where
  pub history : History
  pub stands : Encodes history bytes
  pub input : List ℕ
  pub taken : LinkView
  pub takes : IsInput MOST_LINES (link a) input taken
  pub moment : ℕ
  pub read : AreRead OfLinks (moment ∷ []) taken.readings (link b).readings
  pub rest : link b ≡ with_readings (link b).readings taken
  pub took : TookBy (disk b) history (take_entry history (max (time history) moment) input) status
  pub pairs : Ran (disk a) (disk b) (AddPair (IsSome (link a).sessions) (disk a) history (result_ok (take_entry history (max (time history) moment) input)) status)

-- how taking pieces ended, on an outside whose disk had these bytes
abbrev pub TakesBook : {O : Type 0} → (O → LinkView) → (O → DiskView) → List ℕ → O → Status → O → Type 0
TakesBook link disk bytes a status b = NotOpened link disk bytes a status b ⊎ (Unread link disk bytes a status b ⊎ Took link disk bytes a status b)

-- What the command does. Of a book it is said where the disk tells its bytes, and of causes on every outside.
abbrev pub Takes : {O : Type 0} → (O → LinkView) → (O → DiskView) → O → Status → O → Type 0
Takes link disk a status b = WalletCauses link disk a status b × ((bytes : List ℕ) → (disk a).contents ≡ Some bytes → TakesBook link disk bytes a status b)
