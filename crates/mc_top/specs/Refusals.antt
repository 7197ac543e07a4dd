-- Why commands are refused: by the history of the book, what came on the links, and the words.
use Rattle.std.specs.Prelude.{◌≡◌, ◌⊎◌, ℕ, max, List, [], ◌∷◌, ◌++◌, length, Option, Some, None, Result, Ok, Err}
use Rattle.mc_outside.specs.DiskView.{DiskView}
use Rattle.mc_outside.specs.LinkView.{LinkView}
use Rattle.mc_requests.specs.declared.limits.TheConstants.Limits.{FULL}
use Rattle.mc_requests.specs.declared.refusal.Refusal.{Refusal}
use Rattle.mc_requests.specs.declared.refusal.Refusal.TheVariants as refusals
use Rattle.mc_records.specs.Entry.{Entry}
use Rattle.ledger_model.specs.Histories.{History, time}
use Rattle.ledger_model.specs.Lines as lines
use Rattle.ledger_model.specs.Answer.{fitted}
use Rattle.scrip_journal.specs.Layout.{Encodes}
use Rattle.scrip_journal.specs.Founds.{IsTaken}
use Rattle.millicent_http.specs.declared.clock.Clock.TheVariants.{OfLinks}
use Rattle.millicent_http.specs.Courses.{AreRead}
use Rattle.millicent_http.specs.Received.{Received}
use Rattle.millicent_http.specs.Inputs.{TakesInput, IsInput}
use Rattle.command_status.specs.declared.status.Status.TheVariants as ends
use Rattle.house_core.specs.Tasks.{Task, IsRefused}
use Rattle.operator_command.specs.Operations.{OperationView, full}
use Rattle.wallet_words.specs.declared.wallet_operation.WalletOperation.{WalletOperation}
use Rattle.wallet_words.specs.declared.wallet_operation.WalletOperation.TheVariants as wallets
use Rattle.wallet_model.specs.Requests.{Pending, pending_of, oldest_kept}
use Rattle.wallet_model.specs.Asks.{Asking, pend_entry, due_entry}
use Rattle.held_lines.specs.Resold.{resold_for}
use Rattle.wallet_model.specs.Settling.{settlement}
use Rattle.wallet_core.specs.Taking.{take_entry}
use Rattle.wallet_commands.specs.declared.taking.TheConstants.{MOST_LINES}
use Rattle.wallet_commands.specs.Payments.{Settles, Learns, StaysKept}
use Rattle.wallet_commands.specs.Paying.{ended_by, Clocked}
use Rattle.wallet_commands.specs.Chaining.{switch_entry}
use Rattle.mc_top.specs.Wallets.{drawn, bought, got}

-- ---- founding

-- the disk has bytes already, so many, where it tells them
pub record RefusesFounder (d : DiskView) (f : Refusal) : Type 0 where
  pub size : ℕ
  pub is : f ≡ refusals.NotEmpty size
  pub taken : (bytes : List ℕ) → d.contents ≡ Some bytes → IsTaken bytes size

-- ---- operators

-- The operation's input was read, and then the clock, once; and what the operation asks of the history that the book encodes
-- is refused by its own rule, or its entry does not fit the journal.
pub record RefusesOperator (operation : OperationView) (d : DiskView) (before after : LinkView) (f : Refusal) : Type 0 where
  pub bytes : List ℕ
  pub told : d.contents ≡ Some bytes
  pub history : History
  pub stands : Encodes history bytes
  pub input : List ℕ
  pub taken : LinkView
  pub takes : TakesInput operation.input before input taken
  pub moment : ℕ
  pub read : AreRead OfLinks (moment ∷ []) taken.readings after.readings
  pub task : Task
  pub asks : operation.asks input history (max (time history) moment) task
  pub refused : IsRefused full task history f

-- ---- wallets

-- in the place of an entry there is this refusal, or the entry does not fit the journal
abbrev pub RefusesEntry : History → Result Entry Refusal → Refusal → Type 0
RefusesEntry h (Ok e) f = fitted h FULL e ≡ Err (lines.Refuse f)
RefusesEntry h (Err g) f = f ≡ g

-- The input was read, and then the clock, once; and the pieces of its lines are not taken at the time.
pub record RefusesPieces (d : DiskView) (before after : LinkView) (f : Refusal) : Type 0 where
  pub bytes : List ℕ
  pub told : d.contents ≡ Some bytes
  pub history : History
  pub stands : Encodes history bytes
  pub input : List ℕ
  pub taken : LinkView
  pub takes : IsInput MOST_LINES before input taken
  pub moment : ℕ
  pub read : AreRead OfLinks (moment ∷ []) taken.readings after.readings
  pub refused : RefusesEntry history (take_entry history (max (time history) moment) input) f

-- A request that is kept in a history was sent on the next link, if one came: it stays kept; or a reply settles it that is a
-- refusal of the site, or whose settlement does not fit the journal.
abbrev pub RefusesRequest : History → ℕ → ℕ → Pending → LinkView → Refusal → Type 0
RefusesRequest h t n p before f =
    (after : LinkView)
    × (StaysKept p f before after
    ⊎ ((r : Received) × Learns p (Settles r) before after × ((ended_by p r ≡ ends.Refused f) ⊎ (fitted h FULL (settlement h t n p r) ≡ Err (lines.Refuse f)))))

-- a request is not entered, or it was, and then refused
abbrev pub RefusesAsking : History → ℕ → Result Entry Refusal → LinkView → Refusal → Type 0
RefusesAsking h t (Err g) before f = f ≡ g
RefusesAsking h t (Ok e) before f =
    (fitted h FULL e ≡ Err (lines.Refuse f)) ⊎ ((p : Pending) × (pending_of e ≡ Some p) × RefusesRequest (h ++ e ∷ []) t (length h) p before f)

-- none is kept of the peer (67), or the oldest was refused
abbrev pub RefusesAgain : History → ℕ → Option (ℕ × Pending) → LinkView → Refusal → Type 0
RefusesAgain h t None before f = f ≡ refusals.Nothing
RefusesAgain h t (Some x) before f = RefusesRequest h t x.0 x.1 before f

-- the entry that switches the book does not fit the journal
abbrev pub RefusesSwitch : History → Option Entry → Refusal → Type 0
RefusesSwitch h None f = ⊥
RefusesSwitch h (Some e) f = fitted h FULL e ≡ Err (lines.Refuse f)

-- the clock was read once, and then this is so of the history that the book encodes, at the time
abbrev pub IsAtTime : {O : Type 0} → (O → LinkView) → (O → DiskView) → (History → ℕ → LinkView → Type 0) → O → Type 0
IsAtTime link disk Is a = (bytes : List ℕ) × ((disk a).contents ≡ Some bytes) × Clocked link Is bytes a

abbrev pub RefusesPayment : {O : Type 0} → (O → LinkView) → (O → DiskView) → Asking → O → Refusal → Type 0
RefusesPayment link disk asking a f = IsAtTime link disk (λ h t clocked. RefusesAsking h t (pend_entry h t asking) clocked f) a

-- no piece of the vendor may be sold on
abbrev pub RefusesLines : {O : Type 0} → (O → LinkView) → (O → DiskView) → List ℕ → O → Refusal → Type 0
RefusesLines link disk vendor a f = IsAtTime link disk (λ h t clocked. (f ≡ refusals.NoFunds 0) × (resold_for h t vendor ≡ [])) a

-- none is due, or the request that pays with the one that is, as of a payment
abbrev pub RefusesRenewal : {O : Type 0} → (O → LinkView) → (O → DiskView) → (vendor target : List ℕ) (before : ℕ) → O → Refusal → Type 0
RefusesRenewal link disk vendor target before a f = IsAtTime link disk (λ h t clocked. RefusesAsking h t (due_entry h t vendor target before) clocked f) a

abbrev pub RefusesCustomer : {O : Type 0} → (O → LinkView) → (O → DiskView) → WalletOperation → O → LinkView → Refusal → Type 0
RefusesCustomer link disk (wallets.Take wallet) a after f = RefusesPieces (disk a) (link a) after f
RefusesCustomer link disk (wallets.Draw drawing) a after f = RefusesPayment link disk (drawn drawing) a f
RefusesCustomer link disk (wallets.Buy buying) a after f = RefusesPayment link disk (bought buying) a f
RefusesCustomer link disk (wallets.Get getting) a after f = RefusesPayment link disk (got getting) a f
RefusesCustomer link disk (wallets.Retry retrying) a after f = IsAtTime link disk (λ h t clocked. RefusesAgain h t (oldest_kept h retrying.peer) clocked f) a
RefusesCustomer link disk (wallets.List wallet) a after f = ⊥
RefusesCustomer link disk (wallets.Lines relaying) a after f = RefusesLines link disk relaying.vendor a f
RefusesCustomer link disk (wallets.Renew renewing) a after f = RefusesRenewal link disk renewing.vendor renewing.target renewing.before a f
RefusesCustomer link disk (wallets.Chain wallet) a after f = IsAtTime link disk (λ h t clocked. RefusesSwitch h (switch_entry h t) f) a
