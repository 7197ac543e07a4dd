-- What the operator of a site has done to its book, up to the line that is said.
use Rattle.std.specs.Prelude.{◌≡◌, ◌⊎◌, ℕ, max, List, [], ◌∷◌, Some, IsSome}
use Rattle.mc_outside.specs.Bytes.{Rose}
use Rattle.mc_outside.specs.DiskView.{DiskView, OnlyRead, Ran}
use Rattle.mc_outside.specs.LinkView.{LinkView}
use Rattle.ledger_model.specs.Histories.{History, time}
use Rattle.ledger_model.specs.Houses.{site_kind}
use Rattle.scrip_journal.specs.Layout.{Encodes}
use Rattle.millicent_http.specs.declared.clock.Clock.TheVariants.{OfLinks}
use Rattle.millicent_http.specs.Courses.{AreRead, with_readings}
use Rattle.house_core.specs.HouseView.{HouseView}
use Rattle.house_core.specs.Refusing.{IsAmong}
use Rattle.house_state.specs.Learning.{Test, AllPass}
use Rattle.house_state.specs.Trade.{TradeView}
use Rattle.house_opening.specs.Opening.{OpenedFor}
use Rattle.house_core.specs.Tasks.{Task, Add, Stays, after, IsDoable, IsRefused}
use Rattle.command_status.specs.declared.status.Status.{Status}
use Rattle.command_status.specs.declared.status.Status.TheVariants as ends
use Rattle.millicent_http.specs.Inputs.{TakesInput, LosesInput}
use Rattle.operator_command.specs.Operations.{OperationView, full}
use Rattle.site_commands.specs.Serving.{EncodesLawful, EncodesEither, NotOpened, BookCauses}

-- ---- what becomes of the book

-- the entry of a task is in doubt
abbrev pub LeavesEither : DiskView → History → Task → Type 0
LeavesEither d h (Add e) = EncodesEither d h e
LeavesEither d h _ = ⊥

-- what the disk encodes, by how the operation ended
abbrev pub DidBy : DiskView → OperationView → List ℕ → History → Task → Status → Type 0
DidBy d operation input h task (ends.Did line) = IsDoable task × operation.says input h task line × EncodesLawful d (after task h)
DidBy d operation input h task (ends.Refused f) = IsRefused full task h f × EncodesLawful d h
DidBy d operation input h task ends.NoMemory = EncodesLawful d h
DidBy d operation input h task ends.DiskFault = LeavesEither d h task
DidBy d operation input h task _ = ⊥

-- The image of a crash pair is of before, or with the entries as they were; or, by how the operation ended, with the one that
-- was added or is in doubt.
abbrev pub OperateImage : DiskView → Task → History → Status → List ℕ → Type 0
OperateImage before task h (ends.Did line) image = before.leaves image ⊎ (Encodes h image ⊎ Encodes (after task h) image)
OperateImage before task h ends.DiskFault image = before.leaves image ⊎ (Encodes h image ⊎ Encodes (after task h) image)
OperateImage before task h _ image = before.leaves image ⊎ Encodes h image

-- A crash pair of it. Where what is sent is told, nothing was sent.
abbrev pub OperatePair : Type 0 → DiskView → Task → History → Status → List ℕ → List ℕ → Type 0
OperatePair tells before task h status image sent = OperateImage before task h status image × (tells → sent ≡ before.aside)

-- a house of a site of this kind was made of the book's bytes, which were only read
pub record Opened {O T : Type 0} (link : O → LinkView) (disk : O → DiskView) (trade : T → TradeView) (passes : Test) (kind : ℕ) (bytes : List ℕ) (a : O) (x : HouseView O T) : Type 0 where
  pub house : OpenedFor disk trade passes full kind bytes x
  pub read : OnlyRead (disk a) (disk x.journal.disk)
  pub link' : link x.journal.disk ≡ link a

-- The book encoded a history of a site of this kind; the operation's input was read, and then the clock, once; and what the
-- operation asks of the history was done, at the house time.
pub record Operated {O : Type 0} (link : O → LinkView) (disk : O → DiskView) (passes : Test) (kind : ℕ) (operation : OperationView) (bytes : List ℕ) (a : O) (status : Status) (b : O) : Type 0 where
  pub history : History
  pub stands : Encodes history bytes
  pub of_kind : site_kind history ≡ Some kind
  pub passed : AllPass passes history
  pub input : List ℕ
  pub taken : LinkView
  pub takes : TakesInput operation.input (link a) input taken
  pub moment : ℕ
  pub read : AreRead OfLinks (moment ∷ []) taken.readings (link b).readings
  pub rest : link b ≡ with_readings (link b).readings taken
  pub task : Task
  pub asks : operation.asks input history (max (time history) moment) task
  pub did : DidBy (disk b) operation input history task status
  pub pairs : Ran (disk a) (disk b) (OperatePair (IsSome (link a).sessions) (disk a) task history status)

-- The book encoded a history of a site of this kind, and still does; the input was not read.
pub record Unread {O : Type 0} (link : O → LinkView) (disk : O → DiskView) (passes : Test) (kind : ℕ) (operation : OperationView) (bytes : List ℕ) (a : O) (status : Status) (b : O) : Type 0 where
  pub history : History
  pub stands : Encodes history bytes
  pub of_kind : site_kind history ≡ Some kind
  pub passed : AllPass passes history
  pub left : EncodesLawful (disk b) history
  pub pairs : Ran (disk a) (disk b) (OperatePair (IsSome (link a).sessions) (disk a) Stays history status)
  pub lost : ((status ≡ ends.LinkFault) × LosesInput operation.input (link a) (link b)) ⊎ ((status ≡ ends.NoMemory) × (link b ≡ link a))

-- what became of a book that was opened as that of a site of a kind
abbrev pub OperatesOpened : {O : Type 0} → (O → LinkView) → (O → DiskView) → Test → ℕ → OperationView → List ℕ → O → Status → O → Type 0
OperatesOpened link disk passes kind operation bytes a status b = Unread link disk passes kind operation bytes a status b ⊎ Operated link disk passes kind operation bytes a status b

-- how an operation to the book of a site of a kind ended, on an outside whose disk had these bytes
abbrev pub OperatesBook : {O : Type 0} → (O → LinkView) → (O → DiskView) → Test → ℕ → OperationView → List ℕ → O → Status → O → Type 0
OperatesBook link disk passes kind operation bytes a status b = NotOpened link disk passes kind bytes a status b ⊎ OperatesOpened link disk passes kind operation bytes a status b

-- ---- why it ended so, whatever the disk and the links tell

-- the operation's input was read, and then the clock
abbrev pub IsReady : OperationView → LinkView → LinkView → Type 0
IsReady operation before after = (input : List ℕ) × (taken : LinkView) × TakesInput operation.input before input taken × (after ≡ with_readings after.readings taken)

-- An operation ends so too: it was done, or refused with one of its refusals, once its input was read and the clock; memory was
-- refused then, or before a link was taken; and where a link failed, the input was lost.
abbrev pub OperateEnds : {O : Type 0} → (O → LinkView) → OperationView → Status → O → O → Type 0
OperateEnds link operation (ends.Did line) a b = IsReady operation (link a) (link b)
OperateEnds link operation (ends.Refused f) a b = IsAmong operation.refusals f × IsReady operation (link a) (link b)
OperateEnds link operation ends.NoMemory a b = (link b ≡ link a) ⊎ IsReady operation (link a) (link b)
OperateEnds link operation ends.LinkFault a b = Rose (link a).faults (link b).faults × LosesInput operation.input (link a) (link b)
OperateEnds link operation _ a b = ⊥

abbrev pub OperateCauses : {O : Type 0} → (O → LinkView) → (O → DiskView) → OperationView → O → Status → O → Type 0
OperateCauses link disk operation a status b = BookCauses link disk (OperateEnds link operation) a status b
