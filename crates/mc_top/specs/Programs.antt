-- What the program does by its words.
use Rattle.std.specs.Prelude.{◌≡◌, ◌⊎◌, ◌≤◌, ℕ, zero, suc, List, length, Bool, true, false, Option, Some, None, Result, Err}
use Rattle.mc_outside.specs.DiskView.{DiskView, LinkKeeps}
use Rattle.mc_outside.specs.LinkView.{LinkView, IsWhose}
use Rattle.house_state.specs.declared.offer.SiteKind.{SiteKind}
use Rattle.house_state.specs.declared.offer.SiteKind.TheVariants.{Vendor, Broker}
use Rattle.house_state.specs.Views.{kind_number}
use Rattle.house_state.specs.Learning.{Test, AllPass, untested}
use Rattle.millicent_http.specs.Courses.{NoLink}
use Rattle.mc_requests.specs.declared.refusal.Refusal.{Refusal}
use Rattle.mc_words.specs.declared.command.Command.{Command}
use Rattle.mc_words.specs.declared.command.Command.TheVariants as commands
use Rattle.command_status.specs.declared.status.Status.{Status}
use Rattle.command_status.specs.declared.status.Status.TheVariants as ends
use Rattle.site_words.specs.Words.{Shop, Founder, broker_founder, vendor_founder}
use Rattle.vendor_commands.specs.Course.{IsDone}
use Rattle.vendor_commands.specs.Play.{ArePlayLines}
use Rattle.mc_top.specs.Saying.{Says}
use Rattle.command_status.specs.Statuses.{number_of, line_of}
use Rattle.site_commands.specs.Serving.{HasSite, ServesBook, ServeCauses}
use Rattle.house_doors.specs.declared.command.TheConstants.{MOST_TOLD}
use Rattle.house_doors.specs.Commands.{Endings, Doubts}
use Rattle.house_doors.specs.Links.{HadEither, DoubtsEither}
use Rattle.door_commands.specs.Open.{OpensBook}
use Rattle.door_commands.specs.Told.{EndsBy, DoubtsBy, BrokerObeys, BrokerDoubts, VendorObeys, VendorDoubts}
use Rattle.site_commands.specs.Init.{FoundsBook, InitCauses}
use Rattle.site_commands.specs.Operator.{OperatesBook, OperateCauses}
use Rattle.operator_command.specs.Operations.{OperationView}
use Rattle.vendor_commands.specs.Operations.{operation_view}
use Rattle.broker_commands.specs.Operations as brokers
use Rattle.counted_trade.specs.Counted.{PassesBoth}
use Rattle.settle_commands.specs.Operations.{stating, settling}
use Rattle.site_words.specs.declared.settlement.Stating.{Stating}
use Rattle.wallet_commands.specs.Founding.{Inits}
use Rattle.wallet_core.specs.OnDisk.{HasWallet}
use Rattle.std.specs.List.{AllByRecursion}
use Rattle.audit_search.specs.declared.fault.BooksFault.TheVariants as founds
use Rattle.mc_requests.specs.declared.limits.TheConstants.Limits.{FULL}
use Rattle.ledger_model.specs.Histories.{History}
use Rattle.audit_search.specs.declared.fault.BooksFault.{BooksFault}
use Rattle.audit_search.specs.Audit.{Audited}
use Rattle.tree_search.specs.Audit.{TreeAudited}
use Rattle.audit_cmd.specs.Books.{AreTold, IsLawfulBook, AreAuditedBy}
use Rattle.audit_cmd.specs.Reports.{RefusesBy, ReportsBooks, ReportsTree, ReportCauses, TellsChains, ChainCauses, AreCalm, EndsReport, EndsChains}
use Rattle.mc_words.specs.Commands.{AreWords}
use Rattle.mc_top.specs.Wallets.{WorksOn}
use Rattle.mc_top.specs.Refusals.{RefusesFounder, RefusesOperator, RefusesCustomer}

-- how a shop served its one link, or why it took none
abbrev pub ServesOnce : Shop → LinkView → Status → LinkView → Type 0
ServesOnce shop before ends.Done after = IsDone shop before after
ServesOnce shop before ends.NoMemory after = after ≡ before
ServesOnce shop before ends.LinkFault after = NoLink before after
ServesOnce shop before _ after = ⊥

-- what is said of a play of so many heads, unless memory was refused: by then to open the house, for one of the
-- requests, or for the lines
abbrev pub TellsPlay : ℕ → Status → Type 0
TellsPlay count (ends.Did lines) = ArePlayLines count lines
TellsPlay count ends.NoMemory = Unit {0}
TellsPlay count _ = ⊥

-- Up to the line that is said: what founding a site of a kind does, serving so many links by one, and having an
-- operation done to one. What is said of a book holds where its disk tells its bytes; the causes of faults
-- hold of every outside. The trades of vendors and brokers ask nothing of Notes, but where a series is settled.
abbrev pub Founds : {O : Type 0} → (O → LinkView) → (O → DiskView) → SiteKind → Founder → O → Status → O → Type 0
Founds link disk kind founder a status b =
    InitCauses link disk a status b × ((bytes : List ℕ) → (disk a).contents ≡ Some bytes → FoundsBook link disk (kind_number kind) founder bytes a status b)

abbrev pub Serves : {O : Type 0} → (O → LinkView) → (O → DiskView) → SiteKind → ℕ → O → Status → O → Type 0
Serves link disk kind links a status b =
    ServeCauses link disk links a status b × ((bytes : List ℕ) → (disk a).contents ≡ Some bytes → ServesBook link disk untested (kind_number kind) links bytes a status b)

-- Serving so many links, of which some are its operator's: what he tells there ends so, and such an entry may be in doubt.
abbrev pub Opens : {O : Type 0} → (O → LinkView) → (O → DiskView) → SiteKind → Endings → Doubts → ℕ → O → Status → O → Type 0
Opens link disk kind ends doubts links a status b =
    ServeCauses link disk links a status b
    × ((bytes : List ℕ) → (disk a).contents ≡ Some bytes → OpensBook link disk (HadEither IsWhose ends MOST_TOLD) (DoubtsEither IsWhose doubts MOST_TOLD) untested (kind_number kind) links bytes a status b)

-- with a door for the operator, where the words name one
abbrev pub ServesAt : {O : Type 0} → (O → LinkView) → (O → DiskView) → SiteKind → Endings → Doubts → Option (List ℕ) → ℕ → O → Status → O → Type 0
ServesAt link disk kind ends doubts None links a status b = Serves link disk kind links a status b
ServesAt link disk kind ends doubts (Some path) links a status b = Opens link disk kind ends doubts links a status b

-- a vendor and a broker
abbrev pub ServesShelf : {O : Type 0} → (O → LinkView) → (O → DiskView) → Option (List ℕ) → ℕ → O → Status → O → Type 0
ServesShelf link disk door links a status b = ServesAt link disk Vendor (EndsBy VendorObeys) (DoubtsBy VendorDoubts) door links a status b

abbrev pub ServesDesk : {O : Type 0} → (O → LinkView) → (O → DiskView) → Option (List ℕ) → ℕ → O → Status → O → Type 0
ServesDesk link disk door links a status b = ServesAt link disk Broker (EndsBy BrokerObeys) (DoubtsBy BrokerDoubts) door links a status b

abbrev pub Operates : {O : Type 0} → (O → LinkView) → (O → DiskView) → Test → SiteKind → OperationView → O → Status → O → Type 0
Operates link disk passes kind operation a status b =
    OperateCauses link disk operation a status b
    × ((bytes : List ℕ) → (disk a).contents ≡ Some bytes → OperatesBook link disk passes (kind_number kind) operation bytes a status b)

-- A series is settled over a book whose notes of settlement are in order.
abbrev pub ordered : Test
ordered = PassesBoth untested

-- what a vendor states by these words
abbrev pub statement : Stating → OperationView
statement s = stating s.issuer s.epoch

-- what a broker does with a statement
abbrev pub settlement : OperationView
settlement = settling

-- what a command does to the outside, up to the line that is said
abbrev pub Works : {O : Type 0} → (O → LinkView) → (O → DiskView) → Command → O → Status → O → Type 0
Works link disk (commands.Once shop) a status b = ServesOnce shop (link a) status (link b) × LinkKeeps (disk a) (disk b) × ((link a).faults ≤ (link b).faults)
Works link disk (commands.Init founder) a status b = Founds link disk Vendor (vendor_founder founder) a status b
Works link disk (commands.Serve server) a status b = ServesShelf link disk server.door server.links a status b
Works link disk (commands.Play playing) a status b = (b ≡ a) × TellsPlay playing.count status
Works link disk (commands.Operate operation) a status b = Operates link disk untested Vendor (operation_view operation) a status b
Works link disk (commands.State stating) a status b = Operates link disk ordered Vendor (statement stating) a status b
Works link disk (commands.BrokerInit founder) a status b = Founds link disk Broker (broker_founder founder) a status b
Works link disk (commands.BrokerServe server) a status b = ServesDesk link disk server.door server.links a status b
Works link disk (commands.BrokerOperate operation) a status b = Operates link disk untested Broker (brokers.operation_view operation) a status b
Works link disk (commands.Settle paying) a status b = Operates link disk ordered Broker settlement a status b
Works link disk (commands.WalletInit founder) a status b = Inits link disk founder.name a status b
Works link disk (commands.WalletOperate operation) a status b = WorksOn link disk operation a status b
Works link disk (commands.Report reporting) a status b = b ≡ a
Works link disk (commands.Chains chained) a status b = b ≡ a
Works link disk (commands.Tree tree) a status b = b ≡ a

-- how many books a command has audited
abbrev pub count_of : Command → ℕ
count_of (commands.Report reporting) = length reporting.books
count_of (commands.Chains chained) = length chained.books
count_of (commands.Tree tree) = length tree.books
count_of (commands.Once shop) = 0
count_of (commands.Init founder) = 0
count_of (commands.Serve server) = 0
count_of (commands.Play playing) = 0
count_of (commands.Operate operation) = 0
count_of (commands.State stating) = 0
count_of (commands.BrokerInit founder) = 0
count_of (commands.BrokerServe server) = 0
count_of (commands.BrokerOperate operation) = 0
count_of (commands.Settle paying) = 0
count_of (commands.WalletInit founder) = 0
count_of (commands.WalletOperate operation) = 0

-- the disks tell the bytes of lawful books, of sites or of wallets
pub record HaveBooks {D : Type 0} (book : D → DiskView) (xs : List D) : Type 0 where
  pub contents : List (List ℕ)
  pub told : AreTold book xs contents
  pub lawful : AllByRecursion IsLawfulBook contents

-- Books are audited and reported, up to the line that is said. The causes of faults and which statuses may come hold of every
-- disk. Which book decides holds whatever other disks tell, by the bytes of each that tells its own; what is found of all books, where all
-- tell theirs. Where the books are lawful and no disk failed, nothing but a stranger, a refusal or want of memory keeps them from being
-- reported.
pub record Audits {D : Type 0} (book : D → DiskView) (json : Bool) (xs : List D) (status : Status) (ys : List D) : Type 0 where
  pub causes : ReportCauses book xs status ys
  pub reports : ReportsBooks book json xs status
  pub well : HaveBooks book xs → AreCalm book xs ys → EndsReport (number_of status)

-- The books of several brokers are audited and reported, likewise.
pub record AuditsTree {D : Type 0} (book : D → DiskView) (xs : List D) (status : Status) (ys : List D) : Type 0 where
  pub causes : ReportCauses book xs status ys
  pub reports : ReportsTree book xs status
  pub well : HaveBooks book xs → AreCalm book xs ys → EndsReport (number_of status)

-- The chains of books are told, likewise. Where the books are lawful and no disk failed, nothing but want of memory keeps
-- them from being told.
pub record Tells {D : Type 0} (book : D → DiskView) (xs : List D) (status : Status) (ys : List D) : Type 0 where
  pub causes : ChainCauses book xs status ys
  pub tells : TellsChains book xs status
  pub well : HaveBooks book xs → AreCalm book xs ys → EndsChains (number_of status)

-- what a command does with the books: an auditor's reads them, and no other touches any
abbrev pub Reads : {D : Type 0} → (D → DiskView) → Command → List D → Status → List D → Type 0
Reads book (commands.Report reporting) xs status ys = Audits book reporting.json xs status ys
Reads book (commands.Chains chained) xs status ys = Tells book xs status ys
Reads book (commands.Tree tree) xs status ys = AuditsTree book xs status ys
Reads book (commands.Once shop) xs status ys = ys ≡ xs
Reads book (commands.Init founder) xs status ys = ys ≡ xs
Reads book (commands.Serve server) xs status ys = ys ≡ xs
Reads book (commands.Play playing) xs status ys = ys ≡ xs
Reads book (commands.Operate operation) xs status ys = ys ≡ xs
Reads book (commands.State stating) xs status ys = ys ≡ xs
Reads book (commands.BrokerInit founder) xs status ys = ys ≡ xs
Reads book (commands.BrokerServe server) xs status ys = ys ≡ xs
Reads book (commands.BrokerOperate operation) xs status ys = ys ≡ xs
Reads book (commands.Settle paying) xs status ys = ys ≡ xs
Reads book (commands.WalletInit founder) xs status ys = ys ≡ xs
Reads book (commands.WalletOperate operation) xs status ys = ys ≡ xs

-- what a command does to the outside and with the books
abbrev pub Obeys : {O D : Type 0} → (O → LinkView) → (O → DiskView) → (D → DiskView) → Command → O → List D → Status → O → List D → Type 0
Obeys link disk book command a xs status b ys = Works link disk command a status b × Reads book command xs status ys

-- the number that is answered where the line was said; where it was not, a number other than 0 stays, and 6 takes the
-- place of 0, so that nothing is told to be done whose line is lost
abbrev pub answered : Bool → ℕ → ℕ
answered true n = n
answered false zero = 6
answered false (suc n) = suc n

-- Then the line of the status was said, or saying it failed, and the number tells which. That leaves the disk.
pub record Ends {O : Type 0} (link : O → LinkView) (disk : O → DiskView) (status : Status) (b c : O) (number : ℕ) : Type 0 where
  pub whole : Bool
  pub said : Says (line_of status) whole (link b) (link c)
  pub number' : number ≡ answered whole (number_of status)
  pub keeps : LinkKeeps (disk b) (disk c)

-- memory was refused to read the words: nothing was done but that the line says so
abbrev pub Unread : {O : Type 0} → (O → LinkView) → (O → DiskView) → O → ℕ → O → Type 0
Unread link disk a number c = Ends link disk ends.NoMemory a c number

-- what the program does by a command
abbrev pub RunsAs : {O D : Type 0} → (O → LinkView) → (O → DiskView) → (D → DiskView) → Command → O → List D → ℕ → O → List D → Type 0
RunsAs {O} link disk book command a xs number c ys =
    (Unread link disk a number c × (ys ≡ xs))
    ⊎ ((b : O) × (status : Status) × Obeys link disk book command a xs status b ys × Ends link disk status b c number)

-- what it does by words of no command, or with another number of books than the words name: it says so, or that memory
-- was refused to read the words
abbrev pub Refuses : {O D : Type 0} → (O → LinkView) → (O → DiskView) → O → List D → ℕ → O → List D → Type 0
Refuses link disk a xs number c ys = (Ends link disk ends.BadWords a c number ⊎ Unread link disk a number c) × (ys ≡ xs)

-- the words are of a command that has another number of books audited
abbrev pub HaveOtherBooks : List (List ℕ) → ℕ → Type 0
HaveOtherBooks words count = (command : Command) × AreWords words command × (count ≡ count_of command → ⊥)

-- the book is that of a site of a kind, and what it has of settlement is in order
pub record HasOrdered (kind : ℕ) (d : DiskView) : Type 0 where
  pub site : HasSite kind d
  pub in_order : AllPass ordered site.history

-- The book that a command opens is there, and of a site of its kind or of a wallet, and so are the books that it has audited.
-- `vendor once` and `vendor play` have none, and a command that founds one does so on any disk.
abbrev pub HasBook : {D : Type 0} → DiskView → (D → DiskView) → List D → Command → Type 0
HasBook d book xs (commands.Once shop) = Unit {0}
HasBook d book xs (commands.Init founder) = Unit {0}
HasBook d book xs (commands.Serve server) = HasSite (kind_number Vendor) d
HasBook d book xs (commands.Play playing) = Unit {0}
HasBook d book xs (commands.Operate operation) = HasSite (kind_number Vendor) d
HasBook d book xs (commands.State stating) = HasOrdered (kind_number Vendor) d
HasBook d book xs (commands.BrokerInit founder) = Unit {0}
HasBook d book xs (commands.BrokerServe server) = HasSite (kind_number Broker) d
HasBook d book xs (commands.BrokerOperate operation) = HasSite (kind_number Broker) d
HasBook d book xs (commands.Settle paying) = HasOrdered (kind_number Broker) d
HasBook d book xs (commands.WalletInit founder) = Unit {0}
HasBook d book xs (commands.WalletOperate operation) = HasWallet d
HasBook d book xs (commands.Report reporting) = HaveBooks book xs
HasBook d book xs (commands.Chains chained) = HaveBooks book xs
HasBook d book xs (commands.Tree tree) = HaveBooks book xs

-- it is done, or memory was refused
abbrev pub IsDoneOrShort : ℕ → Type 0
IsDoneOrShort number = (number ≡ 0) ⊎ (number ≡ 5)

-- it is done, memory was refused, or a refusal is told, for which there is this reason
abbrev pub IsDoneOrRefused : (Refusal → Type 0) → ℕ → Type 0
IsDoneOrRefused Reason number = (number ≡ 0) ⊎ ((number ≡ 5) ⊎ ((number ≡ 7) × (f : Refusal) × Reason f))

-- the disks tell bytes of which this is so
abbrev pub AreBooksOf : {D : Type 0} → (D → DiskView) → List D → (List (List ℕ) → Type 0) → Type 0
AreBooksOf book xs Are = (contents : List (List ℕ)) × AreTold book xs contents × Are contents

-- or the books are refused, or a stranger stands in them, by an audit
abbrev pub IsDoneOrStrange : {D R : Type 0} → (D → DiskView) → (List History → Result R BooksFault → Type 0) → List D → ℕ → Type 0
IsDoneOrStrange book Audits xs number =
    (number ≡ 0)
    ⊎ ((number ≡ 5)
    ⊎ (((number ≡ 7) × (f : Refusal) × AreBooksOf book xs (λ books. RefusesBy Audits books f))
    ⊎ ((number ≡ 8) × (place : ℕ) × (name : List ℕ) × (id : ℕ) × AreBooksOf book xs (λ books. AreAuditedBy Audits books (Err (founds.Stranger place name id))))))

-- The statuses of a command that has its book, where no call failed: where no rule refuses what the words ask, by the history
-- of the book and what came on the links, it is done, or memory was refused.
abbrev pub EndsWell : {O D : Type 0} → (O → LinkView) → (O → DiskView) → (D → DiskView) → Command → O → List D → ℕ → O → Type 0
EndsWell link disk book (commands.Once shop) a xs number c = IsDoneOrShort number
EndsWell link disk book (commands.Init founder) a xs number c = IsDoneOrRefused (RefusesFounder (disk a)) number
EndsWell link disk book (commands.Serve server) a xs number c = IsDoneOrShort number
EndsWell link disk book (commands.Play playing) a xs number c = IsDoneOrShort number
EndsWell link disk book (commands.Operate operation) a xs number c = IsDoneOrRefused (RefusesOperator (operation_view operation) (disk a) (link a) (link c)) number
EndsWell link disk book (commands.State stating) a xs number c = IsDoneOrRefused (RefusesOperator (statement stating) (disk a) (link a) (link c)) number
EndsWell link disk book (commands.BrokerInit founder) a xs number c = IsDoneOrRefused (RefusesFounder (disk a)) number
EndsWell link disk book (commands.BrokerServe server) a xs number c = IsDoneOrShort number
EndsWell link disk book (commands.BrokerOperate operation) a xs number c = IsDoneOrRefused (RefusesOperator (brokers.operation_view operation) (disk a) (link a) (link c)) number
EndsWell link disk book (commands.Settle paying) a xs number c = IsDoneOrRefused (RefusesOperator settlement (disk a) (link a) (link c)) number
EndsWell link disk book (commands.WalletInit founder) a xs number c = IsDoneOrRefused (RefusesFounder (disk a)) number
EndsWell link disk book (commands.WalletOperate operation) a xs number c = IsDoneOrRefused (RefusesCustomer link disk operation a (link c)) number
EndsWell link disk book (commands.Report reporting) a xs number c = IsDoneOrStrange book (Audited FULL) xs number
EndsWell link disk book (commands.Chains chained) a xs number c = IsDoneOrShort number
EndsWell link disk book (commands.Tree tree) a xs number c = IsDoneOrStrange book (TreeAudited FULL) xs number
