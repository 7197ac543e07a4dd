-- The commands that have one outside, and the words of each.
use Rattle.std.specs.Prelude.{◌≡◌, ℕ, List, Option, Some, None, true}
use Rattle.clap.specs.Walk.{Row}
use Rattle.command_table.specs.declared.table.CommandName.{CommandName}
use Rattle.command_table.specs.declared.table.CommandName.TheVariants as names
use Rattle.command_table.specs.Table.{AreOf, form_of}
use Rattle.command_table.specs.Values.{AreFound, ValuesOf}
use Rattle.mc_words.specs.declared.command.Command.{Command}
use Rattle.mc_words.specs.declared.command.Command.TheVariants.{Once, Init, Serve, Play, Operate, State, BrokerInit, BrokerServe, BrokerOperate, Settle, WalletInit, WalletOperate, Report, Chains, Tree}
use Rattle.site_words.specs.declared.operation.Operation.TheVariants as operations
use Rattle.site_words.specs.declared.broker_operation.BrokerOperation.TheVariants as brokers
use Rattle.wallet_words.specs.declared.wallet_operation.WalletOperation.TheVariants as wallets

-- The command that a row makes of the values of its parameters, in their order; None of a row that has links of a second side.
unfoldable pub command_with : (name : CommandName) → ValuesOf (form_of name).parameters → Option Command
unfolding form_of
command_with names.VendorInit v = Some (Init (record { book = v.0; name = v.1.0; period = v.1.1.0; life = v.1.1.1.0; scrip = v.1.1.1.1.0; customer = v.1.1.1.1.1.0; keep = v.1.1.1.1.1.1.0; clear = v.1.1.1.1.1.1.1.0 }))
command_with names.VendorGoods v = Some (Operate (operations.Goods (record { book = v.0; target = v.1.0; price = v.1.1.0; kind = v.1.1.1.0 })))
command_with names.VendorPrice v = Some (Operate (operations.Price (record { book = v.0; target = v.1.0; price = v.1.1.0 })))
command_with names.VendorLicence v = Some (Operate (operations.Licence (record { book = v.0; issuer = v.1.0; period = v.1.1.0; life = v.1.1.1.0; scrip = v.1.1.1.1.0; customer = v.1.1.1.1.1.0 })))
command_with names.VendorMint v = Some (Operate (operations.Mint (record { book = v.0; count = v.1.0; value = v.1.1.0; reference = v.1.1.1.0 })))
command_with names.VendorUpgrade v = Some (Operate (operations.Upgrade (record { book = v.0; issuer = v.1.0; from = v.1.1.0 })))
command_with names.VendorChain v = Some (Operate (operations.Chain (record { book = v.0 })))
command_with names.VendorList v = Some (Operate (operations.List (record { book = v.0 })))
command_with names.VendorStatus v = Some (Operate (operations.Status (record { book = v.0 })))
command_with names.VendorStatement v = Some (State (record { book = v.0; issuer = v.1.0; epoch = v.1.1.0 }))
command_with names.VendorServe v = Some (Serve (record { book = v.0; listen = v.1.0; links = v.1.1.0; door = v.1.1.1.0 }))
command_with names.VendorOnce v = Some (Once (record { name = v.0; target = v.1.0; price = v.1.1.0; secret = v.1.1.1.0; contents = v.1.1.1.1.0 }))
command_with names.VendorPlay v = Some (Play (record { count = v.0 }))
command_with names.BrokerInit v = Some (BrokerInit (record { book = v.0; name = v.1.0; period = v.1.1.0; life = v.1.1.1.0; scrip = v.1.1.1.1.0; customer = v.1.1.1.1.1.0; fee = v.1.1.1.1.1.1.0; keep = v.1.1.1.1.1.1.1.0; clear = v.1.1.1.1.1.1.1.1.0 }))
command_with names.BrokerAccount v = Some (BrokerOperate (brokers.Account (record { book = v.0; account = v.1.0; key = v.1.1.0 })))
command_with names.BrokerDeposit v = Some (BrokerOperate (brokers.Deposit (record { book = v.0; account = v.1.0; amount = v.1.1.0; reference = v.1.1.1.0 })))
command_with names.BrokerWithdraw v = Some (BrokerOperate (brokers.Withdraw (record { book = v.0; account = v.1.0; amount = v.1.1.0; reference = v.1.1.1.0 })))
command_with names.BrokerBalance v = Some (BrokerOperate (brokers.Balance (record { book = v.0; account = v.1.0 })))
command_with names.BrokerLicence v = Some (BrokerOperate (brokers.Licence (record { book = v.0 })))
command_with names.BrokerStock v = Some (BrokerOperate (brokers.Stock (record { book = v.0; vendor = v.1.0 })))
command_with names.BrokerUpgrade v = Some (BrokerOperate (brokers.Upgrade (record { book = v.0; vendor = v.1.0; from = v.1.1.0 })))
command_with names.BrokerChain v = Some (BrokerOperate (brokers.Chain (record { book = v.0 })))
command_with names.BrokerList v = Some (BrokerOperate (brokers.List (record { book = v.0 })))
command_with names.BrokerStatus v = Some (BrokerOperate (brokers.Status (record { book = v.0 })))
command_with names.BrokerSettle v = Some (Settle (record { book = v.0 }))
command_with names.BrokerServe v = Some (BrokerServe (record { book = v.0; listen = v.1.0; links = v.1.1.0; door = v.1.1.1.0 }))
command_with names.WalletInit v = Some (WalletInit (record { book = v.0; name = v.1.0 }))
command_with names.WalletTake v = Some (WalletOperate (wallets.Take (record { book = v.0 })))
command_with names.WalletDraw v = Some (WalletOperate (wallets.Draw (record { book = v.0; broker = v.1.0; account = v.1.1.0; key = v.1.1.1.0; order = v.1.1.1.1.0; amount = v.1.1.1.1.1.0; connect = v.1.1.1.1.1.1.0 })))
command_with names.WalletBuy v = Some (WalletOperate (wallets.Buy (record { book = v.0; broker = v.1.0; vendor = v.1.1.0; amount = v.1.1.1.0; limit = v.1.1.1.1.0; connect = v.1.1.1.1.1.0 })))
command_with names.WalletGet v = Some (WalletOperate (wallets.Get (record { book = v.0; vendor = v.1.0; target = v.1.1.0; limit = v.1.1.1.0; connect = v.1.1.1.1.0 })))
command_with names.WalletRetry v = Some (WalletOperate (wallets.Retry (record { book = v.0; peer = v.1.0; connect = v.1.1.0 })))
command_with names.WalletList v = Some (WalletOperate (wallets.List (record { book = v.0 })))
command_with names.WalletLines v = Some (WalletOperate (wallets.Lines (record { book = v.0; vendor = v.1.0 })))
command_with names.WalletChain v = Some (WalletOperate (wallets.Chain (record { book = v.0 })))
command_with names.WalletRenew v = Some (WalletOperate (wallets.Renew (record { book = v.0; vendor = v.1.0; target = v.1.1.0; before = v.1.1.1.0; connect = v.1.1.1.1.0 })))
command_with names.AuditReport v = Some (Report (record { books = v.0; json = v.1.0 }))
command_with names.AuditChain v = Some (Chains (record { books = v.0 }))
command_with names.AuditTree v = Some (Tree (record { books = v.0 }))
command_with _ v = None

-- the words spell values of a row, of which the command is made
pub record AreWords (words : List (List ℕ)) (c : Command) : Type 0 where
  pub name : CommandName
  pub values : ValuesOf (form_of name).parameters
  pub are : AreOf name words values
  pub made : command_with name values ≡ Some c

-- the words are of no command
abbrev pub AreNoWords : List (List ℕ) → Type 0
AreNoWords words = (c : Command) → AreWords words c → ⊥

-- they are of no row of the table that has one outside
abbrev pub AreOfNoRow : List (List ℕ) → Type 0
AreOfNoRow words = (name : CommandName) (values : ValuesOf (form_of name).parameters) → AreOf name words values → ⊥

-- of these rows, which were found for a command of this name, the command is made by its row, which has one outside
pub record IsMadeOf (name : CommandName) (rows : List Row) (c : Command) : Type 0 where
  pub row : CommandName
  pub is : name ≡ row
  pub one_sided : (form_of row).one_sided ≡ true
  pub values : ValuesOf (form_of row).parameters
  pub found' : AreFound rows (form_of row).parameters values
  pub made : command_with row values ≡ Some c

-- What is made of rows that were found: a command, or None where they have no values, or the command of this name has links of a second side.
abbrev pub GivesCommand : CommandName → List Row → Option Command → Type 0
GivesCommand name rows (Some c) = IsMadeOf name rows c
GivesCommand name rows None = (form_of name).one_sided ≡ true → (values : ValuesOf (form_of name).parameters) → AreFound rows (form_of name).parameters values → ⊥
