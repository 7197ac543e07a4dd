-- The table of the commands: the role and the name of each, its parameters, and whether it has one outside.
use Rattle.std.specs.Prelude.{◌≡◌, Bool, true, false, List, [], ◌∷◌, Option, Some, None, codes}
use Rattle.clap.specs.Walk.{Row, Rule, Text}
use Rattle.command_words.specs.Arguments.{found}
use Rattle.command_table.specs.declared.parameter.Parameter.{Parameter}
use Rattle.command_table.specs.declared.parameter.Parameter.TheVariants.{Account, Amount, AnyIssuer, Before, Book, Books, Broker, Budget, Clear, Connect, Contents, Customer, Door, Epoch, Fee, Heads, Issuer, Json, Keep, Key, Kind, Life, Limit, Links, Listen, Name, Order, Peer, Period, Pieces, Price, Reference, Scrip, Secret, Target, Value, Vendor}
use Rattle.command_table.specs.declared.table.CommandName.{CommandName}
use Rattle.command_table.specs.declared.table.CommandName.TheVariants as names
use Rattle.command_table.specs.Values.{AreFound, ValuesOf, rules_of}

-- How the words of a command are: its role, its name, and its parameters; and whether one outside is all that it has, as all
-- have but one, which has links of a second side.
pub record CommandForm : Type 0 where
  pub role : Text
  pub name : Text
  pub parameters : List Parameter
  pub one_sided : Bool

abbrev pub row : Text → Text → List Parameter → CommandForm
row role name parameters = record { role = role; name = name; parameters = parameters; one_sided = true }

abbrev pub two_sided : Text → Text → List Parameter → CommandForm
two_sided role name parameters = record { role = role; name = name; parameters = parameters; one_sided = false }

unfoldable pub form_of : CommandName → CommandForm
form_of names.VendorInit = row (codes "vendor") (codes "init") (Book ∷ Name ∷ Period ∷ Life ∷ Scrip ∷ Customer ∷ Keep ∷ Clear ∷ [])
form_of names.VendorGoods = row (codes "vendor") (codes "goods") (Book ∷ Target ∷ Price ∷ Kind ∷ [])
form_of names.VendorPrice = row (codes "vendor") (codes "price") (Book ∷ Target ∷ Price ∷ [])
form_of names.VendorLicence = row (codes "vendor") (codes "licence") (Book ∷ Issuer ∷ Period ∷ Life ∷ Scrip ∷ Customer ∷ [])
form_of names.VendorMint = row (codes "vendor") (codes "mint") (Book ∷ Pieces ∷ Value ∷ Reference ∷ [])
form_of names.VendorServe = row (codes "vendor") (codes "serve") (Book ∷ Listen ∷ Links ∷ Door ∷ [])
form_of names.VendorOnce = row (codes "vendor") (codes "once") (Name ∷ Target ∷ Price ∷ Secret ∷ Contents ∷ [])
form_of names.VendorPlay = row (codes "vendor") (codes "play") (Heads ∷ [])
form_of names.VendorUpgrade = row (codes "vendor") (codes "upgrade") (Book ∷ AnyIssuer ∷ Epoch ∷ [])
form_of names.VendorChain = row (codes "vendor") (codes "chain") (Book ∷ [])
form_of names.VendorList = row (codes "vendor") (codes "list") (Book ∷ [])
form_of names.VendorStatus = row (codes "vendor") (codes "status") (Book ∷ [])
form_of names.VendorStatement = row (codes "vendor") (codes "statement") (Book ∷ Issuer ∷ Epoch ∷ [])
form_of names.BrokerInit = row (codes "broker") (codes "init") (Book ∷ Name ∷ Period ∷ Life ∷ Scrip ∷ Customer ∷ Fee ∷ Keep ∷ Clear ∷ [])
form_of names.BrokerAccount = row (codes "broker") (codes "account") (Book ∷ Account ∷ Key ∷ [])
form_of names.BrokerDeposit = row (codes "broker") (codes "deposit") (Book ∷ Account ∷ Amount ∷ Reference ∷ [])
form_of names.BrokerWithdraw = row (codes "broker") (codes "withdraw") (Book ∷ Account ∷ Amount ∷ Reference ∷ [])
form_of names.BrokerBalance = row (codes "broker") (codes "balance") (Book ∷ Account ∷ [])
form_of names.BrokerLicence = row (codes "broker") (codes "licence") (Book ∷ [])
form_of names.BrokerStock = row (codes "broker") (codes "stock") (Book ∷ Vendor ∷ [])
form_of names.BrokerServe = row (codes "broker") (codes "serve") (Book ∷ Listen ∷ Links ∷ Door ∷ [])
form_of names.BrokerUpgrade = row (codes "broker") (codes "upgrade") (Book ∷ Vendor ∷ Epoch ∷ [])
form_of names.BrokerChain = row (codes "broker") (codes "chain") (Book ∷ [])
form_of names.BrokerList = row (codes "broker") (codes "list") (Book ∷ [])
form_of names.BrokerStatus = row (codes "broker") (codes "status") (Book ∷ [])
form_of names.BrokerSettle = row (codes "broker") (codes "settle") (Book ∷ [])
form_of names.WalletInit = row (codes "wallet") (codes "init") (Book ∷ Name ∷ [])
form_of names.WalletTake = row (codes "wallet") (codes "take") (Book ∷ [])
form_of names.WalletDraw = row (codes "wallet") (codes "draw") (Book ∷ Broker ∷ Account ∷ Key ∷ Order ∷ Amount ∷ Connect ∷ [])
form_of names.WalletBuy = row (codes "wallet") (codes "buy") (Book ∷ Broker ∷ Vendor ∷ Amount ∷ Limit ∷ Connect ∷ [])
form_of names.WalletGet = row (codes "wallet") (codes "get") (Book ∷ Vendor ∷ Target ∷ Limit ∷ Connect ∷ [])
form_of names.WalletRetry = row (codes "wallet") (codes "retry") (Book ∷ Peer ∷ Connect ∷ [])
form_of names.WalletList = row (codes "wallet") (codes "list") (Book ∷ [])
form_of names.WalletLines = row (codes "wallet") (codes "lines") (Book ∷ Vendor ∷ [])
form_of names.WalletChain = row (codes "wallet") (codes "chain") (Book ∷ [])
form_of names.WalletProxy = two_sided (codes "wallet") (codes "proxy") (Book ∷ Vendor ∷ Limit ∷ Budget ∷ Listen ∷ Connect ∷ Links ∷ [])
form_of names.WalletRenew = row (codes "wallet") (codes "renew") (Book ∷ Vendor ∷ Target ∷ Before ∷ Connect ∷ [])
form_of names.AuditReport = row (codes "audit") (codes "report") (Books ∷ Json ∷ [])
form_of names.AuditChain = row (codes "audit") (codes "chain") (Books ∷ [])
form_of names.AuditTree = row (codes "audit") (codes "tree") (Books ∷ [])

-- the rules of its arguments
abbrev pub rules : CommandForm → List Rule
rules form = rules_of form.parameters

-- The words begin with the role and the name of the command, and these rows are what `clap` finds in those
-- behind, which it promises to take for its arguments.
pub record IsRead (name : CommandName) (words : List Text) (rows : List Row) : Type 0 where
  pub behind : List Text
  pub words' : words ≡ (form_of name).role ∷ (form_of name).name ∷ behind
  pub rows' : found (rules (form_of name)) behind ≡ Some rows

-- what is read of the words of a command: None where they are not of its role, its name and its arguments
abbrev pub Reads : CommandName → List Text → Option (List Row) → Type 0
Reads name words (Some rows) = IsRead name words rows
Reads name words None = (rows : List Row) → IsRead name words rows → ⊥

-- the words are of the command, which has one outside, and spell these values of its parameters
pub record AreOf (name : CommandName) (words : List Text) (values : ValuesOf (form_of name).parameters) : Type 0 where
  pub one_sided : (form_of name).one_sided ≡ true
  pub rows : List Row
  pub read : IsRead name words rows
  pub found' : AreFound rows (form_of name).parameters values

-- What a reader of the values of a command gives of these rows: values that are found of its parameters, or None where none are.
abbrev pub Gives : {X : Type 0} (name : CommandName) → (X → ValuesOf (form_of name).parameters) → List Row → Option X → Type 0
Gives name values rows (Some x) = AreFound rows (form_of name).parameters (values x)
Gives name values rows None = (others : ValuesOf (form_of name).parameters) → AreFound rows (form_of name).parameters others → ⊥
