-- What a customer has done with the book of a wallet.
use Rattle.mc_outside.specs.DiskView.{DiskView}
use Rattle.mc_outside.specs.LinkView.{LinkView}
use Rattle.wallet_words.specs.declared.wallet_operation.WalletOperation.{WalletOperation}
use Rattle.wallet_words.specs.declared.wallet_operation.WalletOperation.TheVariants as wallets
use Rattle.wallet_words.specs.declared.wallet_operation.Buying.{Buying}
use Rattle.wallet_words.specs.declared.wallet_operation.Drawing.{Drawing}
use Rattle.wallet_words.specs.declared.wallet_operation.Getting.{Getting}
use Rattle.command_status.specs.declared.status.Status.{Status}
use Rattle.wallet_model.specs.Asks.{Asking, get, buy, draw}
use Rattle.wallet_commands.specs.Taking.{Takes}
use Rattle.wallet_commands.specs.Listing.{Lists, ListsLines}
use Rattle.wallet_commands.specs.Paying.{Pays, Renews, Retries}
use Rattle.wallet_commands.specs.Chaining.{Chains}

-- what the words ask for
abbrev pub drawn : Drawing → Asking
drawn d = draw d.broker d.account d.key d.order d.amount

abbrev pub bought : Buying → Asking
bought b = buy b.broker b.vendor b.amount b.limit

abbrev pub got : Getting → Asking
got g = get g.vendor g.target g.limit

-- what it does, up to the line that is said
abbrev pub WorksOn : {O : Type 0} → (O → LinkView) → (O → DiskView) → WalletOperation → O → Status → O → Type 0
WorksOn link disk (wallets.Take wallet) a status b = Takes link disk a status b
WorksOn link disk (wallets.Draw drawing) a status b = Pays link disk (drawn drawing) a status b
WorksOn link disk (wallets.Buy buying) a status b = Pays link disk (bought buying) a status b
WorksOn link disk (wallets.Get getting) a status b = Pays link disk (got getting) a status b
WorksOn link disk (wallets.Retry retrying) a status b = Retries link disk retrying.peer a status b
WorksOn link disk (wallets.List wallet) a status b = Lists link disk a status b
WorksOn link disk (wallets.Lines relaying) a status b = ListsLines link disk relaying.vendor a status b
WorksOn link disk (wallets.Chain wallet) a status b = Chains link disk a status b
WorksOn link disk (wallets.Renew renewing) a status b = Renews link disk renewing.vendor renewing.target renewing.before a status b
