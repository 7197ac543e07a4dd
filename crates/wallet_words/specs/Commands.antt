-- What an operation for the book of a wallet names.
use Rattle.std.specs.Prelude.{ℕ, List, Option, Some, None}
use Rattle.wallet_words.specs.declared.wallet_operation.WalletOperation.{WalletOperation}
use Rattle.wallet_words.specs.declared.wallet_operation.WalletOperation.TheVariants as wallets

-- its book
abbrev pub wallet_book_of : WalletOperation → List ℕ
wallet_book_of (wallets.Take wallet) = wallet.book
wallet_book_of (wallets.Draw drawing) = drawing.book
wallet_book_of (wallets.Buy buying) = buying.book
wallet_book_of (wallets.Get getting) = getting.book
wallet_book_of (wallets.Retry retrying) = retrying.book
wallet_book_of (wallets.List wallet) = wallet.book
wallet_book_of (wallets.Lines relaying) = relaying.book
wallet_book_of (wallets.Chain wallet) = wallet.book
wallet_book_of (wallets.Renew renewing) = renewing.book

-- where its link goes, where it has one
abbrev pub connect_of : WalletOperation → Option (List ℕ)
connect_of (wallets.Take wallet) = None
connect_of (wallets.Draw drawing) = Some drawing.connect
connect_of (wallets.Buy buying) = Some buying.connect
connect_of (wallets.Get getting) = Some getting.connect
connect_of (wallets.Retry retrying) = Some retrying.connect
connect_of (wallets.List wallet) = None
connect_of (wallets.Lines relaying) = None
connect_of (wallets.Chain wallet) = None
connect_of (wallets.Renew renewing) = Some renewing.connect
