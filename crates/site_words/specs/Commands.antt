-- The words of `vendor once`, and the book that an operation is for.
use Rattle.std.specs.Prelude.{ℕ, List}
use Rattle.command_table.specs.declared.table.CommandName.TheVariants as names
use Rattle.command_table.specs.Table.{AreOf}
use Rattle.site_words.specs.declared.operation.Operation.{Operation}
use Rattle.site_words.specs.declared.operation.Operation.TheVariants.{Goods, Price, Licence, Mint, Upgrade, Chain, List as Listed, Status}
use Rattle.site_words.specs.declared.broker_operation.BrokerOperation.{BrokerOperation}
use Rattle.site_words.specs.declared.broker_operation.BrokerOperation.TheVariants as brokers
use Rattle.site_words.specs.Words.{Shop, shop_values}

-- the words are `vendor once`, and spell this shop
abbrev pub AreOnceWords : List (List ℕ) → Shop → Type 0
AreOnceWords words shop = AreOf names.VendorOnce words (shop_values shop)

-- the words are of no shop
abbrev pub AreNoOnceWords : List (List ℕ) → Type 0
AreNoOnceWords words = (shop : Shop) → AreOnceWords words shop → ⊥

-- the book that an operation of a vendor's operator is for
abbrev pub book_of : Operation → List ℕ
book_of (Goods listing) = listing.book
book_of (Price pricing) = pricing.book
book_of (Licence licensing) = licensing.book
book_of (Mint minting) = minting.book
book_of (Upgrade upgrading) = upgrading.book
book_of (Chain switching) = switching.book
book_of (Listed looking) = looking.book
book_of (Status looking) = looking.book

-- and one of a broker's
abbrev pub broker_book_of : BrokerOperation → List ℕ
broker_book_of (brokers.Account opening) = opening.book
broker_book_of (brokers.Deposit payment) = payment.book
broker_book_of (brokers.Withdraw payment) = payment.book
broker_book_of (brokers.Balance inquiry) = inquiry.book
broker_book_of (brokers.Licence taking) = taking.book
broker_book_of (brokers.Stock stocking) = stocking.book
broker_book_of (brokers.Upgrade upgrading) = upgrading.book
broker_book_of (brokers.Chain switching) = switching.book
broker_book_of (brokers.List looking) = looking.book
broker_book_of (brokers.Status looking) = looking.book
