-- The first entry of a wallet's book.
use Rattle.mc_records.specs.Entry.{Entry, Site}
use Rattle.scrip_journal.specs.Causes.{Only, FoundsSite}
use Rattle.wallet_book.specs.Book.{FoundsWallet}

pub founds_wallet : (e : Entry) → FoundsSite (Only 2) e → FoundsWallet e
founds_wallet (Site m k name house) founds = founds
founds_wallet e founds = absurd founds
