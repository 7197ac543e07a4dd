-- What comes first in the book of a wallet, and what a Switch in it tells.
use Rattle.std.specs.Prelude.{◌≡◌, not, true, []}
use Rattle.std.proofs.lemmas.Slice.Eq.{bytes_eq-Decides}
use Rattle.mc_records.specs.Entry.{Entry, Site, Switch}
use Rattle.mc_records.specs.Chains.{chain, has_switch, TellsChain}
use Rattle.ledger_model.specs.Histories.{History}
use Rattle.wallet_model.specs.Follows.{is_wallet, wallet_allows, WalletFollows}
use Rattle.wallet_model.proofs.KeptLaws.{both_right}
use Rattle.book_opening.specs.Opener.{IsSite}

is_site : (e : Entry) → wallet_allows [] e ≡ true → IsSite e
is_site (Site m kind name house) allowed = tt
is_site e allowed = absurd cc

-- only a Site entry may
pub site_first : (e : Entry) → WalletFollows [] e → IsSite e
site_first e may = is_site e may.allowed

-- a Switch that may follow tells the chain of the entries before it
pub tells_chain : (h : History) (e : Entry) → WalletFollows h e → TellsChain h e
tells_chain h e may = tells e may.allowed
  where
    tells : (x : Entry) → wallet_allows h x ≡ true → TellsChain h x
    tells (Switch m c) allowed = (bytes_eq-Decides c (chain h)).0 (both_right (not (has_switch h)) _ (both_right (is_wallet h) _ allowed))
    tells x allowed = tt
