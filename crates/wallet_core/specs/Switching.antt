-- What comes of switching the book of a wallet.
use Rattle.std.specs.Prelude.{◌≡◌, ℕ, Bool, true, false, length, Option, Some, None, IsSome, Ok}
use Rattle.mc_outside.specs.DiskView.{DiskView, Ran}
use Rattle.mc_records.specs.Chains.{chain, has_switch}
use Rattle.mc_records.specs.Entry.{Entry, Switch}
use Rattle.ledger_model.specs.Histories.{History}
use Rattle.scrip_journal.specs.Exits.{EncodesNoOutput}
use Rattle.wallet_core.specs.WalletView.{WalletView}
use Rattle.wallet_core.specs.declared.outcome.WalletOut.{WalletOut}
use Rattle.wallet_core.specs.declared.outcome.WalletOut.TheVariants.{Done}
use Rattle.wallet_core.specs.Outcomes.{IsAsItWas, Performs}

-- the number of the entry that was added
abbrev pub TellsAdded : History → Entry → Option ℕ → Type 0
TellsAdded h e answer = answer ≡ Some (length h)

-- Nothing is done, and no entry is told: the wallet is as it was, and a crash leaves the entries as they were.
abbrev pub StaysAsItWas : {D : Type 0} → (D → DiskView) → WalletView D → History → WalletOut D (Option ℕ) → Type 0
StaysAsItWas view old h (Done x None) = IsAsItWas view old x h × Ran (view old.journal.disk) (view x.journal.disk) (EncodesNoOutput h (view old.journal.disk).aside)
StaysAsItWas view old h _ = ⊥

-- where it is done, the chain of the wallet that goes on is known
abbrev pub KnowsChain : {D A : Type 0} → WalletOut D A → Type 0
KnowsChain (Done x a) = IsSome x.journal.chain
KnowsChain _ = Unit {0}

-- where a Switch stands, and where none does
abbrev pub SwitchesBy : {D : Type 0} → Bool → (D → DiskView) → WalletView D → History → WalletOut D (Option ℕ) → Type 0
SwitchesBy true view old h result = StaysAsItWas view old h result
SwitchesBy false view old h result = Performs view old h (Ok (Switch old.book.time (chain h))) (TellsAdded h) result

-- a book without a Switch gets one, of the wallet's time, which tells the chain of its entries
abbrev pub Switches : {D : Type 0} → (D → DiskView) → WalletView D → History → WalletOut D (Option ℕ) → Type 0
Switches view old h result = SwitchesBy (has_switch h) view old h result
