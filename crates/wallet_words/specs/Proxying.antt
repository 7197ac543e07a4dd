-- The words of a wallet that pays for what a browser asks.
use Rattle.std.specs.Prelude.{ℕ, List}
use Rattle.clap.specs.Walk.{Row}
use Rattle.command_table.specs.Table.{IsRead, form_of}
use Rattle.command_table.specs.Values.{AreFound}
use Rattle.command_table.specs.declared.table.CommandName.TheVariants as names
use Rattle.wallet_words.specs.declared.proxying.Proxying.{Proxying}
use Rattle.wallet_words.specs.Words.{proxying_values}

-- the words are `wallet proxy`, and spell these values
pub record AreProxyWords (words : List (List ℕ)) (p : Proxying) : Type 0 where
  pub rows : List Row
  pub read : IsRead names.WalletProxy words rows
  pub found' : AreFound rows (form_of names.WalletProxy).parameters (proxying_values p)

-- the words are other ones
abbrev pub AreNoProxyWords : List (List ℕ) → Type 0
AreNoProxyWords words = (p : Proxying) → AreProxyWords words p → ⊥
